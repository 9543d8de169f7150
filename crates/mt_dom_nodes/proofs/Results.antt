-- What a vector of nodes holds after each change, from what its steps did to each node.
use Rattle.std.proofs.Common.{◌≡◌, ◌≢◌, ◌<◌, ◌≤◌, ◌+◌, ◌==◌, ℕ, zero, suc, true, false, List, [], ◌∷◌, ◌++◌, length, length-append, take, drop, refl, sym, ap, ◌∙◌, subst, arith, Option, None, Some, ◌⊎◌, inl, inr, IfSome, slice_get}
use Rattle.std.proofs.Math.Seq.{take-append_seam}
use Rattle.mt_dom_nodes.specs.declared.content.Content.{Content}
use Rattle.mt_dom_nodes.specs.declared.node.Node.{Node}
use Rattle.std.proofs.lemmas.Bool.Decides.{eqb_tells}
use Rattle.mt_dom_nodes.specs.Trees.{Trees, none, tree, head, count, size, without, put_second, moved, detached, created, is_above, Numbered, IsNode}
use Rattle.mt_dom_nodes.specs.Standing.{Stands, node_at, trees_of, Kept, parent_link, previous_link, next_link, last_link, with_place, changed, followed, preceded}
use Rattle.mt_dom_nodes.proofs.Standing.{frame, count-self, nat_at}
use Rattle.mt_dom_nodes.proofs.Neighbours.{some-is, Linked, linked, previous-back, parent-back, followed-is, preceded-is}
use Rattle.mt_dom_nodes.proofs.Changes.{Put, put, preceded-like, leads-not, borders-none, Unlinked, unlinked, Changed, appended, removed, second}
use Rattle.mt_dom_nodes.proofs.Counts.{without-count, put_second-count, put_second-size}
use Rattle.mt_dom_nodes.proofs.Upward.{not_below}

pub changed-like : (n : ℕ) (f : Option Node → Option Node) (look other : ℕ → Option Node) (m : ℕ) → look m ≡ other m → changed n f look m ≡ changed n f other m
changed-like n f look other m e = rw e refl

-- the nodes that the links of a node name are in the vector
abbrev pub InVector : List Node → Option ℕ → Type 0
InVector nodes link = IfSome link (λ k. (0 < k) × (k ≤ length nodes))

pub known-in : (nodes : List Node) → Kept nodes → (k : ℕ) → 0 < count k (trees_of nodes) → (0 < k) × (k ≤ length nodes)
known-in nodes kept k h = let w = kept.numbered.known k h in let sized = kept.sized in (w.0, (let le = w.1 in omega arith))

pub is-in : (nodes : List Node) → Kept nodes → (c : ℕ) → IsNode c (trees_of nodes) → 0 < count c (trees_of nodes)
is-in nodes kept c h = let one = kept.numbered.inside c h.0 h.1 in omega arith

module _ (nodes : List Node) (kept : Kept nodes) (c : ℕ) (h : IsNode c (trees_of nodes)) where
  own : Linked (node_at nodes) None None (trees_of nodes) c
  own = linked (node_at nodes) None None (trees_of nodes) c kept.stands (is-in nodes kept c h)

  in_vector : (link : Option ℕ) → ((k : ℕ) → link ≡ Some k → 0 < count k (trees_of nodes)) → InVector nodes link
  in_vector None f = tt
  in_vector (Some k) f = known-in nodes kept k (f k refl)

  pub parent-in : InVector nodes (parent_link (node_at nodes c))
  parent-in = in_vector (parent_link (node_at nodes c)) (λ k e. parent-back (node_at nodes) (trees_of nodes) c own k e)

  pub previous-in : InVector nodes (previous_link (node_at nodes c))
  previous-in = in_vector (previous_link (node_at nodes c)) (λ k e. (previous-back (node_at nodes) (trees_of nodes) c own k e).1)

  pub next-in : InVector nodes (next_link (node_at nodes c))
  next-in = in_vector (next_link (node_at nodes c)) (λ k e. (own.next k e).1)

-- a tree taken out of a vector of nodes
pub out : (old mid : List Node) → Kept old → (c : ℕ) → IsNode c (trees_of old) → c ≢ 1
    → ((m : ℕ) → node_at mid m ≡ preceded (parent_link (node_at old c)) (next_link (node_at old c)) (previous_link (node_at old c))
    (followed (parent_link (node_at old c)) (previous_link (node_at old c)) (next_link (node_at old c)) (node_at old)) m)
    → Unlinked (node_at mid) (trees_of old) c
out old mid kept c h other is = unlinked (node_at old) (node_at mid) (trees_of old) kept.stands kept.numbered c (is-in old kept c h) other is

module _ (old mid after before new : List Node) (kept : Kept old) (p c : ℕ) (hp : IsNode p (trees_of old)) (hc : IsNode c (trees_of old)) (long : length new ≡ length old)
    (apart : is_above c p (trees_of old) ≡ false) (u : Unlinked (node_at mid) (trees_of old) c) (last : Option ℕ) (last_is : last ≡ last_link (node_at mid p))
    (step1 : (m : ℕ) → node_at after m ≡ followed (Some p) last (Some c) (node_at mid) m)
    (step2 : (m : ℕ) → node_at before m ≡ preceded (Some p) None (Some c) (node_at after) m)
    (step3 : (m : ℕ) → node_at new m ≡ changed c (with_place (Some p) last None) (node_at before) m) where
  steps : (m : ℕ) → node_at new m ≡ changed c (with_place (Some p) (last_link (node_at mid p)) None) (preceded (Some p) None (Some c) (followed (Some p) (last_link (node_at mid p)) (Some c) (node_at mid))) m
  steps m = step3 m
      ∙ changed-like c (with_place (Some p) last None) (node_at before) (preceded (Some p) None (Some c) (followed (Some p) last (Some c) (node_at mid))) m
      (step2 m ∙ preceded-like (Some p) None (Some c) (node_at after) (followed (Some p) last (Some c) (node_at mid)) m (step1 m))
      ∙ ap (λ l. changed c (with_place (Some p) l None) (preceded (Some p) None (Some c) (followed (Some p) l (Some c) (node_at mid))) m) last_is

  pub append-result : Put new (moved p c (trees_of old))
  append-result = from (appended (node_at mid) (node_at new) (trees_of old) kept.numbered p c u (is-in old kept p hp) (is-in old kept c hc) (not_below (trees_of old) kept.numbered.once c p apart) steps) where
    from : Changed (node_at new) (trees_of old) (moved p c (trees_of old)) → Put new (moved p c (trees_of old))
    from w = put new (moved p c (trees_of old)) w.stands w.numbered (w.sized ∙ kept.sized ∙ sym long)

module _ (old mid after before new : List Node) (kept : Kept old) (c : ℕ) (hc : IsNode c (trees_of old)) (long : length new ≡ length old)
    (u : Unlinked (node_at mid) (trees_of old) c) (next : Option ℕ) (next_is : next ≡ next_link (node_at mid 1))
    (step1 : (m : ℕ) → node_at after m ≡ followed None (Some 1) (Some c) (node_at mid) m)
    (step2 : (m : ℕ) → node_at before m ≡ preceded None next (Some c) (node_at after) m)
    (step3 : (m : ℕ) → node_at new m ≡ changed c (with_place None (Some 1) next) (node_at before) m) where
  walks : (m : ℕ) → node_at new m ≡ changed c (with_place None (Some 1) (next_link (node_at mid 1))) (preceded None (next_link (node_at mid 1)) (Some c) (followed None (Some 1) (Some c) (node_at mid))) m
  walks m = step3 m
      ∙ changed-like c (with_place None (Some 1) next) (node_at before) (preceded None next (Some c) (followed None (Some 1) (Some c) (node_at mid))) m
      (step2 m ∙ preceded-like None next (Some c) (node_at after) (followed None (Some 1) (Some c) (node_at mid)) m (step1 m))
      ∙ ap (λ l. changed c (with_place None (Some 1) l) (preceded None l (Some c) (followed None (Some 1) (Some c) (node_at mid))) m) next_is

  pub remove-result : Put new (detached c (trees_of old))
  remove-result = from (removed (node_at mid) (node_at new) (trees_of old) kept.numbered c u walks) where
    from : Changed (node_at new) (trees_of old) (detached c (trees_of old)) → Put new (detached c (trees_of old))
    from w = put new (detached c (trees_of old)) w.stands w.numbered (w.sized ∙ kept.sized ∙ sym long)

-- a node more at the end of a vector
pub get-append : {X : Type 0} (xs : List X) (x : X) (k : ℕ) → k < length xs → slice_get (xs ++ x ∷ []) k ≡ slice_get xs k
get-append [] x k h = absurd (omega arith)
get-append (y ∷ ys) x zero h = refl
get-append (y ∷ ys) x (suc k) h = get-append ys x k (omega arith)

pub get-last : {X : Type 0} (xs : List X) (x : X) → slice_get (xs ++ x ∷ []) (length xs) ≡ Some x
get-last [] x = refl
get-last (y ∷ ys) x = get-last ys x

pub node-append : (old : List Node) (d : Node) (k : ℕ) → 0 < k → k ≤ length old → node_at (old ++ d ∷ []) k ≡ node_at old k
node-append old d zero some le = absurd (omega arith)
node-append old d (suc k) some le = get-append old d k (omega arith)

pub node-last : (old : List Node) (d : Node) → node_at (old ++ d ∷ []) (suc (length old)) ≡ Some d
node-last old d = get-last old d

abbrev made : Option ℕ → Option ℕ → Option ℕ → Option ℕ → Option ℕ → Content → Option Node
made p v n f l x = Some (record { parent = p; previous = v; next = n; first = f; last = l; content = x })

-- one tree more, of the next number
pub numbered-more : (t : Trees) (x : Content) (n : ℕ) → n ≡ 1 + size t → Numbered t → head (put_second (tree n x none none) t) ≡ Some 1 → Numbered (put_second (tree n x none none) t)
numbered-more t x n is w page = record {
  once = λ k. once-at k (eqb_tells n k) (put_second-count k (tree n x none none) t);
  inside = λ k some le. inside-at k some le (eqb_tells n k) (put_second-count k (tree n x none none) t);
  known = λ k h. known-at k h (eqb_tells n k) (put_second-count k (tree n x none none) t);
  page = page;
} where
  gone : (k : ℕ) → n ≡ k → count k t ≡ 0
  gone k e = elim (nat_at 0 (count k t)) [ inl i ↦ absurd (let le = (w.known k i).1 in omega arith) | inr i ↦ omega arith ]

  sizes : size (put_second (tree n x none none) t) ≡ 1 + size t
  sizes = let s = put_second-size (tree n x none none) t in omega arith

  once-at : (k : ℕ) → ((n == k) ≡ true × (n ≡ k)) ⊎ ((n == k) ≡ false × (n ≢ k)) → count k (put_second (tree n x none none) t) ≡ count k t + count k (tree n x none none) → count k (put_second (tree n x none none) t) ≤ 1
  once-at k (inl e) adds = let a = rw e.0 at adds in let g = gone k e.1 in omega arith
  once-at k (inr e) adds = let a = rw e.0 at adds in let one = w.once k in omega arith

  inside-at : (k : ℕ) → 0 < k → k ≤ size (put_second (tree n x none none) t) → ((n == k) ≡ true × (n ≡ k)) ⊎ ((n == k) ≡ false × (n ≢ k)) → count k (put_second (tree n x none none) t) ≡ count k t + count k (tree n x none none) → count k (put_second (tree n x none none) t) ≡ 1
  inside-at k some le (inl e) adds = let a = rw e.0 at adds in let g = gone k e.1 in omega arith
  inside-at k some le (inr e) adds = let a = rw e.0 at adds in let apart = e.1 in let s = sizes in let one = w.inside k some (omega arith) in omega arith

  known-at : (k : ℕ) → 0 < count k (put_second (tree n x none none) t) → ((n == k) ≡ true × (n ≡ k)) ⊎ ((n == k) ≡ false × (n ≢ k)) → count k (put_second (tree n x none none) t) ≡ count k t + count k (tree n x none none) → (0 < k) × (k ≤ size (put_second (tree n x none none) t))
  known-at k h (inl e) adds = let s = sizes in let same = e.1 in (omega arith, omega arith)
  known-at k h (inr e) adds = let a = rw e.0 at adds in let s = sizes in let u = w.known k (omega arith) in (u.0, (let le = u.1 in omega arith))

module _ (old after new : List Node) (d : Node) (kept : Kept old) (n : ℕ) (n_is : n ≡ 1 + size (trees_of old)) (long : length new ≡ length old + 1)
    (no_parent : d.parent ≡ None) (page_before : d.previous ≡ Some 1) (next_is : d.next ≡ next_link (node_at old 1)) (no_first : d.first ≡ None) (no_last : d.last ≡ None)
    (step1 : (m : ℕ) → node_at after m ≡ followed None (Some 1) (Some n) (node_at (old ++ d ∷ [])) m)
    (step2 : (m : ℕ) → node_at new m ≡ preceded None (next_link (node_at old 1)) (Some n) (node_at after) m) where
  last_number : n ≡ suc (length old)
  last_number = let sized = kept.sized in omega arith

  as_before : (k : ℕ) → 0 < count k (trees_of old) → node_at (old ++ d ∷ []) k ≡ node_at old k
  as_before k h = let w = known-in old kept k h in node-append old d k w.0 w.1

  page_in : 0 < count 1 (trees_of old)
  page_in = at (trees_of old) kept.numbered.page where
    at : (l : Trees) → head l ≡ Some 1 → 0 < count 1 l
    at none f = absurd (cc)
    at (tree j z e l) f = subst (λ i. 0 < count i (tree j z e l)) (some-is j 1 f) (count-self j z e l)

  same_next : next_link (node_at old 1) ≡ next_link (node_at (old ++ d ∷ []) 1)
  same_next = ap next_link (sym (as_before 1 page_in))

  standing : Stands (node_at (old ++ d ∷ [])) None None (trees_of old)
  standing = frame (node_at old) (node_at (old ++ d ∷ [])) None None (trees_of old) as_before kept.stands

  absent-n : count n (trees_of old) ≡ 0
  absent-n = elim (nat_at 0 (count n (trees_of old))) [ inl i ↦ absurd (let le = (kept.numbered.known n i).1 in omega arith) | inr i ↦ omega arith ]

  linked-in : (m : ℕ) → node_at new m ≡ preceded None (next_link (node_at (old ++ d ∷ []) 1)) (Some n) (followed None (Some 1) (Some n) (node_at (old ++ d ∷ []))) m
  linked-in m = step2 m ∙ preceded-like None (next_link (node_at old 1)) (Some n) (node_at after) (followed None (Some 1) (Some n) (node_at (old ++ d ∷ []))) m (step1 m)
      ∙ ap (λ o. preceded None o (Some n) (followed None (Some 1) (Some n) (node_at (old ++ d ∷ []))) m) same_next

  not_page : Some 1 ≢ Some n
  not_page e = let le = (kept.numbered.known 1 page_in).1 in let one = some-is 1 n e in omega arith

  not_next : next_link (node_at (old ++ d ∷ []) 1) ≢ Some n
  not_next e = let w = ((linked (node_at (old ++ d ∷ [])) None None (trees_of old) 1 standing page_in).next n e).1 in let g = absent-n in omega arith

  last_node : node_at new n ≡ Some (record { parent = None; previous = Some 1; next = next_link (node_at (old ++ d ∷ []) 1); first = None; last = None; content = d.content })
  last_node = linked-in n
      ∙ preceded-is None (next_link (node_at (old ++ d ∷ []) 1)) (Some n) (followed None (Some 1) (Some n) (node_at (old ++ d ∷ []))) n _
      (followed-is None (Some 1) (Some n) (node_at (old ++ d ∷ [])) n d (ap (node_at (old ++ d ∷ [])) last_number ∙ node-last old d))
      ∙ rw (leads-not (Some 1) n not_page, leads-not (next_link (node_at (old ++ d ∷ []) 1)) n not_next, borders-none (next_link (node_at (old ++ d ∷ []) 1)) n) fields where
        fields : made d.parent d.previous d.next d.first d.last d.content ≡ made None (Some 1) (next_link (node_at (old ++ d ∷ []) 1)) None None d.content
        fields = ap (λ o. made o d.previous d.next d.first d.last d.content) no_parent
            ∙ ap (λ o. made None o d.next d.first d.last d.content) page_before
            ∙ ap (λ o. made None (Some 1) o d.first d.last d.content) (next_is ∙ same_next)
            ∙ ap (λ o. made None (Some 1) (next_link (node_at (old ++ d ∷ []) 1)) o d.last d.content) no_first
            ∙ ap (λ o. made None (Some 1) (next_link (node_at (old ++ d ∷ []) 1)) None o d.content) no_last

  pub create-result : Put new (created d.content (trees_of old))
  create-result = subst (λ k. Put new (put_second (tree k d.content none none) (trees_of old))) n_is (at (second (node_at (old ++ d ∷ [])) (node_at new) (trees_of old) n d.content none standing kept.numbered.page kept.numbered.once absent-n (λ m apart. linked-in m) last_node tt)) where
    at : Stands (node_at new) None None (put_second (tree n d.content none none) (trees_of old)) × (head (put_second (tree n d.content none none) (trees_of old)) ≡ Some 1) → Put new (put_second (tree n d.content none none) (trees_of old))
    at w = put new (put_second (tree n d.content none none) (trees_of old)) w.0 (numbered-more (trees_of old) d.content n n_is kept.numbered w.1)
        (let s = put_second-size (tree n d.content none none) (trees_of old) in let sized = kept.sized in omega arith)

-- a link to a node within a length
abbrev pub InRange : ℕ → Option ℕ → Type 0
InRange n link = IfSome link (λ k. (0 < k) × (k ≤ n))

pub in-range : (n m : ℕ) (link : Option ℕ) → n ≡ m → InRange n link → InRange m link
in-range n m link e h = subst (λ k. InRange k link) e h

module _ (old mid : List Node) (kept : Kept old) (c : ℕ) (u : Unlinked (node_at mid) (trees_of old) c) where
  left-known : (k : ℕ) → 0 < count k (without c (trees_of old)) → (0 < k) × (k ≤ length old)
  left-known k h = known-in old kept k (let sums = without-count c k (trees_of old) (kept.numbered.once c) in omega arith)

  ranged : (link : Option ℕ) → ((k : ℕ) → link ≡ Some k → 0 < count k (without c (trees_of old))) → InRange (length old) link
  ranged None f = tt
  ranged (Some k) f = left-known k (f k refl)

  pub next-known : InRange (length old) (next_link (node_at mid 1))
  next-known = ranged (next_link (node_at mid 1)) (λ k e. ((linked (node_at mid) None None (without c (trees_of old)) 1 u.stands (head-in (without c (trees_of old)) u.page)).next k e).1) where
    head-in : (l : Trees) → head l ≡ Some 1 → 0 < count 1 l
    head-in none f = absurd (cc)
    head-in (tree j z e l) f = subst (λ i. 0 < count i (tree j z e l)) (some-is j 1 f) (count-self j z e l)

pub last-known : (old mid : List Node) (kept : Kept old) (p c : ℕ) → IsNode p (trees_of old) → IsNode c (trees_of old) → is_above c p (trees_of old) ≡ false
    → Unlinked (node_at mid) (trees_of old) c → InRange (length old) (last_link (node_at mid p))
last-known old mid kept p c hp hc apart u = ranged old mid kept c u (last_link (node_at mid p)) (λ k e. ((linked (node_at mid) None None (without c (trees_of old)) p u.stands in_left).last k e).2) where
  in_left : 0 < count p (without c (trees_of old))
  in_left = let sums = without-count c p (trees_of old) (kept.numbered.once c) in let one = is-in old kept p hp in let none_of = not_below (trees_of old) kept.numbered.once c p apart in omega arith

-- what is written through a borrow of the whole vector
pub back : {X : Type 0} (n : ℕ) (xs ys : List X) → n ≡ length xs → take n (xs ++ ys) ≡ xs
back n xs ys e = rw e (take-append_seam xs ys)

abbrev pub newest : Option ℕ → Content → Node
newest next x = record { parent = None; previous = Some 1; next = next; first = None; last = None; content = x }

module _ (old pushed after again new items : List Node) (len n : ℕ) (next : Option ℕ) (x : Content) (kept : Kept old)
    (pushed_is : pushed ≡ old ++ newest next x ∷ []) (len_is : length pushed ≡ len) (again_is : again ≡ take len (after ++ drop (length after) items))
    (after_long : length after ≡ length pushed) (new_long : length new ≡ length again) (n_is : n ≡ len) (next_is : next ≡ next_link (node_at old 1))
    (step1 : (m : ℕ) → node_at after m ≡ followed None (Some 1) (Some n) (node_at pushed) m)
    (step2 : (m : ℕ) → node_at new m ≡ preceded None next (Some n) (node_at again) m) where
  again_after : again ≡ after
  again_after = again_is ∙ back len after (drop (length after) items) (sym len_is ∙ sym after_long)

  longer : length pushed ≡ length old + 1
  longer = ap length pushed_is ∙ length-append old (newest next x ∷ [])

  new_after : length new ≡ length after
  new_after = new_long ∙ ap length again_after

  made_so : Put new (created x (trees_of old))
  made_so = create-result old after new (newest next x) kept n
      (let sized = kept.sized in let l = longer in omega arith)
      (new_after ∙ after_long ∙ longer) refl refl next_is refl refl
      (λ m. step1 m ∙ ap (λ l. followed None (Some 1) (Some n) (node_at l) m) pushed_is)
      (λ m. step2 m ∙ ap (λ l. preceded None next (Some n) (node_at l) m) again_after ∙ ap (λ o. preceded None o (Some n) (node_at after) m) next_is)

  written : take len (new ++ drop (length new) (take len (after ++ drop (length after) items))) ≡ new
  written = back len new (drop (length new) (take len (after ++ drop (length after) items))) (sym len_is ∙ sym after_long ∙ sym new_after)

  pub create-whole : Put (take len (new ++ drop (length new) (take len (after ++ drop (length after) items)))) (created x (trees_of old))
  create-whole = subst (λ l. Put l (created x (trees_of old))) (sym written) made_so
