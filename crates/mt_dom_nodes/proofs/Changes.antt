-- The trees that stand in nodes once some links were changed.
use Rattle.std.proofs.Common.{◌≡◌, ◌≢◌, ◌<◌, ◌≤◌, ◌+◌, ◌==◌, ℕ, Bool, true, false, List, length, refl, sym, ap, ◌∙◌, subst, arith, Option, None, Some, inl, inr}
use Rattle.std.proofs.lemmas.Bool.Decides.{eqb_tells}
use Rattle.mt_dom_nodes.specs.declared.content.Content.{Content}
use Rattle.mt_dom_nodes.specs.declared.node.Node.{Node}
use Rattle.mt_dom_nodes.specs.Trees.{Trees, none, tree, head, count, size, without, found, with_last, put_second, moved, detached, Numbered}
use Rattle.mt_dom_nodes.specs.Standing.{Stands, chain, node_at, trees_of, Kept, last_from, parent_link, previous_link, next_link, first_link, last_link, with_place, changed, followed, preceded}
use Rattle.mt_dom_nodes.proofs.Standing.{chain-Stands, frame, count-self, count-own, skip, skip-same, passed, without-stands, told, filled, is, lengthened, with_last-stands, Spot, spot}
use Rattle.mt_dom_nodes.proofs.Neighbours.{some-is, Linked, linked, leads, borders, leads-true, leads-self, borders-true, borders-self, followed-is, preceded-is, passes, ends-back}
use Rattle.mt_dom_nodes.proofs.Counts.{without-absent, without-count, without-size, with_last-count, with_last-size, put_second-count, put_second-size, renumbered}

-- trees that stand from the first node on are those of the vector
pub settled : (nodes : List Node) (t : Trees) → Stands (node_at nodes) None None t → head t ≡ Some 1 → size t ≤ length nodes → trees_of nodes ≡ t
settled nodes t s h le = ap (chain (length nodes) (node_at nodes)) (sym h) ∙ chain-Stands (length nodes) (node_at nodes) None None t s le

pub record Put (new : List Node) (t : Trees) : Type 0 where
  pub kept : Kept new
  pub trees : trees_of new ≡ t

pub put : (new : List Node) (t : Trees) → Stands (node_at new) None None t → Numbered t → size t ≡ length new → Put new t
put new t s n sized = record {
  kept = record { stands = subst (Stands (node_at new) None None) (sym same) s; numbered = subst Numbered (sym same) n; sized = ap size same ∙ sized };
  trees = same;
} where
  same : trees_of new ≡ t
  same = settled new t s n.page (omega arith)

-- what a change leaves as it is
pub changed-same : (n : ℕ) (f : Option Node → Option Node) (look : ℕ → Option Node) → changed n f look n ≡ f (look n)
changed-same n f look = elim (eqb_tells n n) [ inl h ↦ rw h.0 refl | inr h ↦ absurd (h.1 refl) ]

pub changed-other : (n : ℕ) (f : Option Node → Option Node) (look : ℕ → Option Node) (m : ℕ) → m ≢ n → changed n f look m ≡ look m
changed-other n f look m apart = elim (eqb_tells m n) [ inl h ↦ absurd (apart h.1) | inr h ↦ rw h.0 refl ]

pub followed-other : (p v l : Option ℕ) (look : ℕ → Option Node) (m : ℕ) → leads v m ≡ false → borders p v m ≡ false → followed p v l look m ≡ look m
followed-other p (Some v) l look m a b = rw a refl
followed-other (Some q) None l look m a b = rw b refl
followed-other None None l look m a b = refl

pub preceded-other : (p w l : Option ℕ) (look : ℕ → Option Node) (m : ℕ) → leads w m ≡ false → borders p w m ≡ false → preceded p w l look m ≡ look m
preceded-other p (Some w) l look m a b = rw a refl
preceded-other (Some q) None l look m a b = rw b refl
preceded-other None None l look m a b = refl

pub preceded-like : (p w l : Option ℕ) (look other : ℕ → Option Node) (m : ℕ) → look m ≡ other m → preceded p w l look m ≡ preceded p w l other m
preceded-like p (Some w) l look other m e = rw e refl
preceded-like (Some q) None l look other m e = rw e refl
preceded-like None None l look other m e = e

pub leads-not : (o : Option ℕ) (m : ℕ) → o ≢ Some m → leads o m ≡ false
leads-not None m h = refl
leads-not (Some v) m h = elim (eqb_tells m v) [ inl e ↦ absurd (h (ap (λ i. Some i) (sym e.1))) | inr e ↦ e.0 ]

pub borders-none : (o : Option ℕ) (m : ℕ) → borders None o m ≡ false
borders-none None m = refl
borders-none (Some v) m = refl

pub borders-other : (o : Option ℕ) (p m : ℕ) → (m == p) ≡ false → borders (Some p) o m ≡ false
borders-other None p m e = e
borders-other (Some v) p m e = refl

pub told-filled : (b e : Bool) (c : ℕ) (o : Option ℕ) → (b ≡ true → (e ≡ true) × (o ≡ None)) → (e ≡ true → o ≡ None → b ≡ true) → told b (Some c) o ≡ filled e c o
told-filled true e c o f g = let w = f refl in rw (w.0, w.1) refl
told-filled false true c None f g = absurd (let w = g refl refl in cc)
told-filled false true c (Some k) f g = refl
told-filled false false c o f g = refl

pub is-self : (p : ℕ) (o : Option ℕ) → o ≡ Some p → is p o ≡ true
is-self p o e = rw e (elim (eqb_tells p p) [ inl h ↦ h.0 | inr h ↦ absurd (h.1 refl) ])

pub is-true : (p : ℕ) (o : Option ℕ) → is p o ≡ true → o ≡ Some p
is-true p None e = absurd (cc)
is-true p (Some m) e = elim (eqb_tells m p) [ inl h ↦ ap (λ i. Some i) h.1 | inr h ↦ absurd (let f = h.0 in cc) ]

pub differ : (m k : ℕ) → m ≢ k → (m == k) ≡ false
differ m k apart = elim (eqb_tells m k) [ inl h ↦ absurd (apart h.1) | inr h ↦ h.0 ]

abbrev made : Option ℕ → Option ℕ → Option ℕ → Option ℕ → Option ℕ → Content → Option Node
made p v n f l x = Some (record { parent = p; previous = v; next = n; first = f; last = l; content = x })

-- nodes in which a tree was taken out by its own links
pub record Unlinked (mid : ℕ → Option Node) (t : Trees) (c : ℕ) : Type 0 where
  pub parent : Option ℕ
  pub previous : Option ℕ
  pub next : Option ℕ
  pub content : Content
  pub below : Trees
  pub stands : Stands mid None None (without c t)
  pub page : head (without c t) ≡ Some 1
  pub found_is : found c t ≡ tree c content below none
  pub under : Stands mid (Some c) None below
  pub alone : count c below ≡ 0
  pub node : mid c ≡ Some (record { parent = parent; previous = previous; next = next; first = head below; last = last_from None below; content = content })

module _ (look mid : ℕ → Option Node) (t : Trees) (s : Stands look None None t) (n : Numbered t) (c : ℕ) (here : 0 < count c t) (other : c ≢ 1)
    (mid_is : (m : ℕ) → mid m ≡ preceded (parent_link (look c)) (next_link (look c)) (previous_link (look c)) (followed (parent_link (look c)) (previous_link (look c)) (next_link (look c)) look) m) where
  pass : (m : ℕ) (d : Node) → 0 < count m t → look m ≡ Some d → mid m ≡ Some (passed c (next_link (look c)) (previous_link (look c)) d)
  pass m d h e = mid_is m ∙ passes look t s c here m d h e

  pub unlinked : Unlinked mid t c
  unlinked = from (spot look c None None t s here) (without-stands look mid c None None t (λ m d h a e. pass m d h e) s) where
    from : Spot look None None t c
        → Stands mid None (skip c (previous_link (look c)) None) (without c t) × (head (without c t) ≡ skip c (next_link (look c)) (head t)) × (last_from (skip c (previous_link (look c)) None) (without c t) ≡ skip c (previous_link (look c)) (last_from None t))
        → Unlinked mid t c
    from g w = record {
      parent = g.parent;
      previous = skip c (previous_link (look c)) g.previous;
      next = skip c (next_link (look c)) (head g.after);
      content = g.content;
      below = g.below;
      stands = w.0;
      page = w.1 ∙ ap (skip c (next_link (look c))) n.page ∙ skip-same c (next_link (look c)) (Some 1) (λ e. other (sym (some-is 1 c e)));
      found_is = g.found_is;
      under = subst (λ b. Stands mid (Some c) None b) same wb.0;
      alone = alone;
      node = pass c _ here g.node
          ∙ ap (λ f. made g.parent (skip c (previous_link (look c)) g.previous) (skip c (next_link (look c)) (head g.after)) f (skip c (previous_link (look c)) (last_from None g.below)) g.content) (sym heads)
          ∙ ap (λ l. made g.parent (skip c (previous_link (look c)) g.previous) (skip c (next_link (look c)) (head g.after)) (head g.below) l g.content) (sym lasts);
    } where
      alone : count c g.below ≡ 0
      alone = let le = g.once in let one = n.once c in omega arith

      same : without c g.below ≡ g.below
      same = without-absent c g.below alone

      wb : Stands mid (Some c) None (without c g.below) × (head (without c g.below) ≡ skip c (next_link (look c)) (head g.below)) × (last_from None (without c g.below) ≡ skip c (previous_link (look c)) (last_from None g.below))
      wb = without-stands look mid c (Some c) None g.below (λ m d h a e. pass m d (let le = g.part m in omega arith) e) g.below_stands

      heads : head g.below ≡ skip c (next_link (look c)) (head g.below)
      heads = ap head (sym same) ∙ wb.1

      lasts : last_from None g.below ≡ skip c (previous_link (look c)) (last_from None g.below)
      lasts = ap (last_from None) (sym same) ∙ wb.2

-- the trees after a change, which have the numbers of those before
pub record Changed (new : ℕ → Option Node) (t s : Trees) : Type 0 where
  pub stands : Stands new None None s
  pub numbered : Numbered s
  pub sized : size s ≡ size t

-- the tree that was taken out is put last below another
module _ (mid new : ℕ → Option Node) (t : Trees) (num : Numbered t) (p c : ℕ) (u : Unlinked mid t c) (hp : 0 < count p t) (hc : 0 < count c t) (apart : count p (found c t) ≡ 0)
    (new_is : (m : ℕ) → new m ≡ changed c (with_place (Some p) (last_link (mid p)) None) (preceded (Some p) None (Some c) (followed (Some p) (last_link (mid p)) (Some c) mid)) m) where
  sums : (k : ℕ) → count k (without c t) + count k (found c t) ≡ count k t
  sums k = without-count c k t (num.once c)

  founds : (k : ℕ) → count k (found c t) ≡ count k (tree c u.content u.below none)
  founds k = ap (count k) u.found_is

  gone : count c (without c t) ≡ 0
  gone = let all = sums c in let f = founds c in let self = count-self c u.content u.below none in let one = num.once c in omega arith

  in_left : count p (without c t) ≡ 1
  in_left = let all = sums p in let one = num.once p in omega arith

  not_c : (m : ℕ) → 0 < count m (without c t) → m ≢ c
  not_c m h e = let g = gone in let same : count m (without c t) ≡ count c (without c t) = ap (λ k. count k (without c t)) e in omega arith

  parent : Linked mid None None (without c t) p
  parent = linked mid None None (without c t) p u.stands (let one = in_left in omega arith)

  grows : (m : ℕ) (d : Node) → 0 < count m (without c t) → mid m ≡ Some d → new m ≡ Some (lengthened p c m d)
  grows m d hm e = new_is m ∙ changed-other c (with_place (Some p) (last_link (mid p)) None) (preceded (Some p) None (Some c) (followed (Some p) (last_link (mid p)) (Some c) mid)) m (not_c m hm)
      ∙ preceded-is (Some p) None (Some c) (followed (Some p) (last_link (mid p)) (Some c) mid) m _ (followed-is (Some p) (last_link (mid p)) (Some c) mid m d e)
      ∙ rw (nexts, firsts) refl where
        own : Linked mid None None (without c t) m
        own = linked mid None None (without c t) m u.stands hm

        nexts : told (leads (last_link (mid p)) m) (Some c) d.next ≡ filled (is p d.parent) c d.next
        nexts = told-filled (leads (last_link (mid p)) m) (is p d.parent) c d.next
            (λ h. let w = parent.last m (leads-true (last_link (mid p)) m h) in (is-self p d.parent (sym (ap parent_link e) ∙ w.1), sym (ap next_link e) ∙ w.0))
            (λ h g. leads-self (last_link (mid p)) m (ends-back mid (without c t) m own p (ap next_link e ∙ g) (ap parent_link e ∙ is-true p d.parent h)))

        firsts : told (borders (Some p) (last_link (mid p)) m) (Some c) d.first ≡ filled (m == p) c d.first
        firsts = told-filled (borders (Some p) (last_link (mid p)) m) (m == p) c d.first
            (λ h. let w = borders-true (Some p) (last_link (mid p)) m h in (leads-self (Some p) m w.0, sym (ap first_link e) ∙ ap (λ k. first_link (mid k)) (sym (some-is p m w.0)) ∙ parent.empty w.1))
            (λ h g. borders-self (Some p) (last_link (mid p)) m (leads-true (Some p) m h) (ap (λ k. last_link (mid k)) (some-is p m (leads-true (Some p) m h)) ∙ own.full (ap first_link e ∙ g)))

  c_p : (c == p) ≡ false
  c_p = differ c p (λ e. not_c p (let one = in_left in omega arith) (sym e))

  below_found : (k : ℕ) → 0 < count k u.below → 0 < count k (found c t)
  below_found k h = let f = founds k in omega arith

  keeps : (k : ℕ) → 0 < count k u.below → new k ≡ mid k
  keeps k h = new_is k ∙ changed-other c (with_place (Some p) (last_link (mid p)) None) (preceded (Some p) None (Some c) (followed (Some p) (last_link (mid p)) (Some c) mid)) k k_c
      ∙ preceded-other (Some p) None (Some c) (followed (Some p) (last_link (mid p)) (Some c) mid) k refl k_p
      ∙ followed-other (Some p) (last_link (mid p)) (Some c) mid k k_last (borders-other (last_link (mid p)) p k k_p) where
        outside : count k (without c t) ≡ 0
        outside = let f = below_found k h in let all = sums k in let one = num.once k in omega arith

        k_c : k ≢ c
        k_c e = let a = u.alone in let same : count k u.below ≡ count c u.below = ap (λ i. count i u.below) e in omega arith

        k_p : (k == p) ≡ false
        k_p = differ k p (λ e. let o = outside in let i = in_left in let same : count k (without c t) ≡ count p (without c t) = ap (λ i. count i (without c t)) e in omega arith)

        k_last : leads (last_link (mid p)) k ≡ false
        k_last = leads-not (last_link (mid p)) k (λ e. let w = (parent.last k e).2 in let o = outside in omega arith)

  fits : Stands new (Some p) (last_link (mid p)) (tree c u.content u.below none)
  fits = (
    new_is c ∙ changed-same c (with_place (Some p) (last_link (mid p)) None) (preceded (Some p) None (Some c) (followed (Some p) (last_link (mid p)) (Some c) mid))
        ∙ ap (with_place (Some p) (last_link (mid p)) None) (preceded-is (Some p) None (Some c) (followed (Some p) (last_link (mid p)) (Some c) mid) c _ (followed-is (Some p) (last_link (mid p)) (Some c) mid c _ u.node))
        ∙ rw (borders-other (last_link (mid p)) p c c_p, c_p) refl,
    frame mid new (Some c) None u.below keeps u.under,
    tt,
  )

  pub appended : Changed new t (moved p c t)
  appended = record {
    stands = subst (λ s. Stands new None None (with_last p s (without c t))) (sym u.found_is) w.0;
    numbered = renumbered t (moved p c t) num (λ k. with_last-count p k (found c t) (without c t) in_left ∙ sums k) sizes (subst (λ s. head (with_last p s (without c t)) ≡ Some 1) (sym u.found_is) (w.1 ∙ u.page));
    sized = sizes;
  } where
    sizes : size (moved p c t) ≡ size t
    sizes = with_last-size p (found c t) (without c t) in_left ∙ without-size c t (num.once c)

    w : Stands new None None (with_last p (tree c u.content u.below none) (without c t)) × (head (with_last p (tree c u.content u.below none) (without c t)) ≡ head (without c t)) × (last_from None (with_last p (tree c u.content u.below none) (without c t)) ≡ last_from None (without c t))
    w = with_last-stands mid new p c u.content u.below fits None None (without c t) grows (λ e. absurd (cc)) u.stands

-- the trees after a place, once another tree stands before them
pub behind : (look new : ℕ → Option Node) (v : Option ℕ) (c : ℕ) (t : Trees) → Stands look None v t → ((k : ℕ) → count k t ≤ 1)
    → ((k : ℕ) → 0 < count k t → new k ≡ preceded None (head t) (Some c) look k) → Stands new None (Some c) t
behind look new v c none s once moves = tt
behind look new v c (tree k x b a) s once moves = (
  moves k (count-self k x b a) ∙ preceded-is None (Some k) (Some c) look k _ s.0 ∙ rw (leads-self (Some k) k refl) refl,
  frame look new (Some k) None b (λ j h. stays j (omega arith)) s.1,
  frame look new None (Some k) a (λ j h. stays j (omega arith)) s.2,
) where
  stays : (j : ℕ) → 0 < count j b + count j a → new j ≡ look j
  stays j h = moves j (omega arith) ∙ preceded-other None (Some k) (Some c) look j (leads-not (Some k) j (λ e. apart (sym (some-is k j e)))) refl where
    apart : j ≢ k
    apart e = let one = once k in let own = count-own k x b a in let same : count j b + count j a ≡ count k b + count k a = ap (λ i. count i b + count i a) e in omega arith

-- one more detached tree, after the page
pub second : (look new : ℕ → Option Node) (t : Trees) (c : ℕ) (x : Content) (below : Trees) → Stands look None None t → head t ≡ Some 1 → ((k : ℕ) → count k t ≤ 1) → count c t ≡ 0
    → ((m : ℕ) → m ≢ c → new m ≡ preceded None (next_link (look 1)) (Some c) (followed None (Some 1) (Some c) look) m)
    → new c ≡ Some (record { parent = None; previous = Some 1; next = next_link (look 1); first = head below; last = last_from None below; content = x })
    → Stands new (Some c) None below
    → Stands new None None (put_second (tree c x below none) t) × (head (put_second (tree c x below none) t) ≡ Some 1)
second look new none c x below s h once gone others here under = absurd (cc)
second look new (tree m y b a) c x below s h once gone others here under = (
  (
    others m (not_c m (count-self m y b a))
        ∙ preceded-is None (next_link (look 1)) (Some c) (followed None (Some 1) (Some c) look) m _ (followed-is None (Some 1) (Some c) look m _ s.0)
        ∙ rw (leads-self (Some 1) m (ap (λ i. Some i) (sym same)), next_not m (count-own m y b a), borders-none (next_link (look 1)) m) refl,
    frame look new (Some m) None b (λ k i. others k (not_c k (omega arith)) ∙ preceded-other None (next_link (look 1)) (Some c) (followed None (Some 1) (Some c) look) k (below_not k i) (borders-none (next_link (look 1)) k) ∙ page_not k (omega arith)) s.1,
    (
      here ∙ rw (follows, same) refl,
      under,
      behind look new (Some m) c a s.2 (λ k. let one = once k in omega arith)
          (λ k i. others k (not_c k (omega arith)) ∙ preceded-like None (next_link (look 1)) (Some c) (followed None (Some 1) (Some c) look) look k (page_not k (omega arith)) ∙ ap (λ o. preceded None o (Some c) look k) follows),
    ),
  ),
  ap (λ k. Some k) same,
) where
  same : m ≡ 1
  same = some-is m 1 h

  follows : next_link (look 1) ≡ head a
  follows = ap (λ i. next_link (look i)) (sym same) ∙ ap next_link s.0

  not_c : (k : ℕ) → 0 < count k (tree m y b a) → k ≢ c
  not_c k i e = let moved : count k (tree m y b a) ≡ count c (tree m y b a) = ap (λ v. count v (tree m y b a)) e in omega arith

  head-in : (k : ℕ) → next_link (look 1) ≡ Some k → 0 < count k a
  head-in k e = first_in a (sym follows ∙ e) where
    first_in : (l : Trees) → head l ≡ Some k → 0 < count k l
    first_in none f = absurd (cc)
    first_in (tree j z d l) f = subst (λ i. 0 < count i (tree j z d l)) (some-is j k f) (count-self j z d l)

  next_not : (k : ℕ) → count k (tree m y b a) ≡ 1 + count k b + count k a → leads (next_link (look 1)) k ≡ false
  next_not k own = leads-not (next_link (look 1)) k (λ e. let i = head-in k e in let one = once k in omega arith)

  below_not : (k : ℕ) → 0 < count k b → leads (next_link (look 1)) k ≡ false
  below_not k i = leads-not (next_link (look 1)) k (λ e. let j = head-in k e in let one = once k in omega arith)

  page_not : (k : ℕ) → 0 < count k b + count k a → followed None (Some 1) (Some c) look k ≡ look k
  page_not k i = followed-other None (Some 1) (Some c) look k (leads-not (Some 1) k (λ e. apart (same ∙ some-is 1 k e))) refl where
    apart : m ≢ k
    apart e = let one = once m in let own = count-own m y b a in let moved : count k b + count k a ≡ count m b + count m a = ap (λ v. count v b + count v a) (sym e) in omega arith

-- the tree that was taken out is put after the page
module _ (mid new : ℕ → Option Node) (t : Trees) (num : Numbered t) (c : ℕ) (u : Unlinked mid t c)
    (new_is : (m : ℕ) → new m ≡ changed c (with_place None (Some 1) (next_link (mid 1))) (preceded None (next_link (mid 1)) (Some c) (followed None (Some 1) (Some c) mid)) m) where
  total : (k : ℕ) → count k (without c t) + count k (found c t) ≡ count k t
  total k = without-count c k t (num.once c)

  finds : (k : ℕ) → count k (found c t) ≡ count k (tree c u.content u.below none)
  finds k = ap (count k) u.found_is

  absent : count c (without c t) ≡ 0
  absent = let all = total c in let f = finds c in let self = count-self c u.content u.below none in let one = num.once c in omega arith

  page_in : 0 < count 1 (without c t)
  page_in = at (without c t) u.page where
    at : (l : Trees) → head l ≡ Some 1 → 0 < count 1 l
    at none f = absurd (cc)
    at (tree j z d l) f = subst (λ i. 0 < count i (tree j z d l)) (some-is j 1 f) (count-self j z d l)

  page : Linked mid None None (without c t) 1
  page = linked mid None None (without c t) 1 u.stands page_in

  still : (k : ℕ) → 0 < count k u.below → new k ≡ mid k
  still k h = new_is k ∙ changed-other c (with_place None (Some 1) (next_link (mid 1))) (preceded None (next_link (mid 1)) (Some c) (followed None (Some 1) (Some c) mid)) k k_c
      ∙ preceded-other None (next_link (mid 1)) (Some c) (followed None (Some 1) (Some c) mid) k k_next (borders-none (next_link (mid 1)) k)
      ∙ followed-other None (Some 1) (Some c) mid k (leads-not (Some 1) k k_page) refl where
        outside : count k (without c t) ≡ 0
        outside = let f = finds k in let all = total k in let one = num.once k in omega arith

        k_c : k ≢ c
        k_c e = let a = u.alone in let same : count k u.below ≡ count c u.below = ap (λ i. count i u.below) e in omega arith

        k_page : Some 1 ≢ Some k
        k_page e = let o = outside in let i = page_in in let same : count 1 (without c t) ≡ count k (without c t) = ap (λ i. count i (without c t)) (some-is 1 k e) in omega arith

        k_next : leads (next_link (mid 1)) k ≡ false
        k_next = leads-not (next_link (mid 1)) k (λ e. let w = (page.next k e).1 in let o = outside in omega arith)

  pub removed : Changed new t (detached c t)
  removed = record {
    stands = subst (λ s. Stands new None None (put_second s (without c t))) (sym u.found_is) w.0;
    numbered = renumbered t (detached c t) num (λ k. put_second-count k (found c t) (without c t) ∙ total k) sizes (subst (λ s. head (put_second s (without c t)) ≡ Some 1) (sym u.found_is) w.1);
    sized = sizes;
  } where
    sizes : size (detached c t) ≡ size t
    sizes = put_second-size (found c t) (without c t) ∙ without-size c t (num.once c)

    w : Stands new None None (put_second (tree c u.content u.below none) (without c t)) × (head (put_second (tree c u.content u.below none) (without c t)) ≡ Some 1)
    w = second mid new (without c t) c u.content u.below u.stands u.page (λ k. let all = total k in let one = num.once k in omega arith) absent
        (λ m apart. new_is m ∙ changed-other c (with_place None (Some 1) (next_link (mid 1))) (preceded None (next_link (mid 1)) (Some c) (followed None (Some 1) (Some c) mid)) m apart)
        (new_is c ∙ changed-same c (with_place None (Some 1) (next_link (mid 1))) (preceded None (next_link (mid 1)) (Some c) (followed None (Some 1) (Some c) mid))
        ∙ ap (with_place None (Some 1) (next_link (mid 1))) (preceded-is None (next_link (mid 1)) (Some c) (followed None (Some 1) (Some c) mid) c _ (followed-is None (Some 1) (Some c) mid c _ u.node))
        ∙ rw (borders-none (next_link (mid 1)) c) refl)
        (frame mid new (Some c) None u.below still u.under)
