-- Trees that stand in nodes: the walk finds them again, and how they stand once links have changed.
use Rattle.std.proofs.Common.{◌≡◌, ◌≢◌, ◌<◌, ◌≤◌, ◌+◌, ◌==◌, ℕ, zero, suc, Bool, true, false, refl, sym, ap, ◌∙◌, subst, arith, if◌then◌else◌, Option, None, Some, ◌⊎◌, inl, inr}
use Rattle.std.proofs.lemmas.Bool.Decides.{eqb_tells, nat_tests}
use Rattle.std.proofs.Math.Dec.{ltb}
use borrow.Author.Tests.{ltb-true, ltb-false}
use Rattle.std.proofs.lemmas.Bool.{lt-ltb}
use Rattle.mt_dom_nodes.specs.declared.content.Content.{Content}
use Rattle.mt_dom_nodes.specs.declared.node.Node.{Node}
use Rattle.mt_dom_nodes.specs.Trees.{Trees, none, tree, head, count, size, joined, without, found, with_last, under, later, parent_in, content_of}
use Rattle.mt_dom_nodes.specs.Standing.{Stands, chain, last_from, parent_link, previous_link, next_link, last_link}

-- a node's own number counts
pub count-self : (m : ℕ) (x : Content) (b a : Trees) → 0 < count m (tree m x b a)
count-self m x b a = elim (eqb_tells m m) [ inl h ↦ rw h.0 (omega arith) | inr h ↦ absurd (h.1 refl) ]

pub count-own : (m : ℕ) (x : Content) (b a : Trees) → count m (tree m x b a) ≡ 1 + count m b + count m a
count-own m x b a = elim (eqb_tells m m) [ inl h ↦ rw h.0 refl | inr h ↦ absurd (h.1 refl) ]

pub nat_at : (i j : ℕ) → (i < j) ⊎ (j ≤ i)
nat_at i j = elim (ltb i j) as (λ v. ltb i j ≡ v → (i < j) ⊎ (j ≤ i)) [ true ↦ λ e. inl (ltb-true i j e) | false ↦ λ e. inr (ltb-false i j e) ] refl

pub ge-ltb : (i j : ℕ) → j ≤ i → ltb i j ≡ false
ge-ltb i j h = grind (arith, nat_tests)

-- the walk along the links finds the trees again
pub chain-Stands : (k : ℕ) (look : ℕ → Option Node) (p v : Option ℕ) (t : Trees) → Stands look p v t → size t ≤ k → chain k look (head t) ≡ t
chain-Stands zero look p v none s h = refl
chain-Stands (suc k) look p v none s h = refl
chain-Stands zero look p v (tree m x b a) s h = absurd (omega arith)
chain-Stands (suc k) look p v (tree m x b a) s h =
    rw s.0 (
    rw (chain-Stands k look (Some m) None b s.1 (omega arith)) (
    rw (chain-Stands k look p (Some m) a s.2 (omega arith)) refl))

module _ (look new : ℕ → Option Node) where
  -- trees stand where their nodes are as before
  pub frame : (p v : Option ℕ) (t : Trees) → ((m : ℕ) → 0 < count m t → new m ≡ look m) → Stands look p v t → Stands new p v t
  frame p v none same s = tt
  frame p v (tree m x b a) same s =
      (same m (count-self m x b a) ∙ s.0, frame (Some m) None b (λ k h. same k (omega arith)) s.1, frame p (Some m) a (λ k h. same k (omega arith)) s.2)

-- a link that passes one number by
abbrev pub skip : ℕ → Option ℕ → Option ℕ → Option ℕ
skip c past None = None
skip c past (Some m) = if m == c then past else Some m

pub skip-taken : (c : ℕ) (past : Option ℕ) → skip c past (Some c) ≡ past
skip-taken c past = elim (eqb_tells c c) [ inl h ↦ rw h.0 refl | inr h ↦ absurd (h.1 refl) ]

pub skip-same : (c : ℕ) (past link : Option ℕ) → link ≢ Some c → skip c past link ≡ link
skip-same c past None h = refl
skip-same c past (Some m) h = elim (eqb_tells m c) [ inl e ↦ absurd (h (ap (λ k. Some k) e.1)) | inr e ↦ rw e.0 refl ]

pub skip-past : (c : ℕ) (past : Option ℕ) → skip c past past ≡ past
skip-past c None = refl
skip-past c (Some m) = elim (eqb_tells m c) [ inl e ↦ rw e.0 refl | inr e ↦ rw e.0 refl ]

-- a node whose links pass c by: to what comes after c, or before
abbrev pub passed : ℕ → Option ℕ → Option ℕ → Node → Node
passed c after before d = record d { previous = skip c before d.previous; next = skip c after d.next; first = skip c after d.first; last = skip c before d.last }

-- where each link passes c by, the trees without c stand
pub without-stands : (look new : ℕ → Option Node) (c : ℕ) (p v : Option ℕ) (t : Trees)
    → ((m : ℕ) (d : Node) → 0 < count m t → m ≢ c → look m ≡ Some d → new m ≡ Some (passed c (next_link (look c)) (previous_link (look c)) d))
    → Stands look p v t
    → Stands new p (skip c (previous_link (look c)) v) (without c t)
    × (head (without c t) ≡ skip c (next_link (look c)) (head t))
    × (last_from (skip c (previous_link (look c)) v) (without c t) ≡ skip c (previous_link (look c)) (last_from v t))
without-stands look new c p v none passes s = (tt, refl, refl)
without-stands look new c p v (tree m x b a) passes s =
    at (eqb_tells m c)
    (without-stands look new c (Some m) None b (λ k d i. passes k d (omega arith)) s.1)
    (without-stands look new c p (Some m) a (λ k d i. passes k d (omega arith)) s.2) where
      after : Option ℕ
      after = next_link (look c)

      before : Option ℕ
      before = previous_link (look c)

      at : ((m == c) ≡ true × (m ≡ c)) ⊎ ((m == c) ≡ false × (m ≢ c))
          → Stands new (Some m) None (without c b) × (head (without c b) ≡ skip c (next_link (look c)) (head b)) × (last_from None (without c b) ≡ skip c (previous_link (look c)) (last_from None b))
          → Stands new p (skip c (previous_link (look c)) (Some m)) (without c a) × (head (without c a) ≡ skip c (next_link (look c)) (head a)) × (last_from (skip c (previous_link (look c)) (Some m)) (without c a) ≡ skip c (previous_link (look c)) (last_from (Some m) a))
          → Stands new p (skip c (previous_link (look c)) v) (without c (tree m x b a)) × (head (without c (tree m x b a)) ≡ skip c (next_link (look c)) (head (tree m x b a))) × (last_from (skip c (previous_link (look c)) v) (without c (tree m x b a)) ≡ skip c (previous_link (look c)) (last_from v (tree m x b a)))
      at (inl e) first rest =
          let is : look c ≡ look m = ap look (sym e.1) in
          let next : next_link (look c) ≡ head a = ap next_link is ∙ ap next_link s.0 in
          let prev : previous_link (look c) ≡ v = ap previous_link is ∙ ap previous_link s.0 in
          let r = rw e.0 at rest in
          let same : skip c (previous_link (look c)) v ≡ previous_link (look c) = ap (skip c (previous_link (look c))) (sym prev) ∙ skip-past c (previous_link (look c)) in
          rw (e.0, same) (
            r.0,
            r.1 ∙ ap (skip c (next_link (look c))) (sym next) ∙ skip-past c (next_link (look c)),
            r.2,
          )
      at (inr e) first rest =
          let r = rw e.0 at rest in
          rw e.0 ((passes m _ (count-self m x b a) e.1 s.0 ∙ rw (first.1, first.2, r.1) refl, first.0, r.0), refl, r.2)

-- a link to c where there is none
abbrev pub filled : Bool → ℕ → Option ℕ → Option ℕ
filled true c None = Some c
filled true c (Some m) = Some m
filled false c link = link

-- whether a link leads to p
abbrev pub is : ℕ → Option ℕ → Bool
is p None = false
is p (Some m) = m == p

-- another link where something is told
abbrev pub told : Bool → Option ℕ → Option ℕ → Option ℕ
told true other link = other
told false other link = link

-- a node as it is once c is the last child of p
abbrev pub lengthened : ℕ → ℕ → ℕ → Node → Node
lengthened p c m d = record d { next = filled (is p d.parent) c d.next; first = filled (m == p) c d.first; last = told (m == p) (Some c) d.last }

-- a list of trees put last below p
abbrev pub placed : Bool → Trees → Trees → Trees
placed true t s = joined t s
placed false t s = t

-- the last link of a list that may have c at its end
abbrev pub ended : Bool → ℕ → Option ℕ → Option ℕ
ended true c link = Some c
ended false c link = link

module _ (look new : ℕ → Option Node) (q c : ℕ) (x : Content) (b : Trees) (fits : Stands new (Some q) (last_link (look q)) (tree c x b none)) where
  abbrev put : Trees
  put = tree c x b none

  pub with_last-stands : (p v : Option ℕ) (t : Trees)
      → ((m : ℕ) (d : Node) → 0 < count m t → look m ≡ Some d → new m ≡ Some (lengthened q c m d))
      → (is q p ≡ true → last_from v t ≡ last_link (look q))
      → Stands look p v t
      → Stands new p v (placed (is q p) (with_last q put t) put)
      × (head (placed (is q p) (with_last q put t) put) ≡ filled (is q p) c (head t))
      × (last_from v (placed (is q p) (with_last q put t) put) ≡ ended (is q p) c (last_from v t))
  with_last-stands p v none grows ends st = at (is q p) refl where
    parent : is q p ≡ true → p ≡ Some q
    parent = elim p as (λ o. is q o ≡ true → o ≡ Some q) [ None ↦ λ e. absurd (cc) | Some k ↦ λ e. elim (eqb_tells k q) [ inl h ↦ ap (λ i. Some i) h.1 | inr h ↦ absurd (let f = h.0 in cc) ] ]

    at : (w : Bool) → is q p ≡ w → Stands new p v (placed (is q p) none put) × (head (placed (is q p) none put) ≡ filled (is q p) c None) × (last_from v (placed (is q p) none put) ≡ ended (is q p) c v)
    at true e = rw e (subst (λ o. Stands new o v put) (sym (parent e)) (subst (λ o. Stands new (Some q) o put) (sym (ends e)) fits), refl, refl)
    at false e = rw e (tt, refl, refl)
  with_last-stands p v (tree m y d a) grows ends st =
      at (is q p) refl
      (with_last-stands (Some m) None d (λ k i j. grows k i (omega arith)) below st.1)
      (with_last-stands p (Some m) a (λ k i j. grows k i (omega arith)) ends st.2) where
        below : (m == q) ≡ true → last_from None d ≡ last_link (look q)
        below e = elim (eqb_tells m q) [ inl h ↦ sym (ap last_link (ap look (sym h.1) ∙ st.0)) | inr h ↦ absurd (let f = h.0 in cc) ]

        shape : (if m == q then joined (with_last q put d) put else with_last q put d) ≡ placed (m == q) (with_last q put d) put
        shape = elim (m == q) as (λ w. (if w then joined (with_last q put d) put else with_last q put d) ≡ placed w (with_last q put d) put) [ true ↦ refl | false ↦ refl ]

        last : (w : Bool) (o : Option ℕ) → told w (Some c) o ≡ ended w c o
        last true o = refl
        last false o = refl

        at : (w : Bool) → is q p ≡ w
            → Stands new (Some m) None (placed (m == q) (with_last q put d) put) × (head (placed (m == q) (with_last q put d) put) ≡ filled (m == q) c (head d)) × (last_from None (placed (m == q) (with_last q put d) put) ≡ ended (m == q) c (last_from None d))
            → Stands new p (Some m) (placed (is q p) (with_last q put a) put) × (head (placed (is q p) (with_last q put a) put) ≡ filled (is q p) c (head a)) × (last_from (Some m) (placed (is q p) (with_last q put a) put) ≡ ended (is q p) c (last_from (Some m) a))
            → Stands new p v (placed (is q p) (with_last q put (tree m y d a)) put) × (head (placed (is q p) (with_last q put (tree m y d a)) put) ≡ filled (is q p) c (head (tree m y d a))) × (last_from v (placed (is q p) (with_last q put (tree m y d a)) put) ≡ ended (is q p) c (last_from v (tree m y d a)))
        at true e first rest = let r = rw e at rest in rw e (
          (grows m _ (count-self m y d a) st.0 ∙ rw (e, shape, first.1, first.2, r.1, last (m == q) (last_from None d)) refl, rw shape first.0, r.0),
          refl,
          r.2,
        )
        at false e first rest = let r = rw e at rest in rw e (
          (grows m _ (count-self m y d a) st.0 ∙ rw (e, shape, first.1, first.2, r.1, last (m == q) (last_from None d)) refl, rw shape first.0, r.0),
          refl,
          r.2,
        )

-- where a node stands: its neighbours, and the trees below and after it
pub record Spot (look : ℕ → Option Node) (p v : Option ℕ) (t : Trees) (c : ℕ) : Type 0 where
  pub parent : Option ℕ
  pub previous : Option ℕ
  pub content : Content
  pub below : Trees
  pub after : Trees
  pub node : look c ≡ Some (record { parent = parent; previous = previous; next = head after; first = head below; last = last_from None below; content = content })
  pub below_stands : Stands look (Some c) None below
  pub after_stands : Stands look parent (Some c) after
  pub part : (k : ℕ) → count k below + count k after ≤ count k t
  pub once : count c below + count c after < count c t
  pub found_is : found c t ≡ tree c content below none
  pub under_is : under c t ≡ below
  pub later_is : later c t ≡ after
  pub parent_is : parent_in p c t ≡ parent
  pub content_is : content_of c t ≡ Some content

module _ (look : ℕ → Option Node) (c : ℕ) where
  at_root : (p v : Option ℕ) (m : ℕ) (x : Content) (b a : Trees) → (m == c) ≡ true → m ≡ c → Stands look p v (tree m x b a) → Spot look p v (tree m x b a) c
  at_root p v m x b a e same s = record {
    parent = p;
    previous = v;
    content = x;
    below = b;
    after = a;
    node = ap look (sym same) ∙ s.0;
    below_stands = subst (λ k. Stands look (Some k) None b) same s.1;
    after_stands = subst (λ k. Stands look p (Some k) a) same s.2;
    part = λ k. omega arith;
    once = rw e (omega arith);
    found_is = rw e (ap (λ k. tree k x b none) same);
    under_is = rw e refl;
    later_is = rw e refl;
    parent_is = rw e refl;
    content_is = rw e refl;
  }

  in_below : (p v : Option ℕ) (m : ℕ) (x : Content) (b a : Trees) → (m == c) ≡ false → 0 < count c b → Stands look p v (tree m x b a) → Spot look (Some m) None b c → Spot look p v (tree m x b a) c
  in_below p v m x b a e o s f = record {
    parent = f.parent;
    previous = f.previous;
    content = f.content;
    below = f.below;
    after = f.after;
    node = f.node;
    below_stands = f.below_stands;
    after_stands = f.after_stands;
    part = λ k. let le = f.part k in omega arith;
    once = let le = f.once in omega arith;
    found_is = rw (e, lt-ltb 0 (count c b) o) f.found_is;
    under_is = rw (e, lt-ltb 0 (count c b) o) f.under_is;
    later_is = rw (e, lt-ltb 0 (count c b) o) f.later_is;
    parent_is = rw (e, lt-ltb 0 (count c b) o) f.parent_is;
    content_is = rw (e, lt-ltb 0 (count c b) o) f.content_is;
  }

  in_after : (p v : Option ℕ) (m : ℕ) (x : Content) (b a : Trees) → (m == c) ≡ false → count c b ≤ 0 → Stands look p v (tree m x b a) → Spot look p (Some m) a c → Spot look p v (tree m x b a) c
  in_after p v m x b a e o s f = record {
    parent = f.parent;
    previous = f.previous;
    content = f.content;
    below = f.below;
    after = f.after;
    node = f.node;
    below_stands = f.below_stands;
    after_stands = f.after_stands;
    part = λ k. let le = f.part k in omega arith;
    once = let le = f.once in omega arith;
    found_is = rw (e, ge-ltb 0 (count c b) o) f.found_is;
    under_is = rw (e, ge-ltb 0 (count c b) o) f.under_is;
    later_is = rw (e, ge-ltb 0 (count c b) o) f.later_is;
    parent_is = rw (e, ge-ltb 0 (count c b) o) f.parent_is;
    content_is = rw (e, ge-ltb 0 (count c b) o) f.content_is;
  }

  pub spot : (p v : Option ℕ) (t : Trees) → Stands look p v t → 0 < count c t → Spot look p v t c
  spot p v none s h = absurd (omega arith)
  spot p v (tree m x b a) s h = at (eqb_tells m c) (nat_at 0 (count c b)) (spot (Some m) None b s.1) (spot p (Some m) a s.2) where
    at : ((m == c) ≡ true × (m ≡ c)) ⊎ ((m == c) ≡ false × (m ≢ c)) → (0 < count c b) ⊎ (count c b ≤ 0)
        → (0 < count c b → Spot look (Some m) None b c) → (0 < count c a → Spot look p (Some m) a c) → Spot look p v (tree m x b a) c
    at (inl e) o first rest = at_root p v m x b a e.0 e.1 s
    at (inr e) (inl o) first rest = in_below p v m x b a e.0 o s (first o)
    at (inr e) (inr o) first rest = in_after p v m x b a e.0 o s (rest (let here = rw e.0 at h in omega arith))

-- the last of a list of trees
pub last-stands : (look : ℕ → Option Node) (p v : Option ℕ) (t : Trees) (k : ℕ) → Stands look p v t → last_from v t ≡ Some k
    → ((v ≡ Some k) × (t ≡ none)) ⊎ ((next_link (look k) ≡ None) × (parent_link (look k) ≡ p) × (0 < count k t))
last-stands look p v none k s h = inl (h, refl)
last-stands look p v (tree m x b a) k s h = inr (at (last-stands look p (Some m) a k s.2 h)) where
  at : ((Some m ≡ Some k) × (a ≡ none)) ⊎ ((next_link (look k) ≡ None) × (parent_link (look k) ≡ p) × (0 < count k a)) → (next_link (look k) ≡ None) × (parent_link (look k) ≡ p) × (0 < count k (tree m x b a))
  at (inl w) = (
    ap (λ i. next_link (look i)) (sym same) ∙ ap next_link s.0 ∙ ap head w.1,
    ap (λ i. parent_link (look i)) (sym same) ∙ ap parent_link s.0,
    subst (λ i. 0 < count i (tree m x b a)) same (count-self m x b a),
  ) where
    same : m ≡ k
    same = let e = w.0 in cc
  at (inr w) = (w.0, w.1, let le = w.2 in omega arith)
