-- The way up from a node to the root of its tree.
use Rattle.std.proofs.Common.{◌≡◌, ◌≢◌, ◌<◌, ◌≤◌, ◌+◌, ◌==◌, ℕ, true, false, List, [], ◌∷◌, refl, sym, ap, ◌∙◌, arith, Option, None, Some, ◌⊎◌, inl, inr, IfSome}
use Rattle.std.proofs.lemmas.Bool.Decides.{eqb_tells}
use Rattle.std.proofs.lemmas.Bool.{lt-ltb}
use Rattle.mt_dom_nodes.specs.declared.node.Node.{Node}
use Rattle.mt_dom_nodes.specs.Trees.{Trees, none, tree, count, found, trail, path, is_in, is_above, IsNode}
use Rattle.mt_dom_nodes.specs.Standing.{Stands, node_at, trees_of, Kept, parent_link}
use Rattle.mt_dom_nodes.proofs.Standing.{count-self, nat_at, ge-ltb}
use Rattle.mt_dom_nodes.proofs.Counts.{without-count}

-- the way from a link
abbrev pub path_from : Option ℕ → Trees → List ℕ
path_from None t = []
path_from (Some m) t = path m t

abbrev pub top : List ℕ → Option ℕ
top [] = None
top (m ∷ up) = Some m

pub record Way (look : ℕ → Option Node) (up : List ℕ) (t : Trees) (n : ℕ) : Type 0 where
  pub rest : List ℕ
  pub along : trail up n t ≡ n ∷ rest
  pub onward : ((parent_link (look n) ≡ top up) × (rest ≡ up)) ⊎ ((q : ℕ) × (parent_link (look n) ≡ Some q) × (0 < count q t) × (trail up q t ≡ rest))

pub way : (look : ℕ → Option Node) (up : List ℕ) (v : Option ℕ) (t : Trees) (n : ℕ) → Stands look (top up) v t → ((k : ℕ) → count k t ≤ 1) → 0 < count n t → Way look up t n
way look up v none n s once h = absurd (omega arith)
way look up v (tree m x b a) n s once h =
    at (eqb_tells m n) (way look (m ∷ up) None b n s.1 (λ k. let o = once k in omega arith)) (way look up (Some m) a n s.2 (λ k. let o = once k in omega arith)) (nat_at 0 (count n b)) where
      other : (q : ℕ) → 0 < count q b + count q a → (m == q) ≡ false
      other q some = elim (eqb_tells m q) [ inl e ↦ absurd (let o = once q in let o' = rw e.0 at o in omega arith) | inr e ↦ e.0 ]

      self : trail up m (tree m x b a) ≡ m ∷ up
      self = elim (eqb_tells m m) [ inl i ↦ rw i.0 refl | inr i ↦ absurd (i.1 refl) ]

      below : (m == n) ≡ false → 0 < count n b → Way look (m ∷ up) b n → Way look up (tree m x b a) n
      below e o f = record {
        rest = f.rest;
        along = rw (e, lt-ltb 0 (count n b) o) f.along;
        onward = elim f.onward [
          | inl w ↦ inr (m, w.0, count-self m x b a, self ∙ sym w.1)
          | inr w ↦ inr (w.0, w.1, omega arith, rw (other w.0 (omega arith), lt-ltb 0 (count w.0 b) w.2) w.3)
        ];
      }

      beside : (m == n) ≡ false → count n b ≤ 0 → Way look up a n → Way look up (tree m x b a) n
      beside e o f = record {
        rest = f.rest;
        along = rw (e, ge-ltb 0 (count n b) o) f.along;
        onward = elim f.onward [
          | inl w ↦ inl w
          | inr w ↦ inr (w.0, w.1, omega arith, rw (other w.0 (omega arith), ge-ltb 0 (count w.0 b) (let u = once w.0 in omega arith)) w.3)
        ];
      }

      at : ((m == n) ≡ true × (m ≡ n)) ⊎ ((m == n) ≡ false × (m ≢ n)) → (0 < count n b → Way look (m ∷ up) b n) → (0 < count n a → Way look up a n)
          → (0 < count n b) ⊎ (count n b ≤ 0) → Way look up (tree m x b a) n
      at (inl e) first rest o = record { rest = up; along = rw e.0 refl; onward = inl (ap parent_link (ap look (sym e.1) ∙ s.0), refl) }
      at (inr e) first rest (inl o) = below e.0 o (first o)
      at (inr e) first rest (inr o) = beside e.0 o (rest (let here = rw e.0 at h in omega arith))

pub record Onward (nodes : List Node) (m : ℕ) : Type 0 where
  pub along : path m (trees_of nodes) ≡ m ∷ path_from (parent_link (node_at nodes m)) (trees_of nodes)
  pub inside : IfSome (parent_link (node_at nodes m)) (λ q. IsNode q (trees_of nodes))

pub onward : (nodes : List Node) → Kept nodes → (m : ℕ) → IsNode m (trees_of nodes) → Onward nodes m
onward nodes kept m h = at (way (node_at nodes) [] None (trees_of nodes) m kept.stands kept.numbered.once (let one = kept.numbered.inside m h.0 h.1 in omega arith)) where
  at : Way (node_at nodes) [] (trees_of nodes) m → Onward nodes m
  at w = elim w.onward [
    | inl o ↦ record { along = w.along ∙ rw (o.0, o.1) refl; inside = rw o.0 tt }
    | inr o ↦ record { along = w.along ∙ rw (o.1, o.3) refl; inside = rw o.1 (kept.numbered.known o.0 o.2) }
  ]

-- what is above stays on the way
pub trail-up : (c n : ℕ) (up : List ℕ) (t : Trees) → is_in c up ≡ true → 0 < count n t → is_in c (trail up n t) ≡ true
trail-up c n up none i h = absurd (omega arith)
trail-up c n up (tree m x b a) i h = at (eqb_tells m n) (nat_at 0 (count n b)) (trail-up c n (m ∷ up) b (more m up i)) (trail-up c n up a i) where
  more : (k : ℕ) (ks : List ℕ) → is_in c ks ≡ true → is_in c (k ∷ ks) ≡ true
  more k ks j = elim (eqb_tells k c) [ inl e ↦ rw e.0 refl | inr e ↦ rw e.0 j ]

  at : ((m == n) ≡ true × (m ≡ n)) ⊎ ((m == n) ≡ false × (m ≢ n)) → (0 < count n b) ⊎ (count n b ≤ 0)
      → (0 < count n b → is_in c (trail (m ∷ up) n b) ≡ true) → (0 < count n a → is_in c (trail up n a) ≡ true) → is_in c (trail up n (tree m x b a)) ≡ true
  at (inl e) o first rest = rw e.0 (more n up i)
  at (inr e) (inl o) first rest = rw (e.0, lt-ltb 0 (count n b) o) (first o)
  at (inr e) (inr o) first rest = rw (e.0, ge-ltb 0 (count n b) o) (rest (let h' = rw e.0 at h in omega arith))

-- a node of the tree of c has c on its way up
pub trail-found : (c n : ℕ) (up : List ℕ) (t : Trees) → ((k : ℕ) → count k t ≤ 1) → 0 < count n (found c t) → is_in c (trail up n t) ≡ true
trail-found c n up none once h = absurd (omega arith)
trail-found c n up (tree m x b a) once h =
    at (eqb_tells m c) (nat_at 0 (count c b)) (trail-found c n (m ∷ up) b (λ k. let o = once k in omega arith)) (trail-found c n up a (λ k. let o = once k in omega arith)) where
      apart : 0 < count n b + count n a → (m == n) ≡ false
      apart some = elim (eqb_tells m n) [ inl e ↦ absurd (let o = once n in let o' = rw e.0 at o in omega arith) | inr e ↦ e.0 ]

      at : ((m == c) ≡ true × (m ≡ c)) ⊎ ((m == c) ≡ false × (m ≢ c)) → (0 < count c b) ⊎ (count c b ≤ 0)
          → (0 < count n (found c b) → is_in c (trail (m ∷ up) n b) ≡ true) → (0 < count n (found c a) → is_in c (trail up n a) ≡ true) → is_in c (trail up n (tree m x b a)) ≡ true
      at (inl e) o first rest = let h' = rw e.0 at h in within_c (eqb_tells m n) h' where
        within_c : ((m == n) ≡ true × (m ≡ n)) ⊎ ((m == n) ≡ false × (m ≢ n)) → 0 < count n (tree m x b none) → is_in c (trail up n (tree m x b a)) ≡ true
        within_c (inl i) k = rw i.0 (elim (eqb_tells n c) [ inl j ↦ rw j.0 refl | inr j ↦ absurd (j.1 (sym i.1 ∙ e.1)) ])
        within_c (inr i) k = let k' = rw i.0 at k in let inb : 0 < count n b = omega arith in rw (i.0, lt-ltb 0 (count n b) inb) (trail-up c n (m ∷ up) b (rw e.0 refl) inb)
      at (inr e) (inl o) first rest = let h' = rw (e.0, lt-ltb 0 (count c b) o) at h in
          let inb : 0 < count n b = (let sums = without-count c n b (let k = once c in omega arith) in omega arith) in
          rw (apart (omega arith), lt-ltb 0 (count n b) inb) (first h')
      at (inr e) (inr o) first rest = let h' = rw (e.0, ge-ltb 0 (count c b) o) at h in
          let ina : 0 < count n a = (let sums = without-count c n a (let k = once c in omega arith) in omega arith) in
          rw (apart (omega arith), ge-ltb 0 (count n b) (let k = once n in omega arith)) (rest h')

-- where c isn't on the way up from p, p isn't in the tree of c
pub not_below : (t : Trees) → ((k : ℕ) → count k t ≤ 1) → (c p : ℕ) → is_above c p t ≡ false → count p (found c t) ≡ 0
not_below t once c p e = elim (nat_at 0 (count p (found c t))) [
  | inl h ↦ absurd (let yes_in = trail-found c p [] t once h in cc)
  | inr h ↦ omega arith
]

pub is_in-here : (c k : ℕ) (ks : List ℕ) → k ≡ c → is_in c (k ∷ ks) ≡ true
is_in-here c k ks e = elim (eqb_tells k c) [ inl h ↦ rw h.0 refl | inr h ↦ absurd (h.1 e) ]

pub is_in-other : (c k : ℕ) (ks : List ℕ) → k ≢ c → is_in c (k ∷ ks) ≡ is_in c ks
is_in-other c k ks e = elim (eqb_tells k c) [ inl h ↦ absurd (e h.1) | inr h ↦ rw h.0 refl ]
