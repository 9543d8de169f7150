-- How often a number stands in trees that were changed.
use Rattle.std.proofs.Common.{◌≡◌, ◌≢◌, ◌<◌, ◌≤◌, ◌+◌, ◌==◌, ℕ, true, false, refl, ◌∙◌, arith, Some, ◌⊎◌, inl, inr}
use Rattle.std.proofs.lemmas.Bool.Decides.{eqb_tells}
use Rattle.std.proofs.lemmas.Bool.{lt-ltb}
use Rattle.mt_dom_nodes.specs.Trees.{Trees, none, tree, head, count, size, joined, without, found, with_last, put_second, Numbered}
use Rattle.mt_dom_nodes.proofs.Standing.{nat_at, ge-ltb}

pub without-absent : (c : ℕ) (t : Trees) → count c t ≡ 0 → without c t ≡ t
without-absent c none h = refl
without-absent c (tree m x b a) h = elim (eqb_tells m c) [
  | inl e ↦ absurd (let here = rw e.0 at h in omega arith)
  | inr e ↦ let rest = rw e.0 at h in rw (e.0, without-absent c b (omega arith), without-absent c a (omega arith)) refl
]

-- what is taken out, and what is left
pub without-count : (c k : ℕ) (t : Trees) → count c t ≤ 1 → count k (without c t) + count k (found c t) ≡ count k t
without-count c k none few = refl
without-count c k (tree m x b a) few = at (eqb_tells m c) (without-count c k b) (without-count c k a) (nat_at 0 (count c b)) where
  at : ((m == c) ≡ true × (m ≡ c)) ⊎ ((m == c) ≡ false × (m ≢ c))
      → (count c b ≤ 1 → count k (without c b) + count k (found c b) ≡ count k b) → (count c a ≤ 1 → count k (without c a) + count k (found c a) ≡ count k a)
      → (0 < count c b) ⊎ (count c b ≤ 0) → count k (without c (tree m x b a)) + count k (found c (tree m x b a)) ≡ count k (tree m x b a)
  at (inl e) first rest o = let few' = rw e.0 at few in rw (e.0, without-absent c a (omega arith)) (omega arith)
  at (inr e) first rest (inl o) = let few' = rw e.0 at few in rw (e.0, lt-ltb 0 (count c b) o, without-absent c a (omega arith)) (let f = first (omega arith) in omega arith)
  at (inr e) first rest (inr o) = let few' = rw e.0 at few in rw (e.0, ge-ltb 0 (count c b) o, without-absent c b (omega arith)) (let r = rest (omega arith) in omega arith)

pub without-size : (c : ℕ) (t : Trees) → count c t ≤ 1 → size (without c t) + size (found c t) ≡ size t
without-size c none few = refl
without-size c (tree m x b a) few = at (eqb_tells m c) (without-size c b) (without-size c a) (nat_at 0 (count c b)) where
  at : ((m == c) ≡ true × (m ≡ c)) ⊎ ((m == c) ≡ false × (m ≢ c))
      → (count c b ≤ 1 → size (without c b) + size (found c b) ≡ size b) → (count c a ≤ 1 → size (without c a) + size (found c a) ≡ size a)
      → (0 < count c b) ⊎ (count c b ≤ 0) → size (without c (tree m x b a)) + size (found c (tree m x b a)) ≡ size (tree m x b a)
  at (inl e) first rest o = let few' = rw e.0 at few in rw (e.0, without-absent c a (omega arith)) (omega arith)
  at (inr e) first rest (inl o) = let few' = rw e.0 at few in rw (e.0, lt-ltb 0 (count c b) o, without-absent c a (omega arith)) (let f = first (omega arith) in omega arith)
  at (inr e) first rest (inr o) = let few' = rw e.0 at few in rw (e.0, ge-ltb 0 (count c b) o, without-absent c b (omega arith)) (let r = rest (omega arith) in omega arith)

-- what is put in
pub joined-count : (k : ℕ) (t s : Trees) → count k (joined t s) ≡ count k t + count k s
joined-count k none s = omega arith
joined-count k (tree m x b a) s = omega (arith, joined-count k a s)

pub joined-size : (t s : Trees) → size (joined t s) ≡ size t + size s
joined-size none s = omega arith
joined-size (tree m x b a) s = omega (arith, joined-size a s)

pub with_last-absent : (p : ℕ) (s t : Trees) → count p t ≡ 0 → with_last p s t ≡ t
with_last-absent p s none h = refl
with_last-absent p s (tree m x b a) h = elim (eqb_tells m p) [
  | inl e ↦ absurd (let here = rw e.0 at h in omega arith)
  | inr e ↦ let rest = rw e.0 at h in rw (e.0, with_last-absent p s b (omega arith), with_last-absent p s a (omega arith)) refl
]

pub with_last-count : (p k : ℕ) (s t : Trees) → count p t ≡ 1 → count k (with_last p s t) ≡ count k t + count k s
with_last-count p k s none h = absurd (omega arith)
with_last-count p k s (tree m x b a) h = at (eqb_tells m p) (with_last-count p k s b) (with_last-count p k s a) (nat_at 0 (count p b)) where
  at : ((m == p) ≡ true × (m ≡ p)) ⊎ ((m == p) ≡ false × (m ≢ p)) → (count p b ≡ 1 → count k (with_last p s b) ≡ count k b + count k s) → (count p a ≡ 1 → count k (with_last p s a) ≡ count k a + count k s)
      → (0 < count p b) ⊎ (count p b ≤ 0) → count k (with_last p s (tree m x b a)) ≡ count k (tree m x b a) + count k s
  at (inl e) first rest o = let h' = rw e.0 at h in rw (e.0, with_last-absent p s b (omega arith), with_last-absent p s a (omega arith)) (omega (arith, joined-count k b s))
  at (inr e) first rest (inl o) = let h' = rw e.0 at h in rw (e.0, with_last-absent p s a (omega arith)) (let f = first (omega arith) in omega arith)
  at (inr e) first rest (inr o) = let h' = rw e.0 at h in rw (e.0, with_last-absent p s b (omega arith)) (let f = rest (omega arith) in omega arith)

pub with_last-size : (p : ℕ) (s t : Trees) → count p t ≡ 1 → size (with_last p s t) ≡ size t + size s
with_last-size p s none h = absurd (omega arith)
with_last-size p s (tree m x b a) h = at (eqb_tells m p) (with_last-size p s b) (with_last-size p s a) (nat_at 0 (count p b)) where
  at : ((m == p) ≡ true × (m ≡ p)) ⊎ ((m == p) ≡ false × (m ≢ p)) → (count p b ≡ 1 → size (with_last p s b) ≡ size b + size s) → (count p a ≡ 1 → size (with_last p s a) ≡ size a + size s)
      → (0 < count p b) ⊎ (count p b ≤ 0) → size (with_last p s (tree m x b a)) ≡ size (tree m x b a) + size s
  at (inl e) first rest o = let h' = rw e.0 at h in rw (e.0, with_last-absent p s b (omega arith), with_last-absent p s a (omega arith)) (omega (arith, joined-size b s))
  at (inr e) first rest (inl o) = let h' = rw e.0 at h in rw (e.0, with_last-absent p s a (omega arith)) (let f = first (omega arith) in omega arith)
  at (inr e) first rest (inr o) = let h' = rw e.0 at h in rw (e.0, with_last-absent p s b (omega arith)) (let f = rest (omega arith) in omega arith)

pub put_second-count : (k : ℕ) (s t : Trees) → count k (put_second s t) ≡ count k t + count k s
put_second-count k s none = omega arith
put_second-count k s (tree m x b a) = omega (arith, joined-count k s a)

pub put_second-size : (s t : Trees) → size (put_second s t) ≡ size t + size s
put_second-size s none = omega arith
put_second-size s (tree m x b a) = omega (arith, joined-size s a)

-- trees with the same numbers, and the same page first
pub renumbered : (t s : Trees) → Numbered t → ((k : ℕ) → count k s ≡ count k t) → size s ≡ size t → head s ≡ Some 1 → Numbered s
renumbered t s n same sized page = record {
  once = λ k. let e = same k in let one = n.once k in omega arith;
  inside = λ k some le. same k ∙ n.inside k some (omega arith);
  known = λ k h. let e = same k in let w = n.known k (omega arith) in (w.0, (let le = w.1 in omega arith));
  page = page;
}
