-- The characters of a text, all of them, between two quotes.
use Rattle.std.proofs.Common.{◌≡◌, ℕ, List, [], ◌∷◌, ◌++◌, map, refl, ap, append_assoc}
use Rattle.std.specs.List.{flat_map}
use Rattle.mt_syntax.specs.CodeText.{code_escaped, literal}

map_same : (xs : List ℕ) → map (λ x. x) xs ≡ xs
map_same [] = refl
map_same (x ∷ xs) = ap (λ ys. x ∷ ys) (map_same xs)

pub quoted : (old now yielded cs : List ℕ) → map (λ x. x) yielded ≡ cs → now ≡ (old ++ 34 ∷ []) ++ flat_map code_escaped yielded → now ++ 34 ∷ [] ≡ old ++ literal cs
quoted old now yielded cs all so_far = rw (so_far, ← all, map_same yielded) (simp append_assoc)
