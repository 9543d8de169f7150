-- What a list begins with.
use Rattle.std.proofs.Common.{◌≡◌, ℕ, List, [], ◌∷◌, ◌++◌, drop, length, refl, sym, ap, ◌∙◌, subst, append_assoc}
use Rattle.std.proofs.lemmas.List.{take-append-drop}
use Rattle.std.specs.Io.{StartsWith}

pub front_of_more : (old more : List ℕ) → StartsWith (old ++ more) old
front_of_more [] more = refl
front_of_more (x ∷ old) more = ap (λ s. x ∷ s) (front_of_more old more)

pub front_of_front : (old more new : List ℕ) → StartsWith new (old ++ more) → StartsWith new old
front_of_front old more new h =
    let count : ℕ = length (old ++ more) in
    let split : new ≡ old ++ (more ++ drop count new) = sym (take-append-drop count new) ∙ ap (λ s. s ++ drop count new) h ∙ append_assoc old more (drop count new) in
    subst (λ s. StartsWith s old) (sym split) (front_of_more old (more ++ drop count new))
