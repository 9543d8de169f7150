-- Tests of names.
use Rattle.std.proofs.Common.{◌≡◌, ℕ, Bool, true, false, List, sym, refl}
use Rattle.std.proofs.lemmas.Slice.Eq.{bytes_eq-Decides}
use Rattle.mt_stage_declared.specs.Names.{is_same}

-- two tests of which each implies the other
pub alike : (a b : Bool) → (a ≡ true → b ≡ true) → (b ≡ true → a ≡ true) → a ≡ b
alike true true f g = refl
alike true false f g = sym (f refl)
alike false true f g = g refl
alike false false f g = refl

-- a test of whether two names are the same
pub same_by_test : (b : Bool) (name word : List ℕ) → (b ≡ true → name ≡ word) → (name ≡ word → b ≡ true) → b ≡ is_same name word
same_by_test b name word f g =
    let characters = bytes_eq-Decides name word in
    alike b (is_same name word) (λ h. characters.1 (f h)) (λ h. g (characters.0 h))
