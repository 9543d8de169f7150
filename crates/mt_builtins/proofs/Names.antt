-- Keys, as names of methods.
use Rattle.std.proofs.Common.{◌≡◌, ◌↔◌, ℕ, Bool, true, false, List, refl, sym, ◌∙◌}
use Rattle.std.specs.Prelude.{IsTrue}
use Rattle.std.specs.Str.{chars}
use Rattle.std.proofs.lemmas.Slice.Eq.{bytes_eq-Decides}
use Rattle.mt_ops.proofs.Texts.{plain}
use Rattle.mt_ops.specs.Texts.{is_plain}
use Rattle.mt_value.specs.Names.{is_same}

-- two tests of which each implies the other
same_truth : (a b : Bool) → (a ≡ true → b ≡ true) → (b ≡ true → a ≡ true) → a ≡ b
same_truth true true f g = refl
same_truth true false f g = sym (f refl)
same_truth false true f g = g refl
same_truth false false f g = refl

-- a test of a name against a text of ASCII
pub same_plain : (name text : List ℕ) (r : Bool) → is_plain text ≡ true → (IsTrue r ↔ (name ≡ chars text)) → r ≡ is_same name text
same_plain name text r ascii h =
    let decides = bytes_eq-Decides name text in
    same_truth r (is_same name text) (λ t. decides.1 (h.0 t ∙ plain text ascii)) (λ t. h.1 (decides.0 t ∙ sym (plain text ascii)))
