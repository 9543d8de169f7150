-- Words as keys.
use Rattle.std.proofs.Common.{◌≡◌, ◌↔◌, ℕ, Bool, true, false, List, refl, sym, ◌∙◌}
use Rattle.std.specs.Prelude.{IsTrue}
use Rattle.std.specs.Str.{chars}
use Rattle.std.proofs.lemmas.Slice.Eq.{bytes_eq-Decides}
use Rattle.mt_ops.proofs.Texts.{plain}
use Rattle.mt_ops.specs.Texts.{is_plain}
use Rattle.mt_value.specs.Names.{is_same}

pub key_is : (key word : List ℕ) (r : Bool) → is_plain word ≡ true → (IsTrue r ↔ (key ≡ chars word)) → r ≡ is_same key word
key_is key word true p h = let decides = bytes_eq-Decides key word in sym (decides.1 (h.0 refl ∙ plain word p))
key_is key word false p h = by (is_same key word) refl
  where
    by : (b : Bool) → is_same key word ≡ b → false ≡ is_same key word
    by true t = absurd (let decides = bytes_eq-Decides key word in let wrong : false ≡ true = h.1 (decides.0 t ∙ sym (plain word p)) in cc)
    by false f = sym f
