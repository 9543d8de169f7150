-- Names, character by character.
use Rattle.std.proofs.Common.{◌≡◌, ◌↔◌, ℕ, ◌==◌, Bool, true, false, ◌&&◌, not, List, [], ◌∷◌, ◌++◌, length, refl, sym, ap, ◌∙◌, arith, IsTrue}
use Rattle.std.specs.Prelude.{codes, ◌||◌}
use Rattle.std.specs.List.{list_all}
use Rattle.std.specs.Char.{encode_utf8}
use Rattle.std.specs.Str.{chars, IsUtf8}
use Rattle.std.proofs.lemmas.Bool.Decides.{nat_tests}
use Rattle.std.proofs.lemmas.Slice.Eq.{bytes_eq-Decides}
use Rattle.std.proofs.lemmas.Str.{chars-nil, chars_past_char}
use Rattle.mt_ops.proofs.Texts.{plain}
use Rattle.mt_ops.specs.Texts.{is_plain}
use Rattle.mt_ops_properties.specs.Objects.{begins_from_one}
use Rattle.mt_syntax.specs.Data.{is_digit, spells_whole_number}
use Rattle.mt_value.specs.Names.{is_same}

-- two tests of which each implies the other
same_truth : (a b : Bool) → (a ≡ true → b ≡ true) → (b ≡ true → a ≡ true) → a ≡ b
same_truth true true f g = refl
same_truth true false f g = sym (f refl)
same_truth false true f g = g refl
same_truth false false f g = refl

-- a test of a name against a text of ASCII
pub same_plain : (name text : List ℕ) (r : Bool) → is_plain text ≡ true → (IsTrue r ↔ (name ≡ chars text)) → r ≡ is_same name text
same_plain name text r ascii h =
    let decides = bytes_eq-Decides name text in
    same_truth r (is_same name text) (λ t. decides.1 (h.0 t ∙ plain text ascii)) (λ t. h.1 (decides.0 t ∙ sym (plain text ascii)))

pub digits_first : (before after : List ℕ) (c : ℕ) → IsUtf8 before → before ≡ encode_utf8 c ++ after → list_all is_digit (chars before) ≡ (is_digit c && list_all is_digit (chars after))
digits_first before after c u is = ap (list_all is_digit) (chars_past_char before after c u is)

pub digits_none : (bs : List ℕ) → length bs ≡ 0 → list_all is_digit (chars bs) ≡ true
digits_none [] e = ap (list_all is_digit) chars-nil
digits_none (b ∷ bs) e = absurd (omega arith)

longer : (digit zero rest : Bool) → (digit && not zero && rest) ≡ ((zero && false) || ((digit && not zero) && (digit && rest)))
longer true true rest = refl
longer true false rest = refl
longer false true rest = refl
longer false false rest = refl

pub spells_is : (name : List ℕ) → spells_whole_number name ≡ (is_same name (codes "0") || (begins_from_one name && list_all is_digit name))
spells_is [] = refl
spells_is (c ∷ []) = grind (arith, nat_tests)
spells_is (c ∷ d ∷ cs) = longer (is_digit c) (c == 48) (list_all is_digit (d ∷ cs))
