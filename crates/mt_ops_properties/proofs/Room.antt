-- A text of a number of bytes, character by character.
use Rattle.std.proofs.Common.{◌≡◌, ℕ, ◌-◌, ◌<◌, ◌≤◌, nat_le, true, false, List, [], ◌∷◌, ◌++◌, length, refl, sym, ap, ◌∙◌, arith, append_assoc}
use Rattle.std.specs.Char.{encode_utf8, len_utf8}
use Rattle.std.specs.Str.{chars, IsUtf8}
use Rattle.std.specs.String.{string_bytes}
use Rattle.std.specs.declared.string.String.{String}
use Rattle.std.proofs.lemmas.Bool.Decides.{nat_tests}
use Rattle.std.proofs.lemmas.List.{append-nil}
use Rattle.std.proofs.lemmas.Str.{chars_past_char, chars-nil}
use Rattle.mt_ops.proofs.Texts.{pushed, no_characters}
use Rattle.mt_ops_properties.specs.ErrorText.{within_bytes}

-- one character more of a text for which there is room
pub room_further : {A : Type 0} (s : String A) (room c : ℕ) (before after : List ℕ) → IsUtf8 (encode_utf8 c) → IsUtf8 before → before ≡ encode_utf8 c ++ after → len_utf8 c ≤ room
    → chars (string_bytes s ++ encode_utf8 c) ++ within_bytes (room - len_utf8 c) (chars after) ≡ chars (string_bytes s) ++ within_bytes room (chars before)
room_further s room c before after one u is fits =
    let here : chars (encode_utf8 c) ≡ c ∷ [] = chars_past_char (encode_utf8 c) [] c one (sym (append-nil (encode_utf8 c))) ∙ ap (λ cs. c ∷ cs) chars-nil in
    let first : chars before ≡ c ∷ chars after = chars_past_char before after c u is in
    let test : nat_le (len_utf8 c) room ≡ true = grind (arith, nat_tests, fits) in
    rw (pushed s (encode_utf8 c), here, first, test) (append_assoc (chars (string_bytes s)) (c ∷ []) (within_bytes (room - len_utf8 c) (chars after)))

-- a character for which there is none
pub room_over : (room c : ℕ) (before after : List ℕ) → IsUtf8 before → before ≡ encode_utf8 c ++ after → room < len_utf8 c → within_bytes room (chars before) ≡ []
room_over room c before after u is over =
    let test : nat_le (len_utf8 c) room ≡ false = grind (arith, nat_tests, over) in
    rw (chars_past_char before after c u is, test) refl

pub nothing_within : (room : ℕ) (bs : List ℕ) → length bs ≡ 0 → within_bytes room (chars bs) ≡ []
nothing_within room [] e = rw no_characters refl
nothing_within room (b ∷ bs) e = absurd (omega arith)
