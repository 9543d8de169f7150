-- The characters of an id, one after another.
use Rattle.std.proofs.Common.{◌≡◌, ◌∙◌, ◌<◌, ◌++◌, ◌&&◌, ◌==◌, ℕ, true, not, nat_lt, List, [], ◌∷◌, length, encode_utf8_all, sym, ap, arith, length-append, lt-ltb}
use Rattle.std.specs.Char.{encode_utf8}
use Rattle.std.specs.List.{list_all}
use Rattle.std.specs.Str.{chars, IsUtf8}
use Rattle.std.proofs.lemmas.Bool.{ne_eqb}
use Rattle.std.proofs.lemmas.Str.{chars-nil, chars_past_char, encodes-chars, length-encode, len_utf8_bounds}
use Rattle.mt_schedule.specs.Command.{is_id_character}

pub first_fits : (before after : List ℕ) (c : ℕ) → IsUtf8 before → before ≡ encode_utf8 c ++ after
    → list_all is_id_character (chars before) ≡ (is_id_character c && list_all is_id_character (chars after))
first_fits before after c u is = ap (list_all is_id_character) (chars_past_char before after c u is)

pub none_fits : (bs : List ℕ) → length bs ≡ 0 → list_all is_id_character (chars bs) ≡ true
none_fits [] e = ap (list_all is_id_character) chars-nil
none_fits (b ∷ bs) e = absurd (omega arith)

-- a text has characters exactly where it has bytes
pub filled : (bs : List ℕ) → IsUtf8 bs → nat_lt 0 (length (chars bs)) ≡ not (length bs == 0)
filled bs u = at (chars bs) (encodes-chars bs u)
  where
    at : (cs : List ℕ) → encode_utf8_all cs ≡ bs → nat_lt 0 (length cs) ≡ not (length bs == 0)
    at [] e = ap (λ xs. not (length xs == 0)) e
    at (c ∷ cs) e =
        let some : 0 < length bs =
        omega (arith, ap length e, length-append (encode_utf8 c) (encode_utf8_all cs), length-encode c, len_utf8_bounds c) in
        lt-ltb 0 (length (c ∷ cs)) (omega arith) ∙ sym (ap not (ne_eqb (length bs) 0 (λ none. omega arith)))
