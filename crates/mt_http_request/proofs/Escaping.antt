-- What the kit escapes is what the standard says, and escapes are read again.
use Rattle.std.proofs.Common.{◌≡◌, ◌<◌, ◌≤◌, ◌/◌, ◌%◌, ℕ, Bool, true, false, not, ◌||◌, ◌&&◌, ◌==◌, List, [], ◌∷◌, ◌++◌, nat_lt, refl, sym, ap, ◌∙◌, ⊎_elim, arith, All}
use Rattle.std.proofs.lemmas.Bool.{agree_below, agree_below_at, and_from, cases_Bool, cond-true, cond-false}
use Rattle.std.proofs.lemmas.Bool.Decides.{nat_tests}
use Rattle.std.specs.Fmt.{digit_glyph}
use Rattle.std.specs.List.{list_all}
use Rattle.percent_encoding.specs.AsciiSet.{contains, should_percent_encode}
use Rattle.percent_encoding.specs.Percent.{percent_decode, percent_encode, percent_encode_byte, encode_byte}
use Rattle.percent_encoding.proofs.PercentLemmas.{IsByte, round_trip}
use Rattle.mt_http_types.proofs.Runs.{all_of_both}
use Rattle.mt_http_request.specs.Escapes.{is_unreserved, escape_of, escaped}
use Rattle.mt_http_request.specs.declared.escapes.TheConstants.{RESERVED}

reserved_below : agree_below (contains RESERVED) (λ b. not (is_unreserved b)) 128 ≡ true
reserved_below = refl

reserved_ascii : (b : ℕ) → b < 128 → contains RESERVED b ≡ not (is_unreserved b)
reserved_ascii b low = agree_below_at (contains RESERVED) (λ b. not (is_unreserved b)) 128 b reserved_below low

far : (b : ℕ) → 128 ≤ b → is_unreserved b ≡ false
far b high = grind (arith, nat_tests)

reserved : (b : ℕ) → should_percent_encode RESERVED b ≡ not (is_unreserved b)
unfolding should_percent_encode
reserved b =
    ⊎_elim
    (λ (e : nat_lt b 128 ≡ true). let low : b < 128 = grind (arith, nat_tests) in rw e (reserved_ascii b low))
    (λ (e : nat_lt b 128 ≡ false). let high : 128 ≤ b = grind (arith, nat_tests) in rw (e, far b high) refl)
    (cases_Bool (nat_lt b 128))

encode_same : (b : ℕ) → encode_byte RESERVED b ≡ escape_of b
encode_same b =
    ⊎_elim
    (λ (e : is_unreserved b ≡ true). cond-false _ _ _ (reserved b ∙ ap not e) ∙ sym (cond-true _ _ _ e))
    (λ (e : is_unreserved b ≡ false). cond-true _ _ _ (reserved b ∙ ap not e) ∙ sym (cond-false _ _ _ e))
    (cases_Bool (is_unreserved b))

pub escaped_by_set : (bs : List ℕ) → percent_encode RESERVED bs ≡ escaped bs
unfolding percent_encode escaped
escaped_by_set [] = refl
escaped_by_set (b ∷ bs) =
    ap (λ (x : List ℕ). x ++ percent_encode RESERVED bs) (encode_same b) ∙ ap (λ (x : List ℕ). escape_of b ++ x) (escaped_by_set bs)

pub read_again : (bs : List ℕ) → All IsByte bs → percent_decode (escaped bs) ≡ bs
read_again bs small = ap percent_decode (sym (escaped_by_set bs)) ∙ round_trip RESERVED bs refl small

-- ---- what stands in escaped bytes

abbrev pub is_escaped_byte : ℕ → Bool
is_escaped_byte b = is_unreserved b || b == 37

kept_byte : (b : ℕ) → is_unreserved b ≡ true → is_escaped_byte b ≡ true
kept_byte b e = rw e refl

glyph_byte : (d : ℕ) → d < 16 → is_escaped_byte (digit_glyph true d) ≡ true
glyph_byte d small = grind (arith, nat_tests)

escape_bytes : (b : ℕ) → list_all is_escaped_byte (escape_of b) ≡ true
unfolding percent_encode_byte
escape_bytes b =
    ⊎_elim
    (λ (e : is_unreserved b ≡ true). rw (e, kept_byte b e) refl)
    (λ (e : is_unreserved b ≡ false). rw (e, glyph_byte (b / 16 % 16) (omega arith), glyph_byte (b % 16) (omega arith)) refl)
    (cases_Bool (is_unreserved b))

pub escaped_bytes : (bs : List ℕ) → list_all is_escaped_byte (escaped bs) ≡ true
unfolding escaped
escaped_bytes [] = refl
escaped_bytes (b ∷ bs) = all_of_both is_escaped_byte (escape_of b) (escaped bs) (escape_bytes b) (escaped_bytes bs)
