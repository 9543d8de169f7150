-- The bytes of a target are ASCII.
use Rattle.std.proofs.Common.{◌≡◌, ◌<◌, ℕ, true, ◌&&◌, ◌==◌, nat_le, List, [], ◌∷◌, length, encode_utf8_all, arith, chars}
use Rattle.std.proofs.lemmas.Bool.{and_parts}
use Rattle.std.proofs.lemmas.Bool.Decides.{nat_tests}
use Rattle.std.proofs.lemmas.Str.{IsUtf8-from_ascii, chars-IsAscii}
use Rattle.std.proofs.lemmas.Str.Ascii.{IsAscii-cons, IsAscii-nil, encodes-IsAscii}
use Rattle.std.specs.List.{list_all}
use Rattle.std.specs.Str.{IsAscii, IsUtf8}
use Rattle.mt_http_types.specs.Target.{is_target_byte, is_target}

below : (b : ℕ) → is_target_byte b ≡ true → b < 128
below b e = grind (arith, nat_tests)

all_below : (bs : List ℕ) → list_all is_target_byte bs ≡ true → IsAscii bs
all_below [] e = IsAscii-nil
all_below (b ∷ bs) e =
    let both = and_parts (is_target_byte b) (list_all is_target_byte bs) e in
    IsAscii-cons b bs (below b both.0) (all_below bs both.1)

pub ascii : (bs : List ℕ) → is_target bs ≡ true → IsAscii bs
ascii [] e = IsAscii-nil
ascii (b ∷ bs) e =
    let first = and_parts (b == 47) (nat_le (length bs) 8191 && list_all is_target_byte bs) e in
    let rest = and_parts (nat_le (length bs) 8191) (list_all is_target_byte bs) first.1 in
    let low : b < 128 = grind (arith, nat_tests, first.0) in
    IsAscii-cons b bs low (all_below bs rest.1)

pub utf8 : (bs : List ℕ) → is_target bs ≡ true → IsUtf8 bs
utf8 bs e = IsUtf8-from_ascii bs (ascii bs e)

pub characters : (bs : List ℕ) → is_target bs ≡ true → chars bs ≡ bs
characters bs e = chars-IsAscii bs (ascii bs e)

pub same_bytes : (bs : List ℕ) → is_target bs ≡ true → encode_utf8_all bs ≡ bs
same_bytes bs e = encodes-IsAscii bs (ascii bs e)
