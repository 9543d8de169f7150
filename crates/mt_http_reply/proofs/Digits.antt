-- The decimal digits of a number are parsed as that number.
use Rattle.std.proofs.Common.{◌≡◌, ◌<◌, ◌^◌, ◌+◌, ◌-◌, ℕ, List, ◌++◌, length, take, drop, decimal, refl, sym, ap, ◌∙◌, subst, arith}
use Rattle.std.specs.Prelude.{Some, Result, Ok, Err}
use Rattle.std.specs.Str.{IsUtf8}
use Rattle.std.specs.Str.Parse.{ParsesUnsigned}
use Rattle.std.proofs.lemmas.Fmt.{IsAscii-decimal, parse-decimal}
use Rattle.std.proofs.lemmas.List.{length-append, take_at, drop_at}
use Rattle.std.proofs.lemmas.Str.{IsUtf8-from_ascii}
use Rattle.mt_http_reply.specs.Reading.{between}

pub parsed : {E : Type 0} (bs : List ℕ) (r : Result ℕ E) (m n : ℕ) → ParsesUnsigned 64 10 bs r → r ≡ Ok m → n < 2 ^ 64 → bs ≡ decimal n → Some m ≡ Some n
parsed bs r m n parses said small is =
    let again : r ≡ Ok n = parse-decimal 64 n bs r small small is parses in
    let same : m ≡ n = cc in
    ap Some same

pub not_parsed : {E : Type 0} (bs : List ℕ) (r : Result ℕ E) (e : E) (n : ℕ) → ParsesUnsigned 64 10 bs r → r ≡ Err e → n < 2 ^ 64 → bs ≡ decimal n → ⊥
not_parsed bs r e n parses said small is =
    let again : r ≡ Ok n = parse-decimal 64 n bs r small small is parses in
    cc

pub is_text : (bs : List ℕ) (n : ℕ) → n < 2 ^ 64 → bs ≡ decimal n → IsUtf8 bs
is_text bs n small is = subst IsUtf8 (sym is) (IsUtf8-from_ascii (decimal n) (IsAscii-decimal n small))

-- ---- what stands between

pub between_is : (front middle back : List ℕ) (m n : ℕ) → length front ≡ m → length back ≡ n → between m n (front ++ (middle ++ back)) ≡ middle
between_is front middle back m n fits_front fits_back =
    let size : length (front ++ (middle ++ back)) - (m + n) ≡ length middle = simp length-append (omega arith) in
    ap (λ (k : ℕ). take k (drop m (front ++ (middle ++ back)))) size
    ∙ ap (take (length middle)) (drop_at front (middle ++ back) m fits_front)
    ∙ take_at middle back (length middle) refl
