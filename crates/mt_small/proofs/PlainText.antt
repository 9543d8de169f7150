-- Letters, names, targets and plain text are ASCII, and so UTF-8.
use Rattle.std.proofs.Common.{◌≡◌, ◌<◌, ◌++◌, ℕ, zero, suc, Bool, true, ◌&&◌, ◌==◌, not, nat_le, nat_lt, List, [], ◌∷◌, length, take, drop, slice_index, bytes_eq, chars, encode_utf8_all, sym, subst, ap, ◌∙◌, arith, refl, take-append-drop, ltb-true}
use Rattle.std.proofs.lemmas.Bool.{and_parts}
use Rattle.std.proofs.lemmas.Bool.Decides.{nat_tests}
use Rattle.std.proofs.lemmas.Str.{IsUtf8-from_ascii, IsUtf8-append, encodes-chars, encodes_same}
use Rattle.std.specs.List.{list_all}
use Rattle.std.specs.Str.{IsUtf8}
use Rattle.mt_small.specs.Name.{is_lower, is_name, is_target, is_service_name, builtins, hop}
use Rattle.mt_small.specs.Paragraph.{is_plain, is_paragraph}
use Rattle.mt_small.proofs.Cuts.{same_bytes, lacks, starts_without_space}
use Rattle.mt_tree.specs.Tables.{is_among}
use Rattle.mt_tree.specs.Words.{reserved_words}

ascii : (p : ℕ → Bool) → ((b : ℕ) → p b ≡ true → b < 128) → (bs : List ℕ) → list_all p bs ≡ true → (i : ℕ) → slice_index bs i < 128
ascii p low [] e i = omega arith
ascii p low (b ∷ bs) e zero = low b (and_parts (p b) (list_all p bs) e).0
ascii p low (b ∷ bs) e (suc i) = ascii p low bs (and_parts (p b) (list_all p bs) e).1 i

utf8_by : (p : ℕ → Bool) → ((b : ℕ) → p b ≡ true → b < 128) → (bs : List ℕ) → list_all p bs ≡ true → IsUtf8 bs
utf8_by p low bs e = IsUtf8-from_ascii bs (ascii p low bs e)

plain-low : (b : ℕ) → is_plain b ≡ true → b < 128
plain-low b e = grind (arith, nat_tests)

lower-low : (b : ℕ) → is_lower b ≡ true → b < 128
lower-low b e = grind (arith, nat_tests)

pub utf8 : (bs : List ℕ) → list_all is_plain bs ≡ true → IsUtf8 bs
utf8 bs e = utf8_by is_plain plain-low bs e

pub name-lower : (bs : List ℕ) → is_name bs ≡ true → list_all is_lower bs ≡ true
name-lower bs e = (and_parts (nat_le (length bs) 32) (list_all is_lower bs) (and_parts (nat_le 1 (length bs)) _ e).1).1

pub name-utf8 : (bs : List ℕ) → is_name bs ≡ true → IsUtf8 bs
name-utf8 bs e = utf8_by is_lower lower-low bs (name-lower bs e)

pub service-name : (bs : List ℕ) → is_service_name bs ≡ true → is_name bs ≡ true
service-name bs e = (and_parts (is_name bs) (not (is_among reserved_words bs) && not (is_among builtins bs)) e).0

pub service-utf8 : (bs : List ℕ) → is_service_name bs ≡ true → IsUtf8 bs
service-utf8 bs e = name-utf8 bs (service-name bs e)

pub paragraph-utf8 : (bs : List ℕ) → is_paragraph bs ≡ true → IsUtf8 bs
paragraph-utf8 bs e = utf8 bs (and_parts (nat_le (length bs) 1000) (list_all is_plain bs) (and_parts (nat_le 1 (length bs)) _ e).1).1

hop-utf8 : IsUtf8 hop
hop-utf8 = utf8_by (λ b. nat_lt b 128) (λ b e. ltb-true b 128 e) hop refl

target-hop : (bs : List ℕ) → is_target bs ≡ true → take 5 bs ≡ hop
target-hop bs e = same_bytes (take 5 bs) hop (and_parts (bytes_eq (take 5 bs) hop) (is_name (drop 5 bs)) e).0

target-parts : (bs : List ℕ) → is_target bs ≡ true → bs ≡ hop ++ drop 5 bs
target-parts bs e = sym (take-append-drop 5 bs) ∙ ap (λ xs. xs ++ drop 5 bs) (target-hop bs e)

pub target-utf8 : (bs : List ℕ) → is_target bs ≡ true → IsUtf8 bs
target-utf8 bs e =
    let name = name-utf8 (drop 5 bs) (and_parts (bytes_eq (take 5 bs) hop) (is_name (drop 5 bs)) e).1 in
    subst IsUtf8 (sym (target-parts bs e)) (IsUtf8-append hop (drop 5 bs) hop-utf8 name)

pub target-starts : (bs : List ℕ) → is_target bs ≡ true → starts_without_space bs ≡ true
target-starts bs e = ap starts_without_space (target-parts bs e)

lower-lacks : (bs : List ℕ) → list_all is_lower bs ≡ true → lacks 40 bs ≡ true
lower-lacks [] e = refl
lower-lacks (b ∷ bs) e =
    let both = and_parts (is_lower b) (list_all is_lower bs) e in
    let other : not (b == 40) ≡ true = lower-other b both.0 in
    rw (other, lower-lacks bs both.1) refl
  where
    lower-other : (b : ℕ) → is_lower b ≡ true → not (b == 40) ≡ true
    lower-other b low = grind (arith, nat_tests)

pub service-lacks : (bs : List ℕ) → is_service_name bs ≡ true → lacks 40 bs ≡ true
service-lacks bs e = lower-lacks bs (name-lower bs (service-name bs e))

-- a text is the characters of its bytes
pub chars-encode : (cs : List ℕ) → IsUtf8 (encode_utf8_all cs) → chars (encode_utf8_all cs) ≡ cs
chars-encode cs utf8 = encodes_same (chars (encode_utf8_all cs)) cs (encodes-chars (encode_utf8_all cs) utf8)
