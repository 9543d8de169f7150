-- The text of data is UTF-8.
use Rattle.std.proofs.Common.{◌≡◌, ℕ, zero, suc, ◌/◌, ◌%◌, ◌<◌, ◌^◌, ℤ, pos, negsuc, List, [], ◌∷◌, ◌++◌, map, Bool, true, false, cond, ◌&&◌, nat_lt, refl, sym, ap, ◌∙◌, subst, arith}
use lib.Utf8
use Rattle.std.specs.Prelude.{codes, flat_map}
use Rattle.std.specs.List.{list_all}
use Rattle.std.specs.Str.{IsUtf8, IsAscii, all_scalars}
use lib.Signed.{mag}
use Rattle.std.specs.Char.{digit_char, IsScalar}
use Rattle.std.specs.Fmt.{signed_decimal}
use Rattle.std.proofs.lemmas.Bool.{and_parts, ltb-true}
use Rattle.std.proofs.lemmas.Bool.Decides.{nat_tests}
use Rattle.std.proofs.lemmas.Fmt.{IsAscii-signed}
use Rattle.std.proofs.lemmas.Str.{IsUtf8-append, IsUtf8-nil, IsUtf8-from_ascii, IsUtf8-encode}
use Rattle.mt_tree.specs.declared.data.Data.{Data, roll-Data}
use Rattle.mt_tree.specs.declared.data.Entry.{Entry, roll-Entry}
use Rattle.mt_tree.specs.declared.data.Data.TheOpen.{Data-F, Entry-F}
use Rattle.mt_tree.specs.declared.data.Data.TheFolds.{ind-Data, map-Data, map-Entry, fold-roll-Data, fold-roll-Entry}
use Rattle.mt_syntax.specs.Data.{Named, are_property_names, data_step as is_data_step, entry_step as named_step, is_data, is_in_range, named_entry}
use Rattle.mt_syntax.specs.DataText as texts
use Rattle.mt_syntax.specs.DataText.{comma_if, data_step, data_text, entry_step, entry_text, escape_letter, escaped, json_text, separated, separated_after, truth_text}

-- two bytes below 128
pair_utf8 : (x y : ℕ) → x < 128 → y < 128 → IsUtf8 (x ∷ y ∷ [])
pair_utf8 x y p q = IsUtf8-from_ascii (x ∷ y ∷ []) below
  where
    below : IsAscii (x ∷ y ∷ [])
    below zero = p
    below (suc zero) = q
    below (suc (suc i)) = omega arith

letter_below : (c : ℕ) → escape_letter c < 128
letter_below c = grind (arith, nat_tests)

digit_below : (d : ℕ) → d < 16 → digit_char d < 128
digit_below d h = grind (arith, nat_tests)

escaped_utf8 : (c : ℕ) → IsScalar c → IsUtf8 (escaped c)
unfolding texts.escaped
escaped_utf8 c s = by (nat_lt 0 (escape_letter c)) (nat_lt c 32) refl
  where
    by : (p q : Bool) → nat_lt c 32 ≡ q → IsUtf8 (cond p (92 ∷ escape_letter c ∷ []) (cond q (92 ∷ 117 ∷ 48 ∷ 48 ∷ digit_char (c / 16) ∷ digit_char (c % 16) ∷ []) (lib.Utf8.encode c)))
    by true q e = pair_utf8 92 (escape_letter c) (omega arith) (letter_below c)
    by false true e =
        let h : c < 32 = ltb-true c 32 e in
        IsUtf8-append (92 ∷ 117 ∷ []) (48 ∷ 48 ∷ digit_char (c / 16) ∷ digit_char (c % 16) ∷ []) (pair_utf8 92 117 (omega arith) (omega arith))
        (IsUtf8-append (48 ∷ 48 ∷ []) (digit_char (c / 16) ∷ digit_char (c % 16) ∷ []) (pair_utf8 48 48 (omega arith) (omega arith))
        (pair_utf8 (digit_char (c / 16)) (digit_char (c % 16)) (digit_below (c / 16) (omega (arith, h))) (digit_below (c % 16) (omega arith))))
    by false false e = IsUtf8-encode c s

all_escaped_utf8 : (cs : List ℕ) → all_scalars cs ≡ true → IsUtf8 (flat_map escaped cs)
all_escaped_utf8 [] e = IsUtf8-nil
all_escaped_utf8 (c ∷ cs) e =
    let es = and_parts (lib.Utf8.scalar c) (all_scalars cs) e in IsUtf8-append (escaped c) (flat_map escaped cs) (escaped_utf8 c es.0) (all_escaped_utf8 cs es.1)

-- bytes below 128, one by one
abbrev AreAscii : List ℕ → Bool
AreAscii = list_all (λ b. nat_lt b 128)

ascii_utf8 : (bs : List ℕ) → AreAscii bs ≡ true → IsUtf8 bs
ascii_utf8 bs e = IsUtf8-from_ascii bs (each bs e)
  where
    each : (bs : List ℕ) → AreAscii bs ≡ true → IsAscii bs
    each [] e i = omega arith
    each (b ∷ bs) e zero = ltb-true b 128 (and_parts (nat_lt b 128) (AreAscii bs) e).0
    each (b ∷ bs) e (suc i) = each bs (and_parts (nat_lt b 128) (AreAscii bs) e).1 i

-- a text between ASCII bytes
between_utf8 : (front back bs : List ℕ) → AreAscii front ≡ true → AreAscii back ≡ true → IsUtf8 bs → IsUtf8 (front ++ (bs ++ back))
between_utf8 front back bs p q u = IsUtf8-append front (bs ++ back) (ascii_utf8 front p) (IsUtf8-append bs back u (ascii_utf8 back q))

json_utf8 : (cs : List ℕ) → all_scalars cs ≡ true → IsUtf8 (json_text cs)
json_utf8 cs e = between_utf8 (34 ∷ []) (34 ∷ []) (flat_map escaped cs) refl refl (all_escaped_utf8 cs e)

truth_utf8 : (b : Bool) → IsUtf8 (truth_text b)
truth_utf8 true = ascii_utf8 (codes "true") refl
truth_utf8 false = ascii_utf8 (codes "false") refl

number_utf8 : (z : ℤ) → is_in_range z ≡ true → IsUtf8 (signed_decimal z)
number_utf8 z e = IsUtf8-from_ascii (signed_decimal z) (IsAscii-signed z (small z e))
  where
    small : (z : ℤ) → is_in_range z ≡ true → mag z < 2 ^ 63
    small (pos n) e = omega (arith, ltb-true n (2 ^ 53) e)
    small (negsuc n) e = omega (arith, ltb-true (suc n) (2 ^ 53) e)

-- ---- by induction

abbrev IsText : Data → Type 0
IsText d = is_data d ≡ true → IsUtf8 (data_text d)

abbrev IsEntryText : Entry → Type 0
IsEntryText e = (named_entry e).1 ≡ true → IsUtf8 (entry_text e)

abbrev Texts : Type 0
Texts = (d : Data) × IsText d

abbrev EntryTexts : Type 0
EntryTexts = (e : Entry) × IsEntryText e

comma_utf8 : (later : Bool) → IsUtf8 (comma_if later)
comma_utf8 true = ascii_utf8 (44 ∷ []) refl
comma_utf8 false = IsUtf8-nil

items_utf8 : (later : Bool) (ds : List Texts) → list_all (λ b. b) (map is_data (map (λ (d : Texts). d.0) ds)) ≡ true → IsUtf8 (separated_after later (map data_text (map (λ (d : Texts). d.0) ds)))
items_utf8 later [] e = IsUtf8-nil
items_utf8 later (d ∷ ds) e =
    let es = and_parts (is_data d.0) (list_all (λ b. b) (map is_data (map (λ (d : Texts). d.0) ds))) e in
    let rest = separated_after true (map data_text (map (λ (d : Texts). d.0) ds)) in
    IsUtf8-append (comma_if later) (data_text d.0 ++ rest) (comma_utf8 later) (IsUtf8-append (data_text d.0) rest (d.1 es.0) (items_utf8 true ds es.1))

entries_utf8 : (later : Bool) (xs : List EntryTexts) → list_all (λ (e : Named). e.1) (map named_entry (map (λ (e : EntryTexts). e.0) xs)) ≡ true
    → IsUtf8 (separated_after later (map entry_text (map (λ (e : EntryTexts). e.0) xs)))
entries_utf8 later [] e = IsUtf8-nil
entries_utf8 later (x ∷ xs) e =
    let es = and_parts (named_entry x.0).1 (list_all (λ (e : Named). e.1) (map named_entry (map (λ (e : EntryTexts). e.0) xs))) e in
    let rest = separated_after true (map entry_text (map (λ (e : EntryTexts). e.0) xs)) in
    IsUtf8-append (comma_if later) (entry_text x.0 ++ rest) (comma_utf8 later) (IsUtf8-append (entry_text x.0) rest (x.1 es.0) (entries_utf8 true xs es.1))

-- by one layer
layer_utf8 : (x : Data-F Data Entry) → (is_data_step (map-Data Data Entry Bool Named is_data named_entry x) ≡ true → IsUtf8 (data_step (map-Data Data Entry (List ℕ) (List ℕ) data_text entry_text x))) → IsText (roll-Data x)
layer_utf8 x h e =
    subst IsUtf8 (sym (fold-roll-Data (List ℕ) (List ℕ) data_step entry_step x)) (h (sym (fold-roll-Data Bool Named is_data_step named_step x) ∙ e))

by_layer : (y : Data-F Texts EntryTexts) → IsText (roll-Data (map-Data Texts EntryTexts Data Entry (λ d. d.0) (λ e. e.0) y))
by_layer Data-F.Undefined = layer_utf8 Data-F.Undefined (λ e. ascii_utf8 (codes "{\"u\":0}") refl)
by_layer Data-F.Null = layer_utf8 Data-F.Null (λ e. ascii_utf8 (codes "null") refl)
by_layer (Data-F.Bool b) = layer_utf8 (Data-F.Bool b) (λ e. truth_utf8 b)
by_layer (Data-F.Num z) = layer_utf8 (Data-F.Num z) (number_utf8 z)
by_layer (Data-F.Text cs) = layer_utf8 (Data-F.Text cs) (json_utf8 cs)
by_layer (Data-F.Arr ds) =
    layer_utf8 (Data-F.Arr (map (λ d. d.0) ds)) (λ e. between_utf8 (91 ∷ []) (93 ∷ []) (separated (map data_text (map (λ (d : Texts). d.0) ds))) refl refl (items_utf8 false ds e))
by_layer (Data-F.Obj xs) =
    layer_utf8 (Data-F.Obj (map (λ e. e.0) xs))
    (λ e. between_utf8 (codes "{\"o\":[") (codes "]}") (separated (map entry_text (map (λ (e : EntryTexts). e.0) xs))) refl refl
    (entries_utf8 false xs (and_parts (are_property_names (map (λ (e : Named). e.0) (map named_entry (map (λ (e : EntryTexts). e.0) xs)))) (list_all (λ (e : Named). e.1) (map named_entry (map (λ (e : EntryTexts). e.0) xs))) e).1))
by_layer (Data-F.Svc cs) = layer_utf8 (Data-F.Svc cs) (λ e. between_utf8 (codes "{\"s\":") (codes "}") (json_text cs) refl refl (json_utf8 cs e))

entry_utf8 : (x : Entry-F Data Entry) → IsText x.value → IsEntryText (roll-Entry x)
entry_utf8 x h e =
    let named : (all_scalars x.name && is_data x.value) ≡ true = sym (ap (λ n. n.1) (fold-roll-Entry Bool Named is_data_step named_step x)) ∙ e in
    let es = and_parts (all_scalars x.name) (is_data x.value) named in
    subst IsUtf8 (sym (fold-roll-Entry (List ℕ) (List ℕ) data_step entry_step x))
    (IsUtf8-append (91 ∷ []) (json_text x.name ++ (44 ∷ (data_text x.value ++ 93 ∷ []))) (ascii_utf8 (91 ∷ []) refl)
    (IsUtf8-append (json_text x.name) (44 ∷ (data_text x.value ++ 93 ∷ [])) (json_utf8 x.name es.0) (between_utf8 (44 ∷ []) (93 ∷ []) (data_text x.value) refl refl (h es.1))))

pub data_utf8 : (d : Data) → is_data d ≡ true → IsUtf8 (data_text d)
data_utf8 = ind-Data IsText IsEntryText (λ x y is. subst (λ z. IsText (roll-Data z)) is (by_layer y)) (λ x y is. subst (λ z. IsEntryText (roll-Entry z)) is (entry_utf8 (map-Entry Texts EntryTexts Data Entry (λ d. d.0) (λ e. e.0) y) y.value.1))
