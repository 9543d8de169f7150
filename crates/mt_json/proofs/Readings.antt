-- The JSON value of a datum is read from its text, and the datum from that value.
use Rattle.std.proofs.Common.{◌≡◌, ℕ, ◌+◌, ◌*◌, ◌^◌, ◌<◌, ◌≤◌, ℤ, pos, negsuc, List, [], ◌∷◌, ◌++◌, map, Bool, true, false, Some, option_map, refl, sym, ap, subst, ◌∙◌, append_assoc, arith}
use denote.Hole.Carrier.{roll}
use Rattle.std.specs.List.{list_all}
use Rattle.std.specs.Str.{all_scalars, encode_utf8_all}
use Rattle.std.specs.Fmt.{signed_decimal}
use Rattle.std.proofs.lemmas.Bool.{and_parts, lt-ltb, ltb-true}
use Rattle.std.proofs.lemmas.Str.{chars-encodes}
use Rattle.std.proofs.lemmas.Fmt.{decimal_digit}
use Rattle.mt_tree.specs.declared.data.Data.{Data, roll-Data, map-Data}
use Rattle.mt_tree.specs.declared.data.Data as made
use Rattle.mt_tree.specs.declared.data.Entry.{Entry}
use Rattle.mt_tree.specs.declared.data.Data.TheOpen.{Data-F}
use Rattle.mt_tree.specs.declared.data.Data.TheFolds.{ind-Data}
use Rattle.mt_syntax.specs.Depth.{greatest}
use Rattle.mt_syntax.specs.DataText.{json_text, separated, data_text, entry_text}
use Rattle.mt_syntax.specs.Data.{is_data, is_in_range, are_property_names}
use Rattle.mt_syntax.specs.DataLimits.{depth_of_data, depth_of_entry}
use Rattle.json.specs.Print.{escape_byte}
use Rattle.json.proofs.Printed.Utf8.{IsUtf8-are_ascii}
use Rattle.serde_json.specs.Data as json
use Rattle.serde_json.specs.Find.{as_i64, of_integer}
use Rattle.serde_json.specs.View.{items_of}
use Rattle.mt_json.specs.Entries.{entry_is_data}
use Rattle.mt_json.specs.Names.{name_of}
use Rattle.mt_json.specs.Tagged.{datum_of, data_of, entries_of, entry_of}
use Rattle.mt_json.proofs.DataLevels.{data_of_number, data_of_text, data_of_service, data_of_items, data_of_entries, data_of_entry}
use Rattle.mt_json.proofs.Entries.{text_of_entry}
use Rattle.mt_json.proofs.JsonOf.{json_of, json_of_entry, one_member, text_Arr, text_Obj, text_Num, text_Text, text_Svc}
use Rattle.mt_json.proofs.JsonOf.{depth_Arr, depth_Obj, depth_Entry, json_Arr, json_Obj, json_Num, json_Text, json_Svc, json_Entry}
use Rattle.mt_json.proofs.JsonOf.{text_Undefined, json_Undefined, text_Null, json_Null, text_true, text_false, json_Bool}
use Rattle.mt_json.proofs.JsonTexts.{Reads, ReadsAll, Reads-deeper, reads_text, reads_number, reads_member, reads_none, reads_one_more, reads_array, one_value}

-- ---- the law

abbrev pub Good : Data → Type 0
Good d = is_data d ≡ true → Reads (json_of d) (data_text d) (3 * depth_of_data d + 1) × (datum_of (json_of d) ≡ Some d)

abbrev GoodEntry : Entry → Type 0
GoodEntry e = entry_is_data e ≡ true → Reads (json_of_entry e) (entry_text e) (3 * depth_of_entry e + 2) × (entry_of (json_of_entry e) ≡ Some e)

-- as what it is, and its text
as_is : {j k : json.Data} {s t : List ℕ} {m n : ℕ} → j ≡ k → s ≡ t → m ≤ n → Reads k t m → Reads j s n
as_is {j} {k} {s} {t} {m} {n} e f le h = Reads-deeper j s m n (subst (λ x. Reads x s m) (sym e) (subst (λ x. Reads k x m) (sym f) h)) le

good_Text : (cs : List ℕ) → Good (made.Text cs)
good_Text cs lawful =
    let scalar : all_scalars cs ≡ true = sym (data_of_text cs) ∙ lawful in
    (as_is (json_Text cs) (text_Text cs) (omega arith) (reads_text cs scalar), ap datum_of (json_Text cs) ∙ ap (λ (s : List ℕ). Some (made.Text s)) (chars-encodes cs scalar))

good_Svc : (cs : List ℕ) → Good (made.Svc cs)
unfolding escape_byte
good_Svc cs lawful =
    let scalar : all_scalars cs ≡ true = sym (data_of_service cs) ∙ lawful in (
      as_is (json_Svc cs) (text_Svc cs) (omega arith) (reads_member 115 _ _ 0 refl (omega arith) (reads_text cs scalar)),
      ap datum_of (json_Svc cs) ∙ ap (λ (s : List ℕ). Some (made.Svc s)) (chars-encodes cs scalar),
    )

number_back : (z : ℤ) → is_in_range z ≡ true → as_i64 (of_integer z) ≡ Some z
number_back (pos n) range = let lt : n < 2 ^ 53 = ltb-true n (2 ^ 53) range in rw (lt-ltb n (2 ^ 63) (omega arith)) refl
number_back (negsuc n) range = refl

good_Num : (z : ℤ) → Good (made.Num z)
good_Num z lawful =
    let range : is_in_range z ≡ true = sym (data_of_number z) ∙ lawful in
    (as_is (json_Num z) (text_Num z) (omega arith) (reads_number z range), ap datum_of (json_Num z) ∙ ap (option_map made.Num) (number_back z range))

abbrev pub EachGood : List Data → Type 0
EachGood [] = Unit {0}
EachGood (d ∷ ds) = Good d × EachGood ds

abbrev EachGoodEntry : List Entry → Type 0
EachGoodEntry [] = Unit {0}
EachGoodEntry (e ∷ es) = GoodEntry e × EachGoodEntry es

pub each_reads : (ds : List Data) (n : ℕ) → EachGood ds → list_all is_data ds ≡ true → 3 * greatest (map depth_of_data ds) + 1 ≤ n
    → ReadsAll (map json_of ds) (map data_text ds) n × (data_of (items_of (map json_of ds)) ≡ Some ds)
each_reads [] n good lawful deep = (reads_none n, refl)
each_reads (d ∷ ds) n good lawful deep =
    let both = and_parts (is_data d) (list_all is_data ds) lawful in
    let one = good.0 both.0 in
    let rest = each_reads ds n good.1 both.1 (omega (arith, deep)) in
    (reads_one_more (json_of d) (map json_of ds) (data_text d) (map data_text ds) n (Reads-deeper _ _ (3 * depth_of_data d + 1) n one.0 (omega (arith, deep))) rest.0, rw (one.1, rest.1) refl)

each_entry_reads : (es : List Entry) (n : ℕ) → EachGoodEntry es → list_all entry_is_data es ≡ true → 3 * greatest (map depth_of_entry es) + 2 ≤ n
    → ReadsAll (map json_of_entry es) (map entry_text es) n × (entries_of (items_of (map json_of_entry es)) ≡ Some es)
each_entry_reads [] n good lawful deep = (reads_none n, refl)
each_entry_reads (e ∷ es) n good lawful deep =
    let both = and_parts (entry_is_data e) (list_all entry_is_data es) lawful in
    let one = good.0 both.0 in
    let rest = each_entry_reads es n good.1 both.1 (omega (arith, deep)) in (
      reads_one_more (json_of_entry e) (map json_of_entry es) (entry_text e) (map entry_text es) n
          (Reads-deeper _ _ (3 * depth_of_entry e + 2) n one.0 (omega (arith, deep))) rest.0,
      rw (one.1, rest.1) refl,
    )

good_Arr : (ds : List Data) → EachGood ds → Good (made.Arr ds)
good_Arr ds good lawful =
    let all = each_reads ds (3 * greatest (map depth_of_data ds) + 1) good (sym (data_of_items ds) ∙ lawful) (omega arith) in
    (as_is (json_Arr ds) (text_Arr ds) (omega (arith, depth_Arr ds)) (reads_array (map json_of ds) (map data_text ds) _ all.0), ap datum_of (json_Arr ds) ∙ ap (option_map made.Arr) all.1)

good_Obj : (es : List Entry) → EachGoodEntry es → Good (made.Obj es)
unfolding escape_byte
good_Obj es good lawful =
    let each = (and_parts (are_property_names (map name_of es)) (list_all entry_is_data es) (sym (data_of_entries es) ∙ lawful)).1 in
    let all = each_entry_reads es (3 * greatest (map depth_of_entry es) + 2) good each (omega arith) in
    let text : data_text (made.Obj es) ≡ 123 ∷ 34 ∷ 111 ∷ 34 ∷ 58 ∷ ((91 ∷ (separated (map entry_text es) ++ 93 ∷ [])) ++ 125 ∷ []) = text_Obj es ∙ simp append_assoc in (
      as_is (json_Obj es) text (omega (arith, depth_Obj es)) (reads_member 111 _ _ _ refl (omega arith) (reads_array (map json_of_entry es) (map entry_text es) _ all.0)),
      ap datum_of (json_Obj es) ∙ ap (option_map made.Obj) all.1,
    )

good_Entry : (name : List ℕ) (d : Data) → Good d → GoodEntry (record { name = name; value = d })
good_Entry name d good lawful =
    let e : Entry = record { name = name; value = d } in
    let both = and_parts (all_scalars name) (is_data d) (sym (data_of_entry e) ∙ lawful) in
    let one = good both.1 in
    let n = 3 * depth_of_data d + 1 in
    let pair = reads_array (json.string (encode_utf8_all name) ∷ json_of d ∷ []) (json_text name ∷ data_text d ∷ []) n
    (reads_one_more _ _ _ _ n (Reads-deeper _ _ 0 n (reads_text name both.0) (omega arith)) (reads_one_more _ _ _ _ n one.0 (reads_none n))) in
    let text : entry_text e ≡ 91 ∷ (separated (json_text name ∷ data_text d ∷ []) ++ 93 ∷ []) = text_of_entry e ∙ simp append_assoc in
    (as_is (json_Entry e) text (omega (arith, depth_Entry e)) pair, ap entry_of (json_Entry e) ∙ rw (one.1, chars-encodes name both.0) refl)

zero_text : signed_decimal (pos 0) ≡ 48 ∷ []
zero_text = decimal_digit 0 (omega arith)

reads_undefined : Reads (one_member 117 (json.number (of_integer (pos 0)))) (123 ∷ 34 ∷ 117 ∷ 34 ∷ 58 ∷ 48 ∷ 125 ∷ []) 1
unfolding escape_byte
reads_undefined =
    subst (λ t. Reads (one_member 117 (json.number (of_integer (pos 0)))) (123 ∷ 34 ∷ 117 ∷ 34 ∷ 58 ∷ (t ++ 125 ∷ [])) 1) zero_text
    (reads_member 117 (json.number (of_integer (pos 0))) (signed_decimal (pos 0)) 0 refl (omega arith) (reads_number (pos 0) refl))

good_Undefined : Good made.Undefined
good_Undefined lawful = (as_is json_Undefined text_Undefined (omega arith) reads_undefined, ap datum_of json_Undefined)

good_Null : Good made.Null
good_Null lawful =
    (as_is {m = 0} json_Null text_Null (omega arith) (record { written = refl; numbers = tt; shallow = omega arith; again = refl; utf8 = IsUtf8-are_ascii _ refl }), ap datum_of json_Null)

good_Bool : (b : Bool) → Good (made.Bool b)
good_Bool true lawful = (
  as_is {m = 0} (json_Bool true) text_true (omega arith)
      (record { written = refl; numbers = tt; shallow = omega arith; again = refl; utf8 = IsUtf8-are_ascii _ refl }),
  ap datum_of (json_Bool true),
)
good_Bool false lawful = (
  as_is {m = 0} (json_Bool false) text_false (omega arith)
      (record { written = refl; numbers = tt; shallow = omega arith; again = refl; utf8 = IsUtf8-are_ascii _ refl }),
  ap datum_of (json_Bool false),
)

abbrev Known : Type 0
Known = (d : Data) × Good d

abbrev KnownEntry : Type 0
KnownEntry = (e : Entry) × GoodEntry e

each_known : (es : List Known) → EachGood (map (λ e. e.0) es)
each_known [] = tt
each_known (e ∷ es) = (e.1, each_known es)

each_known_entry : (es : List KnownEntry) → EachGoodEntry (map (λ e. e.0) es)
each_known_entry [] = tt
each_known_entry (e ∷ es) = (e.1, each_known_entry es)

abbrev bare : Data-F Known KnownEntry → Data-F Data Entry
bare y = map-Data Known KnownEntry Data Entry (λ e. e.0) (λ e. e.0) y

by_level : (y : Data-F Known KnownEntry) → Good (roll-Data (bare y))
unfolding roll-Data roll
by_level Data-F.Undefined = good_Undefined
by_level Data-F.Null = good_Null
by_level (Data-F.Bool b) = good_Bool b
by_level (Data-F.Num z) = good_Num z
by_level (Data-F.Text cs) = good_Text cs
by_level (Data-F.Arr es) = good_Arr (map (λ e. e.0) es) (each_known es)
by_level (Data-F.Obj es) = good_Obj (map (λ e. e.0) es) (each_known_entry es)
by_level (Data-F.Svc cs) = good_Svc cs

pub all_good : (d : Data) → Good d
all_good =
    ind-Data Good GoodEntry (λ x y is. subst (λ z. Good (roll-Data z)) is (by_level y))
    (λ x y is. subst (λ z. GoodEntry (record { name = z.name; value = z.value })) is (good_Entry y.name y.value.0 y.value.1))

pub each_good : (ds : List Data) → EachGood ds
each_good [] = tt
each_good (d ∷ ds) = (all_good d, each_good ds)

-- ---- no two data have one text

pub one_text : (a b : Data) → is_data a ≡ true → is_data b ≡ true → data_text a ≡ data_text b → a ≡ b
one_text a b lawful_a lawful_b same =
    let good_a = all_good a lawful_a in
    let good_b = all_good b lawful_b in
    let value = one_value (json_of a) (json_of b) (data_text a) (data_text b) _ _ good_a.0 good_b.0 same in
    let whole : Some a ≡ Some b = sym good_a.1 ∙ ap datum_of value ∙ good_b.1 in cc
