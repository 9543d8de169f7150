-- The JSON value of a datum, one level at a time.
use Rattle.std.proofs.Common.{◌≡◌, ℕ, suc, ℤ, pos, List, [], ◌∷◌, ◌++◌, map, Bool, true, false, rules}
use Rattle.std.specs.Str.{encode_utf8_all}
use Rattle.std.specs.Fmt.{signed_decimal}
use Rattle.mt_tree.specs.declared.data.Data.{Data, the_lemmas}
use Rattle.mt_tree.specs.declared.data.Data as made
use Rattle.mt_tree.specs.declared.data.Entry.{Entry}
use Rattle.mt_tree.specs.declared.data.Data.TheOpen.{Data-F, Entry-F}
use Rattle.mt_tree.specs.declared.data.Data.TheFolds.{fold-Data, fold-Entry}
use Rattle.mt_syntax.specs.Depth.{greatest}
use Rattle.mt_syntax.specs.DataText.{json_text, separated, data_text, entry_text}
use Rattle.mt_syntax.specs.DataLimits.{depth_of_data, depth_of_entry}
use Rattle.serde_json.specs.Data as json
use Rattle.serde_json.specs.Find.{of_integer}
use Rattle.serde_json.specs.View.{items_of}

-- ---- the JSON value of a datum

abbrev pub one_member : ℕ → json.Data → json.Data
one_member letter d = json.object (json.member (letter ∷ []) d json.no_members)

abbrev json_step : Data-F json.Data json.Data → json.Data
json_step Data-F.Undefined = one_member 117 (json.number (json.unsigned 0))
json_step Data-F.Null = json.null
json_step (Data-F.Bool b) = json.boolean b
json_step (Data-F.Num z) = json.number (of_integer z)
json_step (Data-F.Text cs) = json.string (encode_utf8_all cs)
json_step (Data-F.Arr ds) = json.array (items_of ds)
json_step (Data-F.Obj es) = one_member 111 (json.array (items_of es))
json_step (Data-F.Svc cs) = one_member 115 (json.string (encode_utf8_all cs))

abbrev entry_step : Entry-F json.Data json.Data → json.Data
entry_step e = json.array (json.item (json.string (encode_utf8_all e.name)) (json.item e.value json.no_items))

abbrev pub json_of : Data → json.Data
json_of = fold-Data json.Data json.Data json_step entry_step

abbrev pub json_of_entry : Entry → json.Data
json_of_entry = fold-Entry json.Data json.Data json_step entry_step

-- ---- one level at a time

pub text_Arr : (ds : List Data) → data_text (made.Arr ds) ≡ 91 ∷ (separated (map data_text ds) ++ 93 ∷ [])
text_Arr ds = search (rules, the_lemmas)

pub text_Obj : (es : List Entry) → data_text (made.Obj es) ≡ 123 ∷ 34 ∷ 111 ∷ 34 ∷ 58 ∷ 91 ∷ (separated (map entry_text es) ++ 93 ∷ 125 ∷ [])
text_Obj es = search (rules, the_lemmas)

pub text_Num : (z : ℤ) → data_text (made.Num z) ≡ signed_decimal z
text_Num z = search (rules, the_lemmas)

pub text_Text : (cs : List ℕ) → data_text (made.Text cs) ≡ json_text cs
text_Text cs = search (rules, the_lemmas)

pub text_Svc : (cs : List ℕ) → data_text (made.Svc cs) ≡ 123 ∷ 34 ∷ 115 ∷ 34 ∷ 58 ∷ (json_text cs ++ 125 ∷ [])
text_Svc cs = search (rules, the_lemmas)

pub depth_Arr : (ds : List Data) → depth_of_data (made.Arr ds) ≡ suc (greatest (map depth_of_data ds))
depth_Arr ds = search (rules, the_lemmas)

pub depth_Obj : (es : List Entry) → depth_of_data (made.Obj es) ≡ suc (greatest (map depth_of_entry es))
depth_Obj es = search (rules, the_lemmas)

pub depth_Entry : (e : Entry) → depth_of_entry e ≡ depth_of_data e.value
depth_Entry e = search (rules, the_lemmas)

pub json_Arr : (ds : List Data) → json_of (made.Arr ds) ≡ json.array (items_of (map json_of ds))
json_Arr ds = search (rules, the_lemmas)

pub json_Obj : (es : List Entry) → json_of (made.Obj es) ≡ one_member 111 (json.array (items_of (map json_of_entry es)))
json_Obj es = search (rules, the_lemmas)

pub json_Num : (z : ℤ) → json_of (made.Num z) ≡ json.number (of_integer z)
json_Num z = search (rules, the_lemmas)

pub json_Text : (cs : List ℕ) → json_of (made.Text cs) ≡ json.string (encode_utf8_all cs)
json_Text cs = search (rules, the_lemmas)

pub json_Svc : (cs : List ℕ) → json_of (made.Svc cs) ≡ one_member 115 (json.string (encode_utf8_all cs))
json_Svc cs = search (rules, the_lemmas)

pub json_Entry : (e : Entry) → json_of_entry e ≡ json.array (items_of (json.string (encode_utf8_all e.name) ∷ json_of e.value ∷ []))
json_Entry e = search (rules, the_lemmas)

pub text_Undefined : data_text made.Undefined ≡ 123 ∷ 34 ∷ 117 ∷ 34 ∷ 58 ∷ 48 ∷ 125 ∷ []
text_Undefined = search (rules, the_lemmas)

pub json_Undefined : json_of made.Undefined ≡ one_member 117 (json.number (of_integer (pos 0)))
json_Undefined = search (rules, the_lemmas)

pub text_Null : data_text made.Null ≡ 110 ∷ 117 ∷ 108 ∷ 108 ∷ []
text_Null = search (rules, the_lemmas)

pub json_Null : json_of made.Null ≡ json.null
json_Null = search (rules, the_lemmas)

pub text_true : data_text (made.Bool true) ≡ 116 ∷ 114 ∷ 117 ∷ 101 ∷ []
text_true = search (rules, the_lemmas)

pub text_false : data_text (made.Bool false) ≡ 102 ∷ 97 ∷ 108 ∷ 115 ∷ 101 ∷ []
text_false = search (rules, the_lemmas)

pub json_Bool : (b : Bool) → json_of (made.Bool b) ≡ json.boolean b
json_Bool b = search (rules, the_lemmas)
