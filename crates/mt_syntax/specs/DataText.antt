-- The tagged JSON of data, in bytes of UTF-8 and without white space. Null, truth values, numbers, texts and arrays are those of
-- JSON (RFC 8259); objects, `undefined` and services are written as objects of JSON with one key, `o`, `u` or `s`.
use Rattle.std.specs.Prelude.{ℕ, ◌/◌, ◌%◌, ◌==◌, ◌||◌, nat_lt, if◌then◌else◌, List, [], ◌∷◌, ◌++◌, Bool, true, false, map, flat_map, encode_utf8, codes}
use Rattle.std.specs.Char.{digit_char}
use Rattle.std.specs.Fmt.{signed_decimal}
use Rattle.mt_tree.specs.declared.data.Data.{Data}
use Rattle.mt_tree.specs.declared.data.Entry.{Entry}
use Rattle.mt_tree.specs.declared.data.Data.TheOpen.{Data-F, Entry-F}
use Rattle.mt_tree.specs.declared.data.Data.TheFolds.{fold-Data, fold-Entry}

-- the letter of c's short escape, or 0 where it has none
abbrev pub escape_letter : ℕ → ℕ
escape_letter c =
    if (c == 34) || (c == 92) then c else
    if c == 8 then 98 else
    if c == 9 then 116 else
    if c == 10 then 110 else
    if c == 12 then 102 else
    if c == 13 then 114 else 0

-- what stands in a JSON text for the character c
unfoldable pub escaped : ℕ → List ℕ
escaped c =
    if nat_lt 0 (escape_letter c) then 92 ∷ escape_letter c ∷ [] else
    if nat_lt c 32 then 92 ∷ 117 ∷ 48 ∷ 48 ∷ digit_char (c / 16) ∷ digit_char (c % 16) ∷ [] else
    encode_utf8 c

-- the JSON text of these characters
abbrev pub json_text : List ℕ → List ℕ
json_text cs = 34 ∷ (flat_map escaped cs ++ 34 ∷ [])

-- a comma, where something stands before
abbrev pub comma_if : Bool → List ℕ
comma_if later = if later then 44 ∷ [] else []

-- the pieces, with a comma before each that is not the first
abbrev pub separated_after : Bool → List (List ℕ) → List ℕ
separated_after later [] = []
separated_after later (t ∷ ts) = comma_if later ++ (t ++ separated_after true ts)

abbrev pub separated : List (List ℕ) → List ℕ
separated = separated_after false

abbrev pub truth_text : Bool → List ℕ
truth_text true = codes "true"
truth_text false = codes "false"

-- one level, with the text of each part in its place
abbrev pub data_step : Data-F (List ℕ) (List ℕ) → List ℕ
data_step Data-F.Undefined = codes "{\"u\":0}"
data_step Data-F.Null = codes "null"
data_step (Data-F.Bool b) = truth_text b
data_step (Data-F.Num n) = signed_decimal n
data_step (Data-F.Text cs) = json_text cs
data_step (Data-F.Arr ts) = 91 ∷ (separated ts ++ 93 ∷ [])
data_step (Data-F.Obj ts) = codes "{\"o\":[" ++ (separated ts ++ codes "]}")
data_step (Data-F.Svc cs) = codes "{\"s\":" ++ (json_text cs ++ codes "}")

abbrev pub entry_step : Entry-F (List ℕ) (List ℕ) → List ℕ
entry_step e = 91 ∷ (json_text e.name ++ (44 ∷ (e.value ++ 93 ∷ [])))

abbrev pub data_text : Data → List ℕ
data_text = fold-Data (List ℕ) (List ℕ) data_step entry_step

abbrev pub entry_text : Entry → List ℕ
entry_text = fold-Entry (List ℕ) (List ℕ) data_step entry_step

-- the text of a list of arguments, which is an array's
abbrev pub arguments_text : List Data → List ℕ
arguments_text ds = 91 ∷ (separated (map data_text ds) ++ 93 ∷ [])
