-- The datum that a JSON value stands for, by the tags of its objects. It is lenient: what it gives for a value that no datum has
-- is of no matter.
use Rattle.std.specs.Prelude.{ℕ, List, [], ◌∷◌, codes, if◌then◌else◌, Option, Some, None, option_map}
use Rattle.std.specs.Str.{chars, bytes_eq}
use Rattle.mt_tree.specs.declared.data.Data as made
use Rattle.mt_tree.specs.declared.data.Entry.{Entry}
use Rattle.serde_json.specs.Data as json
use Rattle.serde_json.specs.Find.{as_array, as_i64}
use Rattle.serde_json.specs.Read.{read}
use Rattle.mt_json.specs.Reading.{◌>>=◌}

-- what f gives for each, where it gives something for each
abbrev pub for_each : {A B : Type 0} → (A → Option B) → List A → Option (List B)
for_each f [] = Some []
for_each f (a ∷ more) = f a >>= λ b. for_each f more >>= λ bs. Some (b ∷ bs)

abbrev pub text_of : json.Data → Option (List ℕ)
text_of json.null = None
text_of (json.boolean b) = None
text_of (json.number n) = None
text_of (json.string s) = Some (chars s)
text_of (json.array ds) = None
text_of (json.object ms) = None

abbrev mutual
  pub datum_of : json.Data → Option made.Data
  datum_of json.null = Some made.Null
  datum_of (json.boolean b) = Some (made.Bool b)
  datum_of (json.number n) = option_map made.Num (as_i64 n)
  datum_of (json.string s) = Some (made.Text (chars s))
  datum_of (json.array ds) = option_map made.Arr (data_of ds)
  datum_of (json.object ms) = tagged_of ms

  pub data_of : json.Items → Option (List made.Data)
  data_of json.no_items = Some []
  data_of (json.item d ds) = datum_of d >>= λ x. data_of ds >>= λ xs. Some (x ∷ xs)

  -- by the first name
  pub tagged_of : json.Members → Option made.Data
  tagged_of json.no_members = None
  tagged_of (json.member k d ms) =
      if bytes_eq k (codes "o") then option_map made.Obj (entries_in d) else
      if bytes_eq k (codes "s") then option_map made.Svc (text_of d) else Some made.Undefined

  pub entries_in : json.Data → Option (List Entry)
  entries_in json.null = None
  entries_in (json.boolean b) = None
  entries_in (json.number n) = None
  entries_in (json.string s) = None
  entries_in (json.array ds) = entries_of ds
  entries_in (json.object ms) = None

  pub entries_of : json.Items → Option (List Entry)
  entries_of json.no_items = Some []
  entries_of (json.item d ds) = entry_of d >>= λ x. entries_of ds >>= λ xs. Some (x ∷ xs)

  pub entry_of : json.Data → Option Entry
  entry_of json.null = None
  entry_of (json.boolean b) = None
  entry_of (json.number n) = None
  entry_of (json.string s) = None
  entry_of (json.array ds) = pair_of ds
  entry_of (json.object ms) = None

  pub pair_of : json.Items → Option Entry
  pair_of json.no_items = None
  pair_of (json.item n json.no_items) = None
  pair_of (json.item n (json.item d json.no_items)) = text_of n >>= λ k. datum_of d >>= λ v. Some (record { name = k; value = v })
  pair_of (json.item n (json.item d (json.item m ms))) = None

-- what the bytes are read as

abbrev pub datum_in : List ℕ → Option made.Data
datum_in bytes = read bytes >>= datum_of

abbrev pub list_in : List ℕ → Option (List made.Data)
list_in bytes = read bytes >>= as_array >>= data_of
