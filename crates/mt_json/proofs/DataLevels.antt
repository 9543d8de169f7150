-- What data are, one level at a time.
use Rattle.std.proofs.Common.{◌≡◌, ℕ, ℤ, List, [], ◌∷◌, map, Bool, ◌&&◌, refl, ap, ◌∙◌, rules}
use Rattle.std.specs.List.{list_all}
use Rattle.std.specs.Str.{all_scalars}
use Rattle.mt_tree.specs.declared.data.Data.{Data, the_lemmas}
use Rattle.mt_tree.specs.declared.data.Data as made
use Rattle.mt_tree.specs.declared.data.Entry.{Entry}
use Rattle.mt_syntax.specs.Data.{is_data, is_in_range, are_property_names, named_entry}
use Rattle.mt_json.specs.Entries.{entry_is_data}
use Rattle.mt_json.specs.Names.{name_of}

-- a test of each is a test of the results
all_by_map : {A : Type 0} (test : A → Bool) (xs : List A) → list_all (λ b. b) (map test xs) ≡ list_all test xs
all_by_map test [] = refl
all_by_map test (x ∷ xs) = ap (λ b. test x && b) (all_by_map test xs)

all_by_second : (es : List Entry) → list_all (λ e. e.1) (map named_entry es) ≡ list_all entry_is_data es
all_by_second [] = refl
all_by_second (e ∷ es) = ap (λ b. entry_is_data e && b) (all_by_second es)

named_by_name : (e : Entry) → (named_entry e).0 ≡ e.name
named_by_name e = search (rules, the_lemmas)

names_by_first : (es : List Entry) → map (λ e. e.0) (map named_entry es) ≡ map name_of es
names_by_first [] = refl
names_by_first (e ∷ es) = rw (named_by_name e, names_by_first es) refl

level_of_items : (ds : List Data) → is_data (made.Arr ds) ≡ list_all (λ b. b) (map is_data ds)
level_of_items ds = search (rules, the_lemmas)

level_of_entries : (es : List Entry) → is_data (made.Obj es) ≡ (are_property_names (map (λ e. e.0) (map named_entry es)) && list_all (λ e. e.1) (map named_entry es))
level_of_entries es = search (rules, the_lemmas)

pub data_of_items : (ds : List Data) → is_data (made.Arr ds) ≡ list_all is_data ds
data_of_items ds = level_of_items ds ∙ all_by_map is_data ds

pub data_of_entries : (es : List Entry) → is_data (made.Obj es) ≡ (are_property_names (map name_of es) && list_all entry_is_data es)
data_of_entries es = level_of_entries es ∙ ap (λ b. are_property_names (map (λ e. e.0) (map named_entry es)) && b) (all_by_second es) ∙ ap (λ ns. are_property_names ns && list_all entry_is_data es) (names_by_first es)

pub data_of_entry : (e : Entry) → entry_is_data e ≡ (all_scalars e.name && is_data e.value)
data_of_entry e = search (rules, the_lemmas)

pub data_of_number : (z : ℤ) → is_data (made.Num z) ≡ is_in_range z
data_of_number z = search (rules, the_lemmas)

pub data_of_text : (cs : List ℕ) → is_data (made.Text cs) ≡ all_scalars cs
data_of_text cs = search (rules, the_lemmas)

pub data_of_service : (cs : List ℕ) → is_data (made.Svc cs) ≡ all_scalars cs
data_of_service cs = search (rules, the_lemmas)
