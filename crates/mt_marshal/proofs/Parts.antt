-- The tests and the measures of data, one level at a time.
use denote.Hole.Carrier.{roll}
use Rattle.std.proofs.Common.{◌≡◌, ℕ, ℤ, suc, ◌+◌, Bool, true, ◌&&◌, ◌++◌, List, [], ◌∷◌, map, sum, refl, ap, ◌∙◌, rules}
use Rattle.std.specs.List.{list_all}
use Rattle.std.specs.Str.{all_scalars}
use Rattle.std.proofs.lemmas.Bool.{and_parts}
use Rattle.std.proofs.lemmas.List.Folds.{list_all-map}
use Rattle.mt_marshal.specs.Characters.{entry_has_characters, has_characters}
use Rattle.mt_syntax.specs.Data.{is_data, is_in_range, are_property_names, data_step as step_of_data, named_entry}
use Rattle.mt_syntax.specs.DataLimits.{bytes_of_data, bytes_of_entry, depth_of_data, depth_of_entry, nodes_of_data, nodes_of_entry, text_bytes}
use Rattle.mt_syntax.specs.Depth.{greatest}
use Rattle.mt_tree.specs.declared.data.Data.{Data, roll-Data, the_lemmas}
use Rattle.mt_tree.specs.declared.data.Data as «data»
use Rattle.mt_tree.specs.declared.data.Data.TheFolds.{fold-Entry, fold-roll-Data, fold-roll-Entry, map-Data}
use Rattle.mt_tree.specs.declared.data.Data.TheOpen.{Data-F, Entry-F}
use Rattle.mt_tree.specs.declared.data.Entry.{Entry, roll-Entry}
use Rattle.mt_value.specs.Limits.{data_fits, text_fits}

-- ---- measures

pub nodes_of_items : (ds : List Data) → nodes_of_data («data».Arr ds) ≡ suc (sum (map nodes_of_data ds))
nodes_of_items ds = search (rules, the_lemmas)

pub nodes_of_entries : (es : List Entry) → nodes_of_data («data».Obj es) ≡ suc (sum (map nodes_of_entry es))
nodes_of_entries es = search (rules, the_lemmas)

pub nodes_of_one : (e : Entry) → nodes_of_entry e ≡ nodes_of_data e.value
nodes_of_one e = search (rules, the_lemmas)

pub bytes_of_items : (ds : List Data) → bytes_of_data («data».Arr ds) ≡ sum (map bytes_of_data ds)
bytes_of_items ds = search (rules, the_lemmas)

pub bytes_of_entries : (es : List Entry) → bytes_of_data («data».Obj es) ≡ sum (map bytes_of_entry es)
bytes_of_entries es = search (rules, the_lemmas)

pub bytes_of_one : (e : Entry) → bytes_of_entry e ≡ text_bytes e.name + bytes_of_data e.value
bytes_of_one e = search (rules, the_lemmas)

pub depth_of_items : (ds : List Data) → depth_of_data («data».Arr ds) ≡ suc (greatest (map depth_of_data ds))
depth_of_items ds = search (rules, the_lemmas)

pub depth_of_entries : (es : List Entry) → depth_of_data («data».Obj es) ≡ suc (greatest (map depth_of_entry es))
depth_of_entries es = search (rules, the_lemmas)

pub depth_of_one : (e : Entry) → depth_of_entry e ≡ depth_of_data e.value
depth_of_one e = search (rules, the_lemmas)

-- ---- whether they are data

-- apart from whether its name is that of another entry
abbrev pub entry_is_data : Entry → Bool
entry_is_data e = (named_entry e).1

all_by_second : (es : List Entry) → list_all (λ e. e.1) (map named_entry es) ≡ list_all entry_is_data es
all_by_second [] = refl
all_by_second (e ∷ es) = ap (λ b. entry_is_data e && b) (all_by_second es)

named_by_name : (e : Entry) → (named_entry e).0 ≡ e.name
named_by_name e = search (rules, the_lemmas)

names_by_first : (es : List Entry) → map (λ e. e.0) (map named_entry es) ≡ map (λ e. e.name) es
names_by_first [] = refl
names_by_first (e ∷ es) = rw (named_by_name e, names_by_first es) refl

level_of_items : (ds : List Data) → is_data («data».Arr ds) ≡ list_all (λ b. b) (map is_data ds)
level_of_items ds = search (rules, the_lemmas)

level_of_entries : (es : List Entry) → is_data («data».Obj es) ≡ (are_property_names (map (λ e. e.0) (map named_entry es)) && list_all (λ e. e.1) (map named_entry es))
level_of_entries es = search (rules, the_lemmas)

pub data_of_items : (ds : List Data) → is_data («data».Arr ds) ≡ list_all is_data ds
data_of_items ds = level_of_items ds ∙ list_all-map (λ b. b) is_data ds

pub data_of_entries : (es : List Entry) → is_data («data».Obj es) ≡ (are_property_names (map (λ e. e.name) es) && list_all entry_is_data es)
data_of_entries es = level_of_entries es ∙ ap (λ b. are_property_names (map (λ e. e.0) (map named_entry es)) && b) (all_by_second es) ∙ ap (λ ns. are_property_names ns && list_all entry_is_data es) (names_by_first es)

pub data_of_entry : (e : Entry) → entry_is_data e ≡ (all_scalars e.name && is_data e.value)
data_of_entry e = search (rules, the_lemmas)

pub data_of_number : (n : ℤ) → is_data («data».Num n) ≡ is_in_range n
data_of_number n = search (rules, the_lemmas)

pub data_of_text : (cs : List ℕ) → is_data («data».Text cs) ≡ all_scalars cs
data_of_text cs = search (rules, the_lemmas)

pub data_of_service : (cs : List ℕ) → is_data («data».Svc cs) ≡ all_scalars cs
data_of_service cs = search (rules, the_lemmas)

-- ---- whether they hold characters

level_of_texts : (ds : List Data) → has_characters («data».Arr ds) ≡ list_all (λ b. b) (map has_characters ds)
unfolding has_characters
level_of_texts ds = search (rules, the_lemmas)

level_of_entry_texts : (es : List Entry) → has_characters («data».Obj es) ≡ list_all (λ b. b) (map entry_has_characters es)
unfolding has_characters entry_has_characters
level_of_entry_texts es = search (rules, the_lemmas)

pub characters_of_items : (ds : List Data) → has_characters («data».Arr ds) ≡ list_all has_characters ds
characters_of_items ds = level_of_texts ds ∙ list_all-map (λ b. b) has_characters ds

pub characters_of_entries : (es : List Entry) → has_characters («data».Obj es) ≡ list_all entry_has_characters es
characters_of_entries es = level_of_entry_texts es ∙ list_all-map (λ b. b) entry_has_characters es

pub characters_of_entry : (e : Entry) → entry_has_characters e ≡ (all_scalars e.name && has_characters e.value)
unfolding has_characters entry_has_characters
characters_of_entry e = search (rules, the_lemmas)

pub characters_of_text : (cs : List ℕ) → has_characters («data».Text cs) ≡ all_scalars cs
unfolding has_characters
characters_of_text cs = search (rules, the_lemmas)

pub characters_of_service : (cs : List ℕ) → has_characters («data».Svc cs) ≡ all_scalars cs
unfolding has_characters
characters_of_service cs = search (rules, the_lemmas)

-- ---- whether they are within the limits of values

abbrev pub Tested : Type 0
Tested = List ℕ × Bool

abbrev pub fits_step : Data-F Bool Tested → Bool
fits_step (Data-F.Text text) = text_fits text
fits_step (Data-F.Svc name) = text_fits name
fits_step layer = step_of_data layer

abbrev tested_step : Entry-F Bool Tested → Tested
tested_step e = (e.name, text_fits e.name && e.value)

-- of an entry its name, and whether name and value fit
unfoldable pub tested : Entry → Tested
tested = fold-Entry Bool Tested fits_step tested_step

pub fits_level : (x : Data-F Data Entry) → data_fits (roll-Data x) ≡ fits_step (map-Data Data Entry Bool Tested data_fits tested x)
unfolding data_fits tested
fits_level x = fold-roll-Data Bool Tested fits_step tested_step x

pub tested_level : (x : Entry-F Data Entry) → tested (roll-Entry x) ≡ (x.name, text_fits x.name && data_fits x.value)
unfolding data_fits tested
tested_level x = fold-roll-Entry Bool Tested fits_step tested_step x

pub fits_of_items : (ds : List Data) → data_fits («data».Arr ds) ≡ list_all data_fits ds
unfolding roll-Data roll
fits_of_items ds = fits_level (Data-F.Arr ds) ∙ list_all-map (λ b. b) data_fits ds

pub fits_of_entries : (es : List Entry) → data_fits («data».Obj es) ≡ (are_property_names (map (λ e. e.0) (map tested es)) && list_all (λ e. e.1) (map tested es))
unfolding roll-Data roll
fits_of_entries es = fits_level (Data-F.Obj es)

pub fits_of_number : (n : ℤ) → data_fits («data».Num n) ≡ is_in_range n
unfolding roll-Data roll
fits_of_number n = fits_level (Data-F.Num n)

pub fits_of_text : (cs : List ℕ) → data_fits («data».Text cs) ≡ text_fits cs
unfolding roll-Data roll
fits_of_text cs = fits_level (Data-F.Text cs)

pub fits_of_service : (cs : List ℕ) → data_fits («data».Svc cs) ≡ text_fits cs
unfolding roll-Data roll
fits_of_service cs = fits_level (Data-F.Svc cs)

pub fits_of_one : (e : Entry) → tested e ≡ (e.name, text_fits e.name && data_fits e.value)
unfolding data_fits tested
fits_of_one e = search (rules, the_lemmas)

pub names_of_entries : (es : List Entry) → map (λ (t : Tested). t.0) (map tested es) ≡ map (λ (e : Entry). e.name) es
names_of_entries [] = refl
names_of_entries (e ∷ es) = λ i. ap (λ (t : Tested). t.0) (fits_of_one e) i ∷ names_of_entries es i

pub all_and_one : {A : Type 0} (test : A → Bool) (xs : List A) (a : A) → list_all test xs ≡ true → test a ≡ true → list_all test (xs ++ a ∷ []) ≡ true
all_and_one test [] a each last = ap (λ b. b && true) last
all_and_one test (x ∷ xs) a each last =
    let parts = and_parts (test x) (list_all test xs) each in
    (λ i. parts.0 i && list_all test (xs ++ a ∷ [])) ∙ all_and_one test xs a parts.1 last
