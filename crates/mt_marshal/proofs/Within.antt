-- Data within the limits are of a size that a store can hold.
use Rattle.std.proofs.Common.{◌≡◌, ℕ, ◌≤◌, ◌^◌, Bool, true, List, [], ◌∷◌, length, map, sum, refl, sym, ap, subst, ◌∙◌, arith, rules}
use Rattle.std.specs.List.{list_all}
use Rattle.std.specs.Str.{all_scalars}
use Rattle.std.proofs.lemmas.Bool.{and_from, and_parts, le-leb}
use Rattle.std.proofs.lemmas.List.Sums.{sum_by-cons}
use Rattle.std.proofs.lemmas.Str.{chars-encodes}
use denote.Hole.Carrier.{roll}
use lib.Utf8.{encodes}
use Rattle.mt_tree.proofs.Texts.{units_of-chars_le}
use Rattle.mt_tree.specs.Text.{units_of}
use Rattle.mt_tree.specs.declared.data.Data.{Data, roll-Data, the_lemmas}
use Rattle.mt_tree.specs.declared.data.Data as «data»
use Rattle.mt_tree.specs.declared.data.Data.TheFolds.{ind-Data, map-Data}
use Rattle.mt_tree.specs.declared.data.Data.TheOpen.{Data-F}
use Rattle.mt_tree.specs.declared.data.Entry.{Entry}
use Rattle.mt_syntax.specs.Data.{are_property_names, is_data}
use Rattle.mt_syntax.specs.DataLimits.{AreWithinLimits, bytes_of_data, bytes_of_entry, text_bytes}
use Rattle.mt_value.specs.Limits.{data_fits, text_fits}
use Rattle.mt_marshal.proofs.Parts.{Tested, bytes_of_entries, bytes_of_items, bytes_of_one, data_of_entries, data_of_entry, data_of_items, data_of_number, data_of_service, data_of_text, entry_is_data, fits_level, fits_of_entries, fits_of_items, fits_of_number, fits_of_one, fits_of_service, fits_of_text, names_of_entries, tested}

bytes_of_text : (cs : List ℕ) → bytes_of_data («data».Text cs) ≡ text_bytes cs
bytes_of_text cs = search (rules, the_lemmas)

bytes_of_service : (cs : List ℕ) → bytes_of_data («data».Svc cs) ≡ text_bytes cs
bytes_of_service cs = search (rules, the_lemmas)

short : (cs : List ℕ) → all_scalars cs ≡ true → text_bytes cs ≤ 2 ^ 20 → text_fits cs ≡ true
short cs scalars small =
    let units : units_of cs ≤ length (encodes cs) = subst (λ x. units_of x ≤ length (encodes cs)) (chars-encodes cs scalars) (units_of-chars_le (encodes cs) (cs, (scalars, refl))) in
    le-leb (units_of cs) (2 ^ 20) (omega (arith, units, small))

abbrev Fits : Data → Type 0
Fits d = is_data d ≡ true → bytes_of_data d ≤ 2 ^ 20 → data_fits d ≡ true

abbrev EntryFits : Entry → Type 0
EntryFits e = entry_is_data e ≡ true → bytes_of_entry e ≤ 2 ^ 20 → (tested e).1 ≡ true

abbrev Fitting : Type 0
Fitting = (d : Data) × Fits d

abbrev FittingEntry : Type 0
FittingEntry = (e : Entry) × EntryFits e

items_fit : (ds : List Fitting) → list_all is_data (map (λ d. d.0) ds) ≡ true → sum (map bytes_of_data (map (λ d. d.0) ds)) ≤ 2 ^ 20 → list_all data_fits (map (λ d. d.0) ds) ≡ true
items_fit [] whole small = refl
items_fit (d ∷ ds) whole small =
    let rest : List Data = map (λ d. d.0) ds in
    let parts = and_parts (is_data d.0) (list_all is_data rest) whole in
    let bytes = sum_by-cons (λ n. n) (bytes_of_data d.0) (map bytes_of_data rest) in
    and_from (data_fits d.0) (list_all data_fits rest) (d.1 parts.0 (omega (arith, small, bytes))) (items_fit ds parts.1 (omega (arith, small, bytes)))

entries_fit : (es : List FittingEntry) → list_all entry_is_data (map (λ e. e.0) es) ≡ true → sum (map bytes_of_entry (map (λ e. e.0) es)) ≤ 2 ^ 20
    → list_all (λ (t : Tested). t.1) (map tested (map (λ e. e.0) es)) ≡ true
entries_fit [] whole small = refl
entries_fit (e ∷ es) whole small =
    let rest : List Entry = map (λ e. e.0) es in
    let parts = and_parts (entry_is_data e.0) (list_all entry_is_data rest) whole in
    let bytes = sum_by-cons (λ n. n) (bytes_of_entry e.0) (map bytes_of_entry rest) in
    and_from (tested e.0).1 (list_all (λ (t : Tested). t.1) (map tested rest)) (e.1 parts.0 (omega (arith, small, bytes))) (entries_fit es parts.1 (omega (arith, small, bytes)))

fits_Obj : (es : List FittingEntry) → Fits («data».Obj (map (λ e. e.0) es))
fits_Obj es whole small =
    let all : List Entry = map (λ e. e.0) es in
    let parts = and_parts (are_property_names (map (λ (e : Entry). e.name) all)) (list_all entry_is_data all) (sym (data_of_entries all) ∙ whole) in
    let named : are_property_names (map (λ (t : Tested). t.0) (map tested all)) ≡ true = ap are_property_names (names_of_entries all) ∙ parts.0 in
    fits_of_entries all ∙ and_from (are_property_names (map (λ (t : Tested). t.0) (map tested all))) _ named (entries_fit es parts.1 (omega (arith, small, bytes_of_entries all)))

fits_Entry : (name : List ℕ) (d : Fitting) → EntryFits (record { name = name; value = d.0 })
fits_Entry name d whole small =
    let e : Entry = record { name = name; value = d.0 } in
    let parts = and_parts (all_scalars name) (is_data d.0) (sym (data_of_entry e) ∙ whole) in
    ap (λ (t : Tested). t.1) (fits_of_one e)
    ∙ and_from (text_fits name) (data_fits d.0) (short name parts.0 (omega (arith, small, bytes_of_one e))) (d.1 parts.1 (omega (arith, small, bytes_of_one e)))

by_layer : (y : Data-F Fitting FittingEntry) → Fits (roll-Data (map-Data Fitting FittingEntry Data Entry (λ d. d.0) (λ e. e.0) y))
unfolding roll-Data roll
by_layer Data-F.Undefined = λ whole small. fits_level Data-F.Undefined
by_layer Data-F.Null = λ whole small. fits_level Data-F.Null
by_layer (Data-F.Bool b) = λ whole small. fits_level (Data-F.Bool b)
by_layer (Data-F.Num n) = λ whole small. fits_of_number n ∙ sym (data_of_number n) ∙ whole
by_layer (Data-F.Text cs) = λ whole small. fits_of_text cs ∙ short cs (sym (data_of_text cs) ∙ whole) (omega (arith, small, bytes_of_text cs))
by_layer (Data-F.Arr ds) = λ whole small.
    let all : List Data = map (λ d. d.0) ds in fits_of_items all ∙ items_fit ds (sym (data_of_items all) ∙ whole) (omega (arith, small, bytes_of_items all))
by_layer (Data-F.Obj es) = fits_Obj es
by_layer (Data-F.Svc cs) = λ whole small. fits_of_service cs ∙ short cs (sym (data_of_service cs) ∙ whole) (omega (arith, small, bytes_of_service cs))

all_fit : (d : Data) → Fits d
all_fit = ind-Data Fits EntryFits (λ x y is. subst (λ z. Fits (roll-Data z)) is (by_layer y)) (λ x y is. subst (λ z. EntryFits (record { name = z.name; value = z.value })) is (fits_Entry y.name y.value))

known : List Data → List Fitting
known [] = []
known (d ∷ ds) = (d, all_fit d) ∷ known ds

known_data : (ds : List Data) → map (λ (d : Fitting). d.0) (known ds) ≡ ds
unfolding known
known_data [] = refl
known_data (d ∷ ds) = ap (λ es. d ∷ es) (known_data ds)

pub data_fit : (ds : List Data) → AreWithinLimits ds → list_all data_fits ds ≡ true
data_fit ds w =
    let is = known_data ds in
    subst (λ es. list_all data_fits es ≡ true) is
    (items_fit (known ds) (subst (λ es. list_all is_data es ≡ true) (sym is) w.data) (subst (λ es. sum (map bytes_of_data es) ≤ 2 ^ 20) (sym is) (omega (arith, w.bytes))))
