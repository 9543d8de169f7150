-- Which trees are data of the language: numbers lie within 2^53 - 1 in size, the names of an object are distinct and none
-- spells a whole number, and texts hold characters.
use Rattle.std.specs.Prelude.{ℕ, suc, ◌^◌, ◌&&◌, ◌==◌, nat_le, nat_lt, not, ℤ, pos, negsuc, List, [], ◌∷◌, map, Bool, true, false}
use Rattle.std.specs.List.{list_all, list_any}
use Rattle.std.specs.Str.{all_scalars, bytes_eq}
use Rattle.mt_tree.specs.declared.data.Data.{Data}
use Rattle.mt_tree.specs.declared.data.Entry.{Entry}
use Rattle.mt_tree.specs.declared.data.Data.TheOpen.{Data-F, Entry-F}
use Rattle.mt_tree.specs.declared.data.Data.TheFolds.{fold-Data, fold-Entry}

abbrev pub is_in_range : ℤ → Bool
is_in_range (pos n) = nat_lt n (2 ^ 53)
is_in_range (negsuc n) = nat_lt (suc n) (2 ^ 53)

abbrev pub is_digit : ℕ → Bool
is_digit c = nat_le 48 c && nat_lt c 58

-- `0`, or a digit from 1 to 9 and further digits
abbrev pub spells_whole_number : List ℕ → Bool
spells_whole_number [] = false
spells_whole_number (c ∷ []) = is_digit c
spells_whole_number (c ∷ d ∷ cs) = is_digit c && not (c == 48) && list_all is_digit (d ∷ cs)

abbrev pub are_distinct : List (List ℕ) → Bool
are_distinct [] = true
are_distinct (n ∷ ns) = not (list_any (bytes_eq n) ns) && are_distinct ns

abbrev pub are_property_names : List (List ℕ) → Bool
are_property_names ns = are_distinct ns && not (list_any spells_whole_number ns)

-- of an entry: its name, and whether name and value are texts and data
abbrev pub Named : Type 0
Named = List ℕ × Bool

abbrev pub data_step : Data-F Bool Named → Bool
data_step (Data-F.Num n) = is_in_range n
data_step (Data-F.Text cs) = all_scalars cs
data_step (Data-F.Arr items) = list_all (λ b. b) items
data_step (Data-F.Obj entries) = are_property_names (map (λ e. e.0) entries) && list_all (λ e. e.1) entries
data_step (Data-F.Svc cs) = all_scalars cs
data_step _ = true

abbrev pub entry_step : Entry-F Bool Named → Named
entry_step e = (e.name, all_scalars e.name && e.value)

abbrev pub is_data : Data → Bool
is_data = fold-Data Bool Named data_step entry_step

-- an entry's name, and whether the entry may stand in data
abbrev pub named_entry : Entry → Named
named_entry = fold-Entry Bool Named data_step entry_step
