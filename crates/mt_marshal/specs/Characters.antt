-- Data whose texts, names of properties and names of services hold characters. No text of a program holds anything else.
use Rattle.std.specs.Prelude.{Bool, true, ◌&&◌}
use Rattle.std.specs.List.{list_all}
use Rattle.std.specs.Str.{all_scalars}
use Rattle.mt_tree.specs.declared.data.Data.{Data}
use Rattle.mt_tree.specs.declared.data.Data.TheFolds.{fold-Data, fold-Entry}
use Rattle.mt_tree.specs.declared.data.Data.TheOpen.{Data-F, Entry-F}
use Rattle.mt_tree.specs.declared.data.Entry.{Entry}

abbrev pub data_step : Data-F Bool Bool → Bool
data_step (Data-F.Text cs) = all_scalars cs
data_step (Data-F.Arr items) = list_all (λ b. b) items
data_step (Data-F.Obj entries) = list_all (λ b. b) entries
data_step (Data-F.Svc cs) = all_scalars cs
data_step _ = true

abbrev pub entry_step : Entry-F Bool Bool → Bool
entry_step e = all_scalars e.name && e.value

unfoldable pub has_characters : Data → Bool
has_characters = fold-Data Bool Bool data_step entry_step

unfoldable pub entry_has_characters : Entry → Bool
entry_has_characters = fold-Entry Bool Bool data_step entry_step
