-- How large one list of data may be. Depth counts from each of the list, nodes and bytes are those of the whole list, and a part
-- that is met twice counts twice.
use Rattle.std.specs.Prelude.{◌≡◌, ℕ, suc, ◌+◌, ◌≤◌, List, length, map, sum, true, encode_utf8_all}
use Rattle.std.specs.List.{list_all}
use Rattle.mt_tree.specs.declared.data.Data.{Data}
use Rattle.mt_tree.specs.declared.data.Entry.{Entry}
use Rattle.mt_tree.specs.declared.data.Data.TheOpen.{Data-F, Entry-F}
use Rattle.mt_tree.specs.declared.data.Data.TheFolds.{fold-Data, fold-Entry}
use Rattle.mt_syntax.specs.Data.{is_data}
use Rattle.mt_syntax.specs.Depth.{greatest}
use Rattle.mt_tree.specs.Limits.{data_depth_limit, data_node_limit, data_byte_limit}

abbrev pub entry_value_step : Entry-F ℕ ℕ → ℕ
entry_value_step e = e.value

-- ---- how deep arrays and objects nest

abbrev pub depth_step : Data-F ℕ ℕ → ℕ
depth_step (Data-F.Arr items) = suc (greatest items)
depth_step (Data-F.Obj entries) = suc (greatest entries)
depth_step _ = 0

abbrev pub depth_of_data : Data → ℕ
depth_of_data = fold-Data ℕ ℕ depth_step entry_value_step

abbrev pub depth_of_entry : Entry → ℕ
depth_of_entry = fold-Entry ℕ ℕ depth_step entry_value_step

-- ---- how many nodes there are

abbrev pub nodes_step : Data-F ℕ ℕ → ℕ
nodes_step (Data-F.Arr items) = suc (sum items)
nodes_step (Data-F.Obj entries) = suc (sum entries)
nodes_step _ = 1

abbrev pub nodes_of_data : Data → ℕ
nodes_of_data = fold-Data ℕ ℕ nodes_step entry_value_step

abbrev pub nodes_of_entry : Entry → ℕ
nodes_of_entry = fold-Entry ℕ ℕ nodes_step entry_value_step

-- ---- the bytes of the texts, the names of properties and the names of services

abbrev pub text_bytes : List ℕ → ℕ
text_bytes cs = length (encode_utf8_all cs)

abbrev pub bytes_step : Data-F ℕ ℕ → ℕ
bytes_step (Data-F.Text cs) = text_bytes cs
bytes_step (Data-F.Arr items) = sum items
bytes_step (Data-F.Obj entries) = sum entries
bytes_step (Data-F.Svc cs) = text_bytes cs
bytes_step _ = 0

abbrev pub entry_bytes_step : Entry-F ℕ ℕ → ℕ
entry_bytes_step e = text_bytes e.name + e.value

abbrev pub bytes_of_data : Data → ℕ
bytes_of_data = fold-Data ℕ ℕ bytes_step entry_bytes_step

abbrev pub bytes_of_entry : Entry → ℕ
bytes_of_entry = fold-Entry ℕ ℕ bytes_step entry_bytes_step

-- ---- the limits

pub record AreWithinLimits (ds : List Data) : Type 0 where
  pub «data» : list_all is_data ds ≡ true
  pub depth : greatest (map depth_of_data ds) ≤ data_depth_limit
  pub nodes : sum (map nodes_of_data ds) ≤ data_node_limit
  pub bytes : sum (map bytes_of_data ds) ≤ data_byte_limit
