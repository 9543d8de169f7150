-- The datum, and the list of arguments, whose text the bytes are.
use Rattle.std.specs.Prelude.{ℕ, ◌&&◌, nat_le, if◌then◌else◌, List, Bool, Option, Some, None, map, sum}
use Rattle.std.specs.List.{list_all}
use Rattle.std.specs.Str.{bytes_eq}
use Rattle.mt_tree.specs.Limits.{data_depth_limit, data_node_limit, data_byte_limit}
use Rattle.mt_tree.specs.declared.data.Data.{Data}
use Rattle.mt_syntax.specs.Data.{is_data}
use Rattle.mt_syntax.specs.DataLimits.{bytes_of_data, depth_of_data, nodes_of_data}
use Rattle.mt_syntax.specs.DataText.{arguments_text, data_text}
use Rattle.mt_syntax.specs.Depth.{greatest}
use Rattle.mt_json.specs.Reading.{◌>>=◌}
use Rattle.mt_json.specs.Tagged.{datum_in, list_in}

-- whether the datum is within the limits by itself
abbrev pub is_within : Data → Bool
is_within d = is_data d && (nat_le (depth_of_data d) data_depth_limit && (nat_le (nodes_of_data d) data_node_limit && nat_le (bytes_of_data d) data_byte_limit))

-- whether the data have few nodes and few bytes, together
abbrev pub are_few : List Data → Bool
are_few ds = nat_le (sum (map nodes_of_data ds)) data_node_limit && nat_le (sum (map bytes_of_data ds)) data_byte_limit

abbrev pub are_small : List Data → Bool
are_small ds = nat_le (greatest (map depth_of_data ds)) data_depth_limit && are_few ds

-- whether the data are within the limits of one list
abbrev pub are_within : List Data → Bool
are_within ds = list_all is_data ds && are_small ds

abbrev pub spelled_by : List ℕ → Data → Option Data
spelled_by bytes d = if is_within d && bytes_eq (data_text d) bytes then Some d else None

abbrev pub all_spelled_by : List ℕ → List Data → Option (List Data)
all_spelled_by bytes ds = if are_within ds && bytes_eq (arguments_text ds) bytes then Some ds else None

-- the datum within the limits whose text the bytes are
unfoldable pub data_at : List ℕ → Option Data
data_at bytes = datum_in bytes >>= spelled_by bytes

-- the list of data within the limits whose text the bytes are
unfoldable pub arguments_at : List ℕ → Option (List Data)
arguments_at bytes = list_in bytes >>= all_spelled_by bytes
