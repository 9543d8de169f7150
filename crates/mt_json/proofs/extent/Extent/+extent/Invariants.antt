use Rattle.std.proofs.Common.{map, sum, take}
use Rattle.mt_syntax.specs.Depth.{greatest}
use Rattle.mt_syntax.specs.DataLimits.{depth_of_data, nodes_of_data, bytes_of_data, depth_of_entry, nodes_of_entry, bytes_of_entry}
use Rattle.mt_json.specs.Extent.{HasExtent}
use Rattle.mt_json.proofs.extent.Extent.+extent.Given as goal

abbrev pub invariant-of_entries-loop-entry : goal.invariant-of_entries-loop-entry
invariant-of_entries-loop-entry l = HasExtent l.all (greatest (map depth_of_entry (take l.entry-index l.entries))) (sum (map nodes_of_entry (take l.entry-index l.entries))) (sum (map bytes_of_entry (take l.entry-index l.entries)))

abbrev pub invariant-of_items-loop-item : goal.invariant-of_items-loop-item
invariant-of_items-loop-item l = HasExtent l.all (greatest (map depth_of_data (take l.item-index l.items))) (sum (map nodes_of_data (take l.item-index l.items))) (sum (map bytes_of_data (take l.item-index l.items)))
