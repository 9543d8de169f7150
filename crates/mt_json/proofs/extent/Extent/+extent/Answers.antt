use Rattle.mt_syntax.specs.DataLimits.{depth_of_data, nodes_of_data, bytes_of_data, depth_of_entry, nodes_of_entry, bytes_of_entry}
use Rattle.mt_json.proofs.Extents.{with_item}
use Rattle.mt_json.proofs.extent.Extent.+extent.Goals as goal

pub of_items-loop-item-preserved : goal.of_items-loop-item-preserved
of_items-loop-item-preserved t c = with_item depth_of_data nodes_of_data bytes_of_data c.args.items.now c.loop-item.item-index c.item-item.result c.loop-item.all c.of_datum.result _ c.item-item.is c.loop-item-test.true c.loop-item.invariant c.of_datum.ensures (record { depth = c.and-all.ensures.depth; nodes = c.and-all.ensures.nodes; bytes = c.and-all.ensures.bytes })

pub of_entries-loop-entry-preserved : goal.of_entries-loop-entry-preserved
of_entries-loop-entry-preserved t c = with_item depth_of_entry nodes_of_entry bytes_of_entry c.args.entries.now c.loop-entry.entry-index c.entry-item.result c.loop-entry.all c.of_entry.result _ c.entry-item.is c.loop-entry-test.true c.loop-entry.invariant c.of_entry.ensures (record { depth = c.and-all.ensures.depth; nodes = c.and-all.ensures.nodes; bytes = c.and-all.ensures.bytes })
