use Rattle.std.proofs.Common.{◌≡◌, take, map, sum}
use Rattle.mt_ops_methods.specs.Costs.{counted}
use Rattle.mt_syntax.specs.DataLimits.{nodes_of_data, nodes_of_entry}
use Rattle.mt_eval_steps.proofs.counts.+count.Given as goal

abbrev pub invariant-nodes_of_items-loop-item : goal.invariant-nodes_of_items-loop-item
invariant-nodes_of_items-loop-item l = l.count ≡ counted (sum (map nodes_of_data (take l.item-index l.items)))

abbrev pub invariant-nodes_of_entries-loop-entry : goal.invariant-nodes_of_entries-loop-entry
invariant-nodes_of_entries-loop-entry l = l.count ≡ counted (sum (map nodes_of_entry (take l.entry-index l.entries)))
