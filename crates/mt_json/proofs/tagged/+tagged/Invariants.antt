use Rattle.std.proofs.Common.{◌≡◌, Some, take}
use Rattle.serde_json.specs.View.{items_view}
use Rattle.mt_json.specs.Tagged.{data_of, entries_of}
use Rattle.mt_json.proofs.tagged.+tagged.Given as goal

abbrev pub invariant-data-loop-value : goal.invariant-data-loop-value
invariant-data-loop-value l = data_of (items_view (take l.value-index l.values)) ≡ Some l.found.items

abbrev pub invariant-entries-loop-value : goal.invariant-entries-loop-value
invariant-entries-loop-value l = entries_of (items_view (take l.value-index l.values)) ≡ Some l.found.items
