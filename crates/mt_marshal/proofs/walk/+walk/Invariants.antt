use Rattle.std.proofs.Common.{◌≡◌, ◌+◌, ◌*◌, length, map, true}
use Rattle.std.specs.List.{list_all}
use Rattle.mt_marshal.specs.Characters.{entry_has_characters, has_characters}
use Rattle.mt_marshal.specs.Snapshot.{datum, entry}
use Rattle.mt_marshal.specs.Walks.{all, all_behind}
use Rattle.mt_marshal.proofs.walk.+walk.Given as goal

abbrev pub invariant-items-loop-items : goal.invariant-items-loop-items
invariant-items-loop-items l = record {
  meant : all (map (datum l.store l.levels l.fn.path.items) l.fn.items) l.fn.counts ≡ all_behind l.made.items (map (datum l.store l.levels l.fn.path.items) l.items) l.counts;
  same : l.path.items ≡ l.fn.path.items;
  characters : list_all has_characters l.made.items ≡ true;
}

abbrev pub decreases-items-loop-items : goal.decreases-items-loop-items
decreases-items-loop-items l = length l.items

abbrev pub invariant-entries-loop-properties : goal.invariant-entries-loop-properties
invariant-entries-loop-properties l = record {
  meant : all (map (entry (datum l.store l.levels l.fn.path.items)) l.fn.properties) l.fn.counts ≡ all_behind l.made.items (map (entry (datum l.store l.levels l.fn.path.items)) l.properties) l.counts;
  same : l.path.items ≡ l.fn.path.items;
  characters : list_all entry_has_characters l.made.items ≡ true;
}

abbrev pub decreases-entries-loop-properties : goal.decreases-entries-loop-properties
decreases-entries-loop-properties l = length l.properties

abbrev pub decreases-array : goal.decreases-array
decreases-array l = 4 * l.levels

abbrev pub decreases-object : goal.decreases-object
decreases-object l = 4 * l.levels

abbrev pub decreases-datum : goal.decreases-datum
decreases-datum l = 4 * l.levels + 1

abbrev pub decreases-entry : goal.decreases-entry
decreases-entry l = 4 * l.levels + 2

abbrev pub decreases-items : goal.decreases-items
decreases-items l = 4 * l.levels + 3

abbrev pub decreases-entries : goal.decreases-entries
decreases-entries l = 4 * l.levels + 3
