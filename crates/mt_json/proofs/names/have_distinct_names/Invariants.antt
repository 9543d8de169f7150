use Rattle.std.proofs.Common.{◌≡◌, map, take}
use Rattle.mt_syntax.specs.Data.{are_distinct}
use Rattle.mt_json.specs.Names.{name_of}
use Rattle.mt_json.proofs.Distinct.{Holds}
use Rattle.mt_json.proofs.names.have_distinct_names.Given as goal

abbrev pub invariant-loop-entry : goal.invariant-loop-entry
invariant-loop-entry l = (l.distinct ≡ are_distinct (map name_of (take l.entry-index l.entries))) × Holds l.names.keys (map name_of (take l.entry-index l.entries))
