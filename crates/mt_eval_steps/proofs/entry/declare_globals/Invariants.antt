use Rattle.std.proofs.Common.{◌≡◌, length, map}
use Rattle.mt_eval_meaning.specs.References.{declare_global}
use Rattle.mt_eval_meaning.specs.Runs.{each}
use Rattle.mt_eval_steps.proofs.entry.declare_globals.Given as goal

abbrev pub invariant-loop-names : goal.invariant-loop-names
invariant-loop-names l = each (map declare_global l.fn.names) l.fn.state ≡ each (map declare_global l.names) l.state

abbrev pub decreases-loop-names : goal.decreases-loop-names
decreases-loop-names l = length l.names
