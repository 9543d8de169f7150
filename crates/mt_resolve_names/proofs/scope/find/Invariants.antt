use Rattle.std.proofs.Common.{◌≡◌, length}
use Rattle.mt_eval_meaning.specs.Scopes.{find_slot}
use Rattle.mt_resolve_names.proofs.scope.find.Given as goal

abbrev pub invariant-loop-left : goal.invariant-loop-left
invariant-loop-left l = find_slot l.name l.left ≡ find_slot l.name l.scope

abbrev pub decreases-loop-left : goal.decreases-loop-left
decreases-loop-left l = length l.left
