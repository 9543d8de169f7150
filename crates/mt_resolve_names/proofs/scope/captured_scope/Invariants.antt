use Rattle.std.proofs.Common.{◌≡◌, ◌++◌, length, map}
use Rattle.mt_eval_meaning.specs.Code.{captured_scope, lexical_of}
use Rattle.mt_resolve_names.proofs.scope.captured_scope.Given as goal

abbrev pub invariant-loop-left : goal.invariant-loop-left
invariant-loop-left l = l.scope.items ++ captured_scope l.place (map lexical_of l.left) ≡ captured_scope 0 (map lexical_of l.kept)

abbrev pub decreases-loop-left : goal.decreases-loop-left
decreases-loop-left l = length l.left
