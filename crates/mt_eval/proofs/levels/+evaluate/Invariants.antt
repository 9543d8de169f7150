use Rattle.std.proofs.Common.{◌+◌, ◌*◌}
use Rattle.mt_eval.proofs.levels.+evaluate.Given as goal

abbrev pub decreases-expr_to : goal.decreases-expr_to
decreases-expr_to g l = l.calls * 64 + l.depth

abbrev pub decreases-stmt_to : goal.decreases-stmt_to
decreases-stmt_to g l = l.calls * 64 + l.depth
