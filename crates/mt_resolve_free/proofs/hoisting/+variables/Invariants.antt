use Rattle.std.proofs.Common.{◌≡◌, ◌++◌, take}
use Rattle.mt_eval_meaning.specs.Hoisting.{variables}
use Rattle.mt_resolve_free.proofs.hoisting.+variables.Given as goal

abbrev pub invariant-of_stmts-loop-item : goal.invariant-of_stmts-loop-item
invariant-of_stmts-loop-item l = l.into.items ≡ l.fn.into.items ++ variables (take l.item-index l.item-items)
