use Rattle.std.proofs.Common.{◌≡◌, take}
use Rattle.mt_eval_meaning.specs.Hoisting.{names_of}
use Rattle.mt_resolve_free.proofs.names.names_of.Given as goal

abbrev pub invariant-loop-mark : goal.invariant-loop-mark
invariant-loop-mark l = l.names.items ≡ names_of (take l.mark-index l.marks)
