use Rattle.std.proofs.Common.{◌≡◌, length}
use Rattle.mt_eval_meaning.specs.Scopes.{with_names}
use Rattle.mt_eval_meaning.specs.Hoisting.{names_of}
use Rattle.mt_resolve_names.proofs.entry.Entry.bind_parameters.Given as goal

abbrev pub invariant-loop-left : goal.invariant-loop-left
invariant-loop-left l = (l.self.0 ≡ l.fn.self.0) × (with_names l.fn.self.0 (names_of l.left) l.self.1 ≡ with_names l.fn.self.0 (names_of l.marks) l.fn.self.1)

abbrev pub decreases-loop-left : goal.decreases-loop-left
decreases-loop-left l = length l.left
