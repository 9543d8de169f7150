use Rattle.std.proofs.Common.{◌≡◌, length}
use Rattle.mt_eval_meaning.specs.Scopes.{with_names_once}
use Rattle.mt_resolve_names.proofs.entry.Entry.bind_names_once.Given as goal

abbrev pub invariant-loop-left : goal.invariant-loop-left
invariant-loop-left l = (l.self.0 ≡ l.fn.self.0) × (with_names_once l.fn.self.0 l.left l.self.1 ≡ with_names_once l.fn.self.0 l.names l.fn.self.1)

abbrev pub decreases-loop-left : goal.decreases-loop-left
decreases-loop-left l = length l.left
