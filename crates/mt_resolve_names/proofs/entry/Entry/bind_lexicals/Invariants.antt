use Rattle.std.proofs.Common.{◌≡◌, length}
use Rattle.mt_eval_meaning.specs.Scopes.{with_lexicals}
use Rattle.mt_eval_meaning.specs.Hoisting.{lexicals}
use Rattle.mt_resolve_names.proofs.entry.Entry.bind_lexicals.Given as goal

abbrev pub invariant-loop-left : goal.invariant-loop-left
invariant-loop-left l = (l.self.0 ≡ l.fn.self.0) × (with_lexicals l.fn.self.0 (lexicals l.left) l.self.1 ≡ with_lexicals l.fn.self.0 (lexicals l.items) l.fn.self.1)

abbrev pub decreases-loop-left : goal.decreases-loop-left
decreases-loop-left l = length l.left
