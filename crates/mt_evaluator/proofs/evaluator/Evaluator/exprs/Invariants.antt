use Rattle.std.proofs.Common.{◌≡◌, length}
use Rattle.mt_eval_meaning.specs.Runs.{all, all_behind}
use Rattle.mt_eval_meaning.specs.Slots as spec
use Rattle.mt_eval_meaning.specs.Slots.{parts}
use Rattle.mt_evaluator.proofs.evaluator.Evaluator.exprs.Given as goal

abbrev pub invariant-loop-items : goal.invariant-loop-items
invariant-loop-items g l = all (spec.exprs l.self.functions.now (parts l.self.functions.now g.H.Host.meaning l.self.calls l.self.depth) l.fn.items l.activation) (l.fn.state, l.fn.host) ≡ all_behind l.done (spec.exprs l.self.functions.now (parts l.self.functions.now g.H.Host.meaning l.self.calls l.self.depth) l.items l.activation) (l.state, l.host)

abbrev pub decreases-loop-items : goal.decreases-loop-items
decreases-loop-items g l = length l.items
