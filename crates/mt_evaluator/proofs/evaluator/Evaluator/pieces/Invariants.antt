use Rattle.std.proofs.Common.{◌≡◌, length, map}
use Rattle.mt_eval_meaning.specs.Runs.{all, all_behind}
use Rattle.mt_eval_meaning.specs.Slots as spec
use Rattle.mt_eval_meaning.specs.Slots.{parts}
use Rattle.mt_evaluator.proofs.evaluator.Evaluator.pieces.Given as goal

abbrev pub invariant-loop-items : goal.invariant-loop-items
invariant-loop-items g l = all (map (λ c. spec.piece l.self.functions.now (parts l.self.functions.now g.H.Host.meaning l.self.calls l.self.depth) c l.activation) l.fn.items) (l.fn.state, l.fn.host) ≡ all_behind l.done (map (λ c. spec.piece l.self.functions.now (parts l.self.functions.now g.H.Host.meaning l.self.calls l.self.depth) c l.activation) l.items) (l.state, l.host)

abbrev pub decreases-loop-items : goal.decreases-loop-items
decreases-loop-items g l = length l.items
