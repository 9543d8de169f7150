use Rattle.std.proofs.Common.{◌≡◌}
use Rattle.std.specs.Option.{option_copied}
use Rattle.mt_eval_meaning.specs.Statements as statements
use Rattle.mt_eval_meaning.specs.Slots as spec
use Rattle.mt_eval_meaning.specs.Slots.{parts}
use Rattle.mt_statements.proofs.statements.Statements.turns.Given as goal

abbrev pub invariant-loop-ending : goal.invariant-loop-ending
invariant-loop-ending g l = statements.loop (spec.tested_by l.self.level.functions.now (parts l.self.level.functions.now g.H.Host.meaning l.self.level.calls l.self.level.depth) (option_copied l.test) l.activation) ((parts l.self.level.functions.now g.H.Host.meaning l.self.level.calls l.self.level.depth).stmt l.body l.activation) (spec.stepped_by l.self.level.functions.now (parts l.self.level.functions.now g.H.Host.meaning l.self.level.calls l.self.level.depth) (option_copied l.step) l.activation) (l.fn.state, l.fn.host) ≡ statements.loop (spec.tested_by l.self.level.functions.now (parts l.self.level.functions.now g.H.Host.meaning l.self.level.calls l.self.level.depth) (option_copied l.test) l.activation) ((parts l.self.level.functions.now g.H.Host.meaning l.self.level.calls l.self.level.depth).stmt l.body l.activation) (spec.stepped_by l.self.level.functions.now (parts l.self.level.functions.now g.H.Host.meaning l.self.level.calls l.self.level.depth) (option_copied l.step) l.activation) (l.state, l.host)

abbrev pub decreases-loop-ending : goal.decreases-loop-ending
decreases-loop-ending g l = l.state.budget
