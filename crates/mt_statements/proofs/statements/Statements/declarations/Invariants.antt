use Rattle.std.proofs.Common.{◌≡◌, length}
use Rattle.mt_eval_meaning.specs.Slots as spec
use Rattle.mt_eval_meaning.specs.Slots.{parts}
use Rattle.mt_statements.proofs.statements.Statements.declarations.Given as goal

abbrev pub invariant-loop-decls : goal.invariant-loop-decls
invariant-loop-decls g l = spec.declarations l.self.level.functions.now (parts l.self.level.functions.now g.H.Host.meaning l.self.level.calls l.self.level.depth) l.kind l.fn.decls l.activation (l.fn.state, l.fn.host) ≡ spec.declarations l.self.level.functions.now (parts l.self.level.functions.now g.H.Host.meaning l.self.level.calls l.self.level.depth) l.kind l.decls l.activation (l.state, l.host)

abbrev pub decreases-loop-decls : goal.decreases-loop-decls
decreases-loop-decls g l = length l.decls
