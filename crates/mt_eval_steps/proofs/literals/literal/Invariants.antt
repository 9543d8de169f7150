use Rattle.std.proofs.Common.{◌≡◌, length, Ok}
use Rattle.mt_eval_meaning.specs.Expressions.{literal, literal_behind}
use Rattle.mt_eval_steps.proofs.literals.literal.Given as goal

abbrev pub invariant-loop-entries : goal.invariant-loop-entries
invariant-loop-entries l = literal l.fn.entries ≡ literal_behind (Ok l.made) l.entries

abbrev pub decreases-loop-entries : goal.decreases-loop-entries
decreases-loop-entries l = length l.entries
