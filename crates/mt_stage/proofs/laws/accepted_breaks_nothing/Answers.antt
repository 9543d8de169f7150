use Rattle.std.proofs.Common.{[], arith, subst}
use Rattle.std.specs.Prelude.{Contains}
use Rattle.mt_syntax.specs.declared.broken.Broken.{Broken}
use Rattle.mt_stage.proofs.laws.accepted_breaks_nothing.Goals as goal

nothing_in : (b : Broken) → ¬ Contains [] b
nothing_in b h = omega (arith, h.1)

pub returns : goal.returns
returns c = λ p r place accepted breaks.
    nothing_in (record { place = place; rule = r }) (subst (λ bs. Contains bs (record { place = place; rule = r })) accepted.unbroken breaks)
