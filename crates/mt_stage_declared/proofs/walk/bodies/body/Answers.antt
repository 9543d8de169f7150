use Rattle.std.proofs.Common.{◌≡◌, ◌++◌, ap, subst, IfOk, None}
use Rattle.mt_syntax.specs.First.{earlier_of, first_of}
use Rattle.mt_stage_declared.specs.Declarations.{declarations}
use Rattle.mt_stage_declared.specs.Repeated.{repeated}
use Rattle.mt_stage_declared.specs.Twice.{counting}
use Rattle.mt_stage_declared.proofs.Declares.{same_here}
use Rattle.mt_stage_declared.specs.declared.declaration.DeclarationKind.TheVariants as kind
use Rattle.mt_stage_declared.proofs.walk.bodies.body.Goals as goal

pub returns : goal.returns
returns g c =
    subst (λ bs. IfOk c.in_scope.result (λ found. found ≡ first_of bs))
    (ap (λ ds. repeated (declarations kind.Parameter c.args.parameters.now ++ ds)) (same_here (counting None earlier_of first_of) c.args.items.now)) c.in_scope.ensures
