use Rattle.std.proofs.Common.{◌≡◌, ◌∷◌, ap, subst, IfOk, None}
use Rattle.mt_syntax.specs.First.{earlier_of, first_of}
use Rattle.mt_stage_declared.specs.Declarations.{declaration}
use Rattle.mt_stage_declared.specs.Repeated.{repeated}
use Rattle.mt_stage_declared.specs.Twice.{counting}
use Rattle.mt_stage_declared.proofs.Declares.{same_declared}
use Rattle.mt_stage_declared.specs.declared.declaration.DeclarationKind.TheVariants as kind
use Rattle.mt_stage_declared.proofs.walk.bodies.catch.Goals as goal

pub returns : goal.returns
returns g c =
    subst (λ bs. IfOk c.caught.result (λ found. found ≡ first_of bs))
    (ap (λ d. repeated (declaration kind.Catch c.args.name.now ∷ d.inside)) (same_declared (counting None earlier_of first_of) c.args.handler.now)) c.caught.ensures
