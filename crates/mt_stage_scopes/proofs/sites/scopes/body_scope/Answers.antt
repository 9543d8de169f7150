use Rattle.std.proofs.Common.{◌≡◌, ◌++◌, ap, subst, IfOk}
use Rattle.mt_stage_declared.specs.Declarations.{declarations}
use Rattle.mt_stage_declared.proofs.Declares.{same_here}
use Rattle.mt_stage_declared.specs.declared.declaration.DeclarationKind.TheVariants as kind
use Rattle.mt_stage_scopes.specs.Sites.{siting}
use Rattle.mt_stage_scopes.proofs.sites.scopes.body_scope.Goals as goal

pub returns : goal.returns
returns c =
    subst (λ ds. IfOk c.declared_in_body.result (λ scope. scope ≡ ds)) (ap (λ ds. declarations kind.Parameter c.args.parameters.now ++ ds) (same_here siting c.args.body.now))
    c.declared_in_body.ensures
