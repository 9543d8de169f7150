use Rattle.std.proofs.Common.{◌≡◌, ap, filter, subst, IfOk}
use Rattle.mt_stage_declared.proofs.Declares.{same_here}
use Rattle.mt_stage_scopes.specs.Sites.{is_lexical, siting}
use Rattle.mt_stage_scopes.proofs.sites.scopes.block_scope.Goals as goal

pub returns : goal.returns
returns c =
    subst (λ ds. IfOk c.lexical_in.result (λ scope. scope ≡ ds)) (ap (filter is_lexical) (same_here siting c.args.items.now)) c.lexical_in.ensures
