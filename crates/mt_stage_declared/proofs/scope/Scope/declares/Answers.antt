use Rattle.std.proofs.Common.{ap, ◌∙◌}
use Rattle.std.specs.List.{list_any}
use Rattle.mt_stage_declared.specs.Clashes.{all_kinds, has}
use Rattle.mt_stage_declared.specs.Names.{kinds_of}
use Rattle.mt_stage_declared.specs.Scopes.{declares}
use Rattle.mt_stage_declared.proofs.Seen.{declares_told}
use Rattle.mt_stage_declared.proofs.scope.Scope.declares.Goals as goal

pub returns : goal.returns
returns c =
    let name = c.args.name.now in
    c.any.ensures ∙ ap (λ ks. list_any (λ k. has k ks) all_kinds) (c.kinds.ensures ∙ ap (kinds_of name) c.as_ref.ensures)
    ∙ declares_told c.self.inside.table.value c.self.inside.declared name c.self.invariant ∙ ap (declares name) c.self.view_is
