use Rattle.std.proofs.Common.{sym, subst, take, [], ◌∷◌, ◌++◌}
use Rattle.mt_stage_declared.specs.Scopes.{Tells}
use Rattle.mt_stage_declared.proofs.Rows.{take_next}
use Rattle.mt_stage_declared.proofs.Seen.{tells_more, tells_none}
use Rattle.mt_stage_declared.proofs.scope.table_of.Goals as goal

pub loop-declaration-init : goal.loop-declaration-init
loop-declaration-init c = subst (λ es. Tells es []) (sym c.new-table.ensures) tells_none

pub loop-declaration-preserved : goal.loop-declaration-preserved
loop-declaration-preserved c =
    let ds = c.args.declared.now in
    let next = take_next ds c.loop-declaration.declaration-index c.declaration-item.result c.loop-declaration-test.true c.declaration-item.is in
    subst (Tells c.add.new.self) (sym next)
    (subst (λ es. Tells es (take c.loop-declaration.declaration-index ds ++ c.declaration-item.result ∷ [])) (sym c.in_ok-add.ensures.ok)
    (tells_more c.loop-declaration.table (take c.loop-declaration.declaration-index ds) c.declaration-item.result c.loop-declaration.invariant))
