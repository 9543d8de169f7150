use Rattle.std.proofs.Common.{ap, ◌∙◌, sym, subst, refl, take, [], ◌∷◌, ◌++◌}
use Rattle.mt_syntax.specs.First.{earlier_of, first_of}
use Rattle.mt_stage_declared.specs.Repeated.{repeated}
use Rattle.mt_stage_declared.specs.Scopes.{Tells}
use Rattle.mt_stage_declared.proofs.Rows.{take_next}
use Rattle.mt_stage_declared.proofs.Seen.{first_more, tells_more, tells_none}
use Rattle.mt_stage_declared.proofs.search.by_table.first_repeated.Goals as goal

pub loop-declaration-init : goal.loop-declaration-init
loop-declaration-init c = record { first = refl; table = subst (λ es. Tells es []) (sym c.new-table.ensures) tells_none }

pub loop-declaration-preserved : goal.loop-declaration-preserved
loop-declaration-preserved c =
    let ds = c.args.declared.now in
    let next = take_next ds c.loop-declaration.declaration-index c.declaration-item.result c.loop-declaration-test.true c.declaration-item.is in
    let table = c.loop-declaration.invariant.table in
    record {
      first = c.earlier-found.ensures ∙ (λ i. earlier_of (c.loop-declaration.invariant.first i) (c.clash_at.ensures i))
          ∙ first_more c.loop-declaration.table (take c.loop-declaration.declaration-index ds) c.declaration-item.result table ∙ ap (λ es. first_of (repeated es)) (sym next);
      table = subst (Tells c.add.new.self) (sym next)
          (subst (λ es. Tells es (take c.loop-declaration.declaration-index ds ++ c.declaration-item.result ∷ [])) (sym c.in_ok-add.ensures.ok) (tells_more c.loop-declaration.table (take c.loop-declaration.declaration-index ds) c.declaration-item.result table));
    }
