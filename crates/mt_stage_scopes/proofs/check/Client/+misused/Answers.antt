use Rattle.std.proofs.Common.{◌≡◌, ℕ, zero, suc, ◌-◌, ◌<◌, List, ap, arith, subst, IfOk, ◌∙◌}
use Rattle.std.specs.Prelude.{slice_get}
use Rattle.mt_syntax.specs.First.{earlier_of, first_of}
use Rattle.mt_stage_declared.proofs.Rows.{first_next}
use Rattle.mt_stage_scopes.specs.Misused.{broken_at_client_site, broken_at_site, broken_in_body, broken_in_tilde}
use Rattle.mt_stage_scopes.specs.declared.around.Around.{Around}
use Rattle.mt_syntax.specs.declared.program.Tilde.{Tilde}
use Rattle.mt_stage_declared.specs.declared.declaration.Declaration.{Declaration}
use Rattle.mt_stage_scopes.proofs.check.Client.+misused.Goals as goal

pub at_sites-loop-site-preserved : goal.at_sites-loop-site-preserved
at_sites-loop-site-preserved t c =
    let globals = c.args.self.now.globals.now in
    c.earlier-found.ensures ∙ (λ i. earlier_of (c.loop-site.invariant i) (c.in_ok-at_site.ensures i))
    ∙ first_next c.args.list.now c.loop-site.site-index c.site-item.result c.loop-site-test.true c.site-item.is
    (broken_at_site globals (broken_in_tilde globals c.args.self.now.tildes.now c.args.levels))

pub at_client_sites-loop-site-preserved : goal.at_client_sites-loop-site-preserved
at_client_sites-loop-site-preserved t c =
    let globals = c.args.self.now.globals.now in
    c.earlier-found.ensures ∙ (λ i. earlier_of (c.loop-site.invariant i) (c.in_ok-at_client_site.ensures i))
    ∙ first_next c.args.list.now c.loop-site.site-index c.site-item.result c.loop-site-test.true c.site-item.is
    (broken_at_client_site globals (broken_in_tilde globals c.args.self.now.tildes.now c.args.levels) c.args.dollars.now)

deeper : (globals : List Declaration) (tildes : List Tilde) (n id : ℕ) (around : Around) → 0 < n
    → broken_in_body globals (broken_in_tilde globals tildes (n - 1)) (slice_get tildes id) around ≡ broken_in_tilde globals tildes n id around
deeper globals tildes zero id around h = absurd (omega arith)
deeper globals tildes (suc n) id around h =
    let one : suc n - 1 ≡ n = omega arith in
    ap (λ m. broken_in_body globals (broken_in_tilde globals tildes m) (slice_get tildes id) around) one

pub tilde-returns : goal.tilde-returns
tilde-returns t c =
    let globals = c.args.self.now.globals.now in
    let tildes = c.args.self.now.tildes.now in
    let around = c.args.around.now in
    let some : 0 < c.args.levels = omega (arith, c.if-levels-eq0.false) in
    subst (λ bs. IfOk c.body.result (λ found. found ≡ first_of bs))
    (ap (λ t. broken_in_body globals (broken_in_tilde globals tildes (c.args.levels - 1)) t around) c.item_at.ensures
    ∙ deeper globals tildes c.args.levels c.args.id around some)
    c.body.ensures
