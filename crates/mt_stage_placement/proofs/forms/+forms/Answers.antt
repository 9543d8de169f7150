use Rattle.std.proofs.Common.{not, [], map, sym, ap, ◌∙◌}
use Rattle.mt_syntax.specs.First.{earlier_of}
use Rattle.mt_syntax.specs.Joining.{first}
use Rattle.mt_syntax.specs.Fold.{on_expr, on_prop, on_markup_attribute, on_markup_child, on_decl, on_for_start, on_markup, on_stmt, on_stmt_kind}
use Rattle.mt_syntax.specs.declared.tree.StmtKind as kind
use Rattle.mt_syntax.specs.declared.tree.Markup as element
use Rattle.mt_tree.specs.Tables.{is_tag}
use Rattle.mt_syntax.specs.declared.rule.Rule.TheVariants as rule
use Rattle.mt_stage_placement.specs.Forms.{below, broken_if, finding_forms, in_optional, names_of, repeated_behind}
use Rattle.mt_stage_placement.proofs.FormParts.{in_for, in_markup, with_next}
use Rattle.mt_stage_placement.proofs.forms.+forms.Goals as goal

pub expressions::exprs-loop-item-preserved : goal.expressions::exprs-loop-item-preserved
expressions::exprs-loop-item-preserved t c =
    rw (c.earlier-found.ensures, c.in_ok-expr.ensures) (with_next (on_expr (finding_forms first)) c.args.site c.items-item-items.result.now c.loop-item.item-index c.item-item.result c.loop-item.found c.item-item.is c.loop-item-test.true c.loop-item.invariant)

pub expressions::props-loop-item-preserved : goal.expressions::props-loop-item-preserved
expressions::props-loop-item-preserved t c =
    rw (c.earlier-found.ensures, c.in_ok-prop.ensures) (with_next (on_prop (finding_forms first)) c.args.site c.items-item-items.result.now c.loop-item.item-index c.item-item.result c.loop-item.found c.item-item.is c.loop-item-test.true c.loop-item.invariant)

pub markup::attributes-loop-item-preserved : goal.markup::attributes-loop-item-preserved
markup::attributes-loop-item-preserved t c =
    rw (c.earlier-found.ensures, c.in_ok-attribute.ensures) (with_next (on_markup_attribute (finding_forms first)) c.args.site c.items-item-items.result.now c.loop-item.item-index c.item-item.result c.loop-item.found c.item-item.is c.loop-item-test.true c.loop-item.invariant)

pub markup::children-loop-item-preserved : goal.markup::children-loop-item-preserved
markup::children-loop-item-preserved t c =
    rw (c.earlier-found.ensures, c.in_ok-child.ensures) (with_next (on_markup_child (finding_forms first)) c.args.site c.items-item-items.result.now c.loop-item.item-index c.item-item.result c.loop-item.found c.item-item.is c.loop-item-test.true c.loop-item.invariant)

pub statements::decls-loop-item-preserved : goal.statements::decls-loop-item-preserved
statements::decls-loop-item-preserved t c =
    rw (c.earlier-found.ensures, c.in_ok-decl.ensures) (with_next (on_decl (finding_forms first)) c.args.site c.items-item-items.result.now c.loop-item.item-index c.item-item.result c.loop-item.found c.item-item.is c.loop-item-test.true c.loop-item.invariant)

pub statements::stmts-loop-item-preserved : goal.statements::stmts-loop-item-preserved
statements::stmts-loop-item-preserved t c =
    rw (c.earlier-found.ensures, c.in_ok-stmt.ensures) (with_next (on_stmt (finding_forms first)) c.args.site c.items-item-items.result.now c.loop-item.item-index c.item-item.result c.loop-item.found c.item-item.is c.loop-item-test.true c.loop-item.invariant)

pub statements::stmt_kind-returns-in_ok-stmt-in-For : goal.statements::stmt_kind-returns-in_ok-stmt-in-For
unfolding kind.roll-StmtKind denote.Hole.Carrier.roll
statements::stmt_kind-returns-in_ok-stmt-in-For t c =
    let under = c.below-below.ensures in
    let body = c.in_ok-stmt-in-For.ensures ∙ ap (λ u. (on_stmt (finding_forms first) c.get-in-For.result.now).found u) under ∙ ap (λ s. (on_stmt (finding_forms first) s).found (below c.args.site)) c.get-in-For.ensures in
    let step = c.in_ok-step-in-For.ensures ∙ ap (in_optional first (on_expr (finding_forms first)) c.in-For.c) under in
    let test = c.in_ok-test-in-For.ensures ∙ ap (in_optional first (on_expr (finding_forms first)) c.in-For.b) under in
    let start = c.in_ok-first-in-For.ensures ∙ ap (on_for_start (finding_forms first) c.in-For.a).found under in
    let stepped = c.earlier-body.ensures ∙ (λ i. earlier_of (step i) (body i)) in
    let tested = c.earlier-in-For.ensures ∙ (λ i. earlier_of (test i) (stepped i)) in
    let whole = c.earlier-in-For-2.ensures ∙ (λ i. earlier_of (start i) (tested i)) in
    whole ∙ sym (in_for c.in-For.a c.in-For.b c.in-For.c c.in-For.s c.args.site) ∙ ap (λ k. (on_stmt_kind (finding_forms first) k).found c.args.site) (sym c.in-For.is)

pub markup::markup-returns : goal.markup::markup-returns
markup::markup-returns t c =
    let here = c.broken_if-here.ensures ∙ ap (λ b. broken_if first (not b) rule.S12 c.args.site.place) (c.tag_known.ensures ∙ ap is_tag c.as_bytes.ensures) in
    let again = c.in_ok-repeated.ensures ∙ ap (λ items. repeated_behind first [] (names_of first (map (on_markup_attribute (finding_forms first)) items))) c.items.ensures in
    let behind = c.earlier.ensures ∙ (λ i. earlier_of (again i) (c.in_ok-children.ensures i)) in
    let parts = c.earlier-parts.ensures ∙ (λ i. earlier_of (c.in_ok-attributes.ensures i) (behind i)) in
    c.earlier-2.ensures ∙ (λ i. earlier_of (here i) (parts i)) ∙ sym (in_markup (element.out-Markup c.args.from.now) c.args.site)
    ∙ ap (λ m. (on_markup (finding_forms first) m).found c.args.site) (element.roll-out-Markup c.args.from.now)
