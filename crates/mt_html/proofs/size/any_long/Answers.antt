use Rattle.std.proofs.Common.{◌+◌, List, drop, sym, subst}
use Rattle.std.proofs.lemmas.List.{drop_all}
use Rattle.mt_html.proofs.Runs.{Run, run_first, run_long, run_next, run_over}
use Rattle.mt_html.proofs.Turns.{left}
use Rattle.mt_html.proofs.size.any_long.Goals as goal
use Rattle.mt_tree.specs.declared.closure.Closure.{Closure}
use Rattle.mt_tree.specs.declared.html.Html.{Html}

pub loop-child-init : goal.loop-child-init
loop-child-init c = run_first Closure c.args.children.now

pub loop-child-preserved : goal.loop-child-preserved
loop-child-preserved c =
    let children = c.args.children.now in
    let i = c.loop-child.child-index in
    let child = c.child-item.result in
    run_next Closure children (drop (i + 1) children) child c.loop-child.units c.run_units-units.result
    (subst (λ (xs : List (Html Closure)). Run children xs c.loop-child.units) (left children i child c.child-item.is c.loop-child-test.true) c.loop-child.invariant)
    c.run_units-units.ensures c.if-units-gt-TEXT_LIMIT.false

pub returns-then-units-gt-TEXT_LIMIT : goal.returns-then-units-gt-TEXT_LIMIT
returns-then-units-gt-TEXT_LIMIT c =
    let children = c.args.children.now in
    let i = c.loop-child.child-index in
    let child = c.child-item.result in
    sym (run_long Closure children (drop (i + 1) children) child c.loop-child.units c.run_units-units.result
    (subst (λ (xs : List (Html Closure)). Run children xs c.loop-child.units) (left children i child c.child-item.is c.loop-child-test.true) c.loop-child.invariant)
    c.run_units-units.ensures c.if-units-gt-TEXT_LIMIT.true)

pub returns : goal.returns
returns c =
    let children = c.args.children.now in
    let none_left = drop_all c.loop-child.child-index children c.loop-child-test.false in
    sym (run_over Closure children c.loop-child.units (subst (λ (xs : List (Html Closure)). Run children xs c.loop-child.units) none_left c.loop-child.invariant))
