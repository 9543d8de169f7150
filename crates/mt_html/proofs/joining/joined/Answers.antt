use Rattle.std.proofs.Common.{◌≡◌, ◌+◌, ◌++◌, List, IfOk, drop, sym, ap, ◌∙◌, subst}
use Rattle.std.proofs.lemmas.List.{drop_all}
use Rattle.std.specs.Str.{chars}
use Rattle.std.specs.String.{string_bytes}
use Rattle.mt_html.proofs.Before.{normal-cons, normal-nil}
use Rattle.mt_html.proofs.Characters.{no_characters}
use Rattle.mt_html.proofs.Turns.{left}
use Rattle.mt_html.proofs.joining.joined.Goals as goal
use Rattle.mt_html.specs.Normal.{normal, with_text}
use Rattle.mt_tree.specs.declared.closure.Closure.{Closure}
use Rattle.mt_tree.specs.declared.html.Html.{Html}

pub loop-child-init : goal.loop-child-init
loop-child-init c =
    let all = normal c.args.children.now in
    ap (λ (xs : List (Html Closure)). xs ++ with_text (chars (string_bytes c.new-run.result)) all) c.new-made.ensures.items
    ∙ ap (λ t. with_text t all) (ap chars c.new-run.ensures.bytes ∙ no_characters)

pub loop-child-preserved : goal.loop-child-preserved
loop-child-preserved c =
    let children = c.args.children.now in
    let i = c.loop-child.child-index in
    let child = c.child-item.result in
    let rest = drop (i + 1) children in
    c.in_ok-put.ensures (normal rest)
    ∙ ap (λ (xs : List (Html Closure)). c.loop-child.made.items ++ with_text (chars (string_bytes c.loop-child.run)) xs)
    (sym (ap (λ (xs : List (Html Closure)). normal xs) (left children i child c.child-item.is c.loop-child-test.true) ∙ normal-cons Closure child rest))
    ∙ c.loop-child.invariant

pub returns : goal.returns
returns c =
    let children = c.args.children.now in
    let i = c.loop-child.child-index in
    let none_left = ap (λ (xs : List (Html Closure)). normal xs) (drop_all i children c.loop-child-test.false) ∙ normal-nil Closure in
    subst
    (λ (xs : List (Html Closure)). IfOk c.from_vec.result (λ row. row ≡ xs))
    (c.in_ok-end_run.ensures.made
    ∙ ap (λ (xs : List (Html Closure)). c.loop-child.made.items ++ with_text (chars (string_bytes c.loop-child.run)) xs) (sym none_left)
    ∙ c.loop-child.invariant)
    c.from_vec.ensures
