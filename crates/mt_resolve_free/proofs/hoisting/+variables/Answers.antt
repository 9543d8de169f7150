use Rattle.std.proofs.Common.{◌≡◌, ◌++◌, [], sym, ap, ap₂, ◌∙◌, subst, append_assoc}
use Rattle.std.specs.Prelude.{OnOk, option_map}
use Rattle.mt_eval_meaning.specs.Hoisting.{Names, hoisting}
use Rattle.mt_resolve_free.proofs.Nodes.{variables_of_var, variables_of_if, variables_of_for, variables_of_try, variables_of_block}
use Rattle.mt_syntax.specs.Fold.{on_for_start, on_stmt, on_stmt_kind}
use Rattle.mt_syntax.specs.Gathering.{or_none}
use Rattle.mt_resolve_free.proofs.hoisting.+variables.Goals as goal

pub of_kind-returns-in-Var : goal.of_kind-returns-in-Var
of_kind-returns-in-Var t c =
    subst (λ names. OnOk c.of_word.result (c.of_word.new.into.items ≡ c.args.into.now.items ++ names))
    (sym (ap (on_stmt_kind hoisting) c.in-Var.is ∙ variables_of_var c.in-Var.word c.in-Var.items)) c.of_word.ensures

pub of_kind-returns-in_ok-of_stmt-in-If : goal.of_kind-returns-in_ok-of_stmt-in-If
of_kind-returns-in_ok-of_stmt-in-If t c =
    let start = c.args.into.now.items in
    let last : Names = or_none {X = Names} [] (λ xs ys. xs ++ ys) (option_map (on_stmt hoisting) c.in-If.other) in
    subst (λ names. OnOk c.of_branch.result (c.of_branch.new.into.items ≡ names))
    (ap (λ (names : Names). names ++ last) (c.in_ok-of_stmt-in-If.ensures ∙ ap (λ s. start ++ on_stmt hoisting s) c.get.ensures)
    ∙ append_assoc start (on_stmt hoisting c.in-If.body) last
    ∙ ap (λ (names : Names). start ++ names) (sym (ap (on_stmt_kind hoisting) c.in-If.is ∙ variables_of_if c.in-If._test c.in-If.body c.in-If.other)))
    c.of_branch.ensures

pub of_kind-returns-in_ok-of_start-in-For : goal.of_kind-returns-in_ok-of_start-in-For
of_kind-returns-in_ok-of_start-in-For t c =
    let start = c.args.into.now.items in
    subst (λ names. OnOk c.of_stmt-in-For.result (c.of_stmt-in-For.new.into.items ≡ names))
    (ap₂ (λ (xs ys : Names). xs ++ ys) c.in_ok-of_start-in-For.ensures (ap (on_stmt hoisting) c.get-in-For.ensures)
    ∙ append_assoc start (on_for_start hoisting c.in-For.first) (on_stmt hoisting c.in-For.body)
    ∙ ap (λ (names : Names). start ++ names) (sym (ap (on_stmt_kind hoisting) c.in-For.is ∙ variables_of_for c.in-For.first c.in-For._test c.in-For._step c.in-For.body)))
    c.of_stmt-in-For.ensures

pub of_kind-returns-in_ok-of_stmt-in-Try : goal.of_kind-returns-in_ok-of_stmt-in-Try
of_kind-returns-in_ok-of_stmt-in-Try t c =
    let start = c.args.into.now.items in
    subst (λ names. OnOk c.of_stmt-in-Try-2.result (c.of_stmt-in-Try-2.new.into.items ≡ names))
    (ap₂ (λ (xs ys : Names). xs ++ ys) (c.in_ok-of_stmt-in-Try.ensures ∙ ap (λ s. start ++ on_stmt hoisting s) c.get-in-Try.ensures) (ap (on_stmt hoisting) c.get-in-Try-2.ensures)
    ∙ append_assoc start (on_stmt hoisting c.in-Try.body) (on_stmt hoisting c.in-Try.handler)
    ∙ ap (λ (names : Names). start ++ names) (sym (ap (on_stmt_kind hoisting) c.in-Try.is ∙ variables_of_try c.in-Try.body c.in-Try._name c.in-Try.handler)))
    c.of_stmt-in-Try-2.ensures

pub of_kind-returns-in-Block : goal.of_kind-returns-in-Block
of_kind-returns-in-Block t c =
    subst (λ names. OnOk c.of_stmts.result (c.of_stmts.new.into.items ≡ c.args.into.now.items ++ names))
    (sym (ap (on_stmt_kind hoisting) c.in-Block.is ∙ variables_of_block c.in-Block.items)) c.of_stmts.ensures
