use Rattle.std.proofs.Common.{◌≡◌, ◌++◌, ◌∙◌, map, Option, None, Some, sym, ap}
use Rattle.std.specs.Prelude.{option_map}
use Rattle.mt_syntax.specs.First.{earlier_of, first_of}
use Rattle.mt_syntax.specs.Fold.{on_for_start, on_stmt_kind}
use Rattle.mt_syntax.specs.declared.tree.Expr.{Expr}
use Rattle.mt_syntax.specs.declared.tree.ForStart.{ForStart}
use Rattle.mt_syntax.specs.declared.tree.Mark.{Mark}
use Rattle.mt_syntax.specs.declared.tree.Stmt.{Stmt}
use Rattle.mt_syntax.specs.declared.tree.StmtKind as tree
use Rattle.mt_syntax.specs.declared.tree.StmtKind.TheVariants as statement
use Rattle.mt_syntax.specs.declared.tree.ExprKind.TheOpen.{StmtKind-F}
use Rattle.mt_syntax_laws.proofs.Related.{at_stmt_kind}
use Rattle.mt_stage_declared.specs.Declarations.{declarations, declared, declaring, optional_variables, variables_in}
use Rattle.mt_stage_declared.specs.Repeated.{where_holding}
use Rattle.mt_stage_declared.specs.declared.declaration.DeclarationKind.TheVariants as kind
use Rattle.mt_stage_declared.proofs.Holding.{first_both, variables_more, with_part}
use Rattle.mt_stage_declared.proofs.first.+variables.Goals as goal

in_if : (e : Expr) (s : Stmt) (other : Option Stmt) → (on_stmt_kind declaring (statement.If e s other)).variables ≡ (declared s).variables ++ optional_variables (λ d. d) (option_map declared other)
unfolding tree.roll-StmtKind denote.Hole.Carrier.roll
in_if e s None = ap (λ d. d.variables) (at_stmt_kind declaring (StmtKind-F.If e s None))
in_if e s (Some other) = ap (λ d. d.variables) (at_stmt_kind declaring (StmtKind-F.If e s (Some other)))

in_for : (a : ForStart) (b c : Option Expr) (s : Stmt) → (on_stmt_kind declaring (statement.For a b c s)).variables ≡ declarations kind.Nested (on_for_start declaring a).names ++ (declared s).variables
unfolding tree.roll-StmtKind denote.Hole.Carrier.roll
in_for a b c s = ap (λ d. d.variables) (at_stmt_kind declaring (StmtKind-F.For a b c s))

in_try : (s : Stmt) (name : Mark) (handler : Stmt) → (on_stmt_kind declaring (statement.Try s name handler)).variables ≡ (declared s).variables ++ (declared handler).variables
unfolding tree.roll-StmtKind denote.Hole.Carrier.roll
in_try s name handler = ap (λ d. d.variables) (at_stmt_kind declaring (StmtKind-F.Try s name handler))

pub in_row_variables-loop-item-preserved : goal.in_row_variables-loop-item-preserved
in_row_variables-loop-item-preserved g t c =
    c.earlier-found.ensures ∙ (λ i. earlier_of (c.loop-item.invariant i) (c.in_variables.ensures i))
    ∙ with_part (g.P.Predicate.holds c.args.predicate.now) (λ xs. variables_in (λ d. d) (map declared xs)) (λ x. (declared x).variables) (variables_more) c.items-item-items.result.now c.loop-item.item-index c.item-item.result c.loop-item-test.true c.item-item.is

pub in_variables_of_kind-returns-in-If : goal.in_variables_of_kind-returns-in-If
in_variables_of_kind-returns-in-If g t c =
    let holds = g.P.Predicate.holds c.args.predicate.now in
    let body = c.in_variables.ensures ∙ ap (λ s. first_of (where_holding holds (declared s).variables)) c.get.ensures in
    c.earlier.ensures ∙ (λ i. earlier_of (body i) (c.in_other_variables.ensures i))
    ∙ first_both holds (declared c.in-If.body).variables (optional_variables (λ d. d) (option_map declared c.in-If.other))
    ∙ ap (λ ds. first_of (where_holding holds ds)) (sym (ap (λ s. (on_stmt_kind declaring s).variables) c.in-If.is ∙ in_if c.in-If._test c.in-If.body c.in-If.other))

pub in_variables_of_kind-returns-in-For : goal.in_variables_of_kind-returns-in-For
in_variables_of_kind-returns-in-For g t c =
    let holds = g.P.Predicate.holds c.args.predicate.now in
    let body = c.in_variables-in-For.ensures ∙ ap (λ s. first_of (where_holding holds (declared s).variables)) c.get-in-For.ensures in
    c.earlier-in-For.ensures ∙ (λ i. earlier_of (c.in_start.ensures i) (body i))
    ∙ first_both holds (declarations kind.Nested (on_for_start declaring c.in-For.start).names) (declared c.in-For.body).variables
    ∙ ap (λ ds. first_of (where_holding holds ds)) (sym (ap (λ s. (on_stmt_kind declaring s).variables) c.in-For.is ∙ in_for c.in-For.start c.in-For._test c.in-For._step c.in-For.body))

pub in_variables_of_kind-returns-in-Try : goal.in_variables_of_kind-returns-in-Try
in_variables_of_kind-returns-in-Try g t c =
    let holds = g.P.Predicate.holds c.args.predicate.now in
    let body = c.in_variables-in-Try.ensures ∙ ap (λ s. first_of (where_holding holds (declared s).variables)) c.get-in-Try.ensures in
    let handler = c.in_variables-in-Try-2.ensures ∙ ap (λ s. first_of (where_holding holds (declared s).variables)) c.get-in-Try-2.ensures in
    c.earlier-in-Try.ensures ∙ (λ i. earlier_of (body i) (handler i)) ∙ first_both holds (declared c.in-Try.body).variables (declared c.in-Try.handler).variables
    ∙ ap (λ ds. first_of (where_holding holds ds)) (sym (ap (λ s. (on_stmt_kind declaring s).variables) c.in-Try.is ∙ in_try c.in-Try.body c.in-Try._name c.in-Try.handler))
