use Rattle.std.proofs.Common.{◌≡◌, ◌++◌, sym, ap, ◌∙◌, subst, IfOk}
use Rattle.std.specs.Prelude.{option_map}
use Rattle.mt_eval_meaning.specs.Free.{Used, enclosed, finding, joined, none}
use Rattle.mt_resolve_free.specs.Tildes.{names_at}
use Rattle.mt_resolve_free.proofs.Nodes.{in_if, in_for}
use Rattle.mt_syntax.specs.Fold.{on_expr, on_for_start, on_stmt, on_stmt_kind}
use Rattle.mt_syntax.specs.Gathering.{or_none}
use Rattle.mt_resolve_free.proofs.walk.+walk.Goals as goal

-- what an `if` uses, from its parts
if_parts : (a b c a' b' c' : Used) → a ≡ a' → b ≡ b' → c ≡ c' → enclosed (joined a (joined b c)) ≡ enclosed (joined a' (joined b' c'))
if_parts a b c a' b' c' p q r = λ i. enclosed (joined (p i) (joined (q i) (r i)))

pub statements::stmt_kind-returns-in_ok-rest-in-If : goal.statements::stmt_kind-returns-in_ok-rest-in-If
statements::stmt_kind-returns-in_ok-rest-in-If t c =
    let tilde = names_at c.args.tildes.now in
    let test : c.in_ok-test-in-If.test ≡ on_expr (finding tilde) c.in-If.a = c.in_ok-test-in-If.ensures in
    let body : c.in_ok-body-in-If.body ≡ on_stmt (finding tilde) c.in-If.then = c.in_ok-body-in-If.ensures ∙ ap (on_stmt (finding tilde)) c.get.ensures in
    let rest : c.in_ok-rest-in-If.rest ≡ or_none none joined (option_map (on_stmt (finding tilde)) c.in-If.other) = c.in_ok-rest-in-If.ensures in
    subst (λ used. IfOk c.of_if.result (λ u. u ≡ used))
    (if_parts _ _ _ _ _ _ test body rest ∙ sym (ap (on_stmt_kind (finding tilde)) c.in-If.is ∙ in_if tilde c.in-If.a c.in-If.then c.in-If.other)) c.of_if.ensures

-- what a `for` uses, from its parts
for_parts : (a b c d a' b' c' d' : Used) → a ≡ a' → b ≡ b' → c ≡ c' → d ≡ d'
    → enclosed (record (joined a (joined b (joined c d))) { variables = a.here ++ d.variables }) ≡ enclosed (record (joined a' (joined b' (joined c' d'))) { variables = a'.here ++ d'.variables })
for_parts a b c d a' b' c' d' p q r s = λ i. enclosed (record (joined (p i) (joined (q i) (joined (r i) (s i)))) { variables = (p i).here ++ (s i).variables })

pub statements::stmt_kind-returns-in_ok-body-in-For : goal.statements::stmt_kind-returns-in_ok-body-in-For
statements::stmt_kind-returns-in_ok-body-in-For t c =
    let tilde = names_at c.args.tildes.now in
    let start : c.in_ok-begin-in-For.begin ≡ on_for_start (finding tilde) c.in-For.a = c.in_ok-begin-in-For.ensures in
    let test : c.in_ok-test-in-For.test ≡ or_none none joined (option_map (on_expr (finding tilde)) c.in-For.b) = c.in_ok-test-in-For.ensures in
    let step : c.in_ok-step-in-For.step ≡ or_none none joined (option_map (on_expr (finding tilde)) c.in-For.c) = c.in_ok-step-in-For.ensures in
    let body : c.in_ok-body-in-For.body ≡ on_stmt (finding tilde) c.in-For.inner = c.in_ok-body-in-For.ensures ∙ ap (on_stmt (finding tilde)) c.get-in-For.ensures in
    subst (λ used. IfOk c.of_for.result (λ u. u ≡ used))
    (for_parts _ _ _ _ _ _ _ _ start test step body ∙ sym (ap (on_stmt_kind (finding tilde)) c.in-For.is ∙ in_for tilde c.in-For.a c.in-For.b c.in-For.c c.in-For.inner)) c.of_for.ensures
