-- What is told of the text of each part of code, where the part with short leaves is good.
use Rattle.std.proofs.Common.{◌≡◌, ℕ, Bool, true, false, List, [], ◌∷◌, ◌++◌, map, sym, ap, subst, ◌∙◌}
use Rattle.mt_syntax.specs.CodeText.{decl_code, expr_kind_code, for_start_code, function_code, prop_code, stmt_kind_code, writing_code}
use Rattle.mt_syntax.specs.Fold.{ExprKindLayer, ForStartLayer, StmtKindLayer, DeclLayer, ExprLayer, FunctionLayer, PropLayer, StmtLayer, Tree, same}
use Rattle.mt_syntax.specs.Shape.{Look, is_block, shaping}
use Rattle.mt_syntax.specs.Sort.{Sort}
use Rattle.mt_syntax.specs.Sort as sort
use Rattle.mt_syntax.specs.declared.tree.Decl.{roll-Decl}
use Rattle.mt_syntax.specs.declared.tree.Expr.{roll-Expr}
use Rattle.mt_syntax.specs.declared.tree.ExprKind.{roll-ExprKind}
use Rattle.mt_syntax.specs.declared.tree.ForStart.{roll-ForStart}
use Rattle.mt_syntax.specs.declared.tree.Function.{roll-Function}
use Rattle.mt_syntax.specs.declared.tree.Prop.{roll-Prop}
use Rattle.mt_syntax.specs.declared.tree.Stmt.{roll-Stmt}
use Rattle.mt_syntax.specs.declared.tree.StmtKind.{roll-StmtKind}
use Rattle.mt_syntax_laws.proofs.Layers.{map_decl, map_expr, map_expr_kind, map_for_start, map_function, map_prop, map_stmt, map_stmt_kind}
use Rattle.mt_syntax_laws.proofs.Related.{on, at_decl, at_expr, at_expr_kind, at_for_start, at_function, at_prop, at_stmt, at_stmt_kind}
use Rattle.mt_script_words.proofs.WordTexts.{ends_word}
use Rattle.mt_script_read.proofs.Shortened.{shortened, shortened_decl, shortened_expr_kind, shortened_function, shortened_prop, shortened_stmt_kind, shortening}
use Rattle.mt_script_read.proofs.Goodness.{AllGood, Good}
use Rattle.mt_script_read.proofs.Induction.{Held, tree}
use Rattle.mt_script_read.proofs.Leaves.{Leaves, leaves_of_kind, leaves_of_stmt_kind, leaving}
use Rattle.mt_script_read.proofs.Tokens.{EachSpelled, Spelled, moved}

-- of a statement, which may be the body of another
pub record StmtSpelled (text short : List ℕ) (leaves : Leaves) (look : Look) : Type 0 where
  pub spelled : Spelled true text short leaves
  pub block : is_block look ≡ true → (more : List ℕ) → ends_word (text ++ more) ≡ true

-- of a function, behind the word
pub record FunctionSpelled (text short : List ℕ) (leaves : Leaves) : Type 0 where
  pub spelled : Spelled true text short leaves
  pub ends : (more : List ℕ) → ends_word (text ++ more) ≡ true

-- the text of a part, its text with short leaves, and its leaves
abbrev pub SpelledAs : Bool → (s : Sort) → Tree s → Type 0
SpelledAs free s t = Spelled free (on writing_code s t) (on writing_code s (shortened s t)) (on leaving s t)

abbrev pub Spells : (s : Sort) → Tree s → Type 0
Spells sort.ExprKind t = Good sort.ExprKind (shortened sort.ExprKind t) → SpelledAs false sort.ExprKind t
Spells sort.ForStart t = Good sort.ForStart (shortened sort.ForStart t) → SpelledAs false sort.ForStart t
Spells sort.StmtKind t =
    Good sort.StmtKind (shortened sort.StmtKind t)
    → StmtSpelled (on writing_code sort.StmtKind t) (on writing_code sort.StmtKind (shortened sort.StmtKind t)) (on leaving sort.StmtKind t) (on shaping sort.StmtKind (shortened sort.StmtKind t)).look
Spells sort.Decl t = Good sort.Decl (shortened sort.Decl t) → SpelledAs false sort.Decl t
Spells sort.Expr t = Good sort.Expr (shortened sort.Expr t) → SpelledAs false sort.Expr t
Spells sort.Function t =
    Good sort.Function (shortened sort.Function t) → FunctionSpelled (on writing_code sort.Function t) (on writing_code sort.Function (shortened sort.Function t)) (on leaving sort.Function t)
Spells sort.Prop t = Good sort.Prop (shortened sort.Prop t) → SpelledAs false sort.Prop t
Spells sort.Stmt t =
    Good sort.Stmt (shortened sort.Stmt t)
    → StmtSpelled (on writing_code sort.Stmt t) (on writing_code sort.Stmt (shortened sort.Stmt t)) (on leaving sort.Stmt t) (on shaping sort.Stmt (shortened sort.Stmt t)).look
Spells _ t = Unit {0}

abbrev pub HeldSpells : Sort → Type 0
HeldSpells = Held Spells

abbrev pub its : (s : Sort) → HeldSpells s → Tree s
its = tree Spells

-- of the items of a list
pub each_of : {s : Sort} (free : Bool) (hs : List (HeldSpells s)) → ((h : HeldSpells s) → Good s (shortened s h.0) → SpelledAs free s h.0)
    → AllGood s (map (shortened s) (map (its s) hs)) → EachSpelled (on writing_code s) (shortened s) (on leaving s) free (map (its s) hs)
each_of free [] f g = tt
each_of free (h ∷ hs) f g = (f h g.0, each_of free hs f g.1)

-- ---- what is told of a node's layer is told of the node

-- the node with short leaves
abbrev pub shortened_kind_layer : ExprKindLayer Tree → ExprKindLayer Tree
shortened_kind_layer x = shortened_expr_kind Tree (map_expr_kind shortened x)

abbrev pub shortened_stmt_layer : StmtKindLayer Tree → StmtKindLayer Tree
shortened_stmt_layer x = shortened_stmt_kind Tree (map_stmt_kind shortened x)

abbrev pub KindSpelled : ExprKindLayer Tree → Type 0
KindSpelled x =
    Good sort.ExprKind (roll-ExprKind (shortened_kind_layer x))
    → Spelled false (expr_kind_code (map_expr_kind (on writing_code) x)) (expr_kind_code (map_expr_kind (on writing_code) (shortened_kind_layer x))) (leaves_of_kind (map_expr_kind (on leaving) x))

pub kind_rolled : (x : ExprKindLayer Tree) → KindSpelled x → Spells sort.ExprKind (roll-ExprKind x)
kind_rolled x h g =
    let e = at_expr_kind (shortening Tree same) x in
    moved (at_expr_kind writing_code x) (ap (on writing_code sort.ExprKind) e ∙ at_expr_kind writing_code (shortened_kind_layer x)) (at_expr_kind leaving x) (h (subst (Good sort.ExprKind) e g))

abbrev pub StartSpelled : ForStartLayer Tree → Type 0
StartSpelled x =
    Good sort.ForStart (roll-ForStart (map_for_start shortened x))
    → Spelled false (for_start_code (map_for_start (on writing_code) x)) (for_start_code (map_for_start (on writing_code) (map_for_start shortened x)))
    (leaving.for_start (map_for_start (on leaving) x))

pub start_rolled : (x : ForStartLayer Tree) → StartSpelled x → Spells sort.ForStart (roll-ForStart x)
start_rolled x h g =
    let e = at_for_start (shortening Tree same) x in
    moved (at_for_start writing_code x) (ap (on writing_code sort.ForStart) e ∙ at_for_start writing_code (map_for_start shortened x)) (at_for_start leaving x) (h (subst (Good sort.ForStart) e g))

abbrev pub StmtKindSpelled : StmtKindLayer Tree → Type 0
StmtKindSpelled x =
    Good sort.StmtKind (roll-StmtKind (shortened_stmt_layer x))
    → StmtSpelled (stmt_kind_code (map_stmt_kind (on writing_code) x)) (stmt_kind_code (map_stmt_kind (on writing_code) (shortened_stmt_layer x))) (leaves_of_stmt_kind (map_stmt_kind (on leaving) x))
    (shaping.stmt_kind (map_stmt_kind (on shaping) (shortened_stmt_layer x))).look

pub stmt_kind_rolled : (x : StmtKindLayer Tree) → StmtKindSpelled x → Spells sort.StmtKind (roll-StmtKind x)
stmt_kind_rolled x h g =
    let e = at_stmt_kind (shortening Tree same) x in
    let text = at_stmt_kind writing_code x in
    let p = h (subst (Good sort.StmtKind) e g) in
    record {
      spelled = moved text (ap (on writing_code sort.StmtKind) e ∙ at_stmt_kind writing_code (shortened_stmt_layer x)) (at_stmt_kind leaving x) p.spelled;
      block = λ is more.
          ap (λ s. ends_word (s ++ more)) text ∙ p.block (ap (λ q. is_block q.look) (sym (ap (on shaping sort.StmtKind) e ∙ at_stmt_kind shaping (shortened_stmt_layer x))) ∙ is) more;
    }

abbrev pub DeclSpelled : DeclLayer Tree → Type 0
DeclSpelled x =
    Good sort.Decl (roll-Decl (shortened_decl Tree (map_decl shortened x)))
    → Spelled false (decl_code (map_decl (on writing_code) x)) (decl_code (map_decl (on writing_code) (shortened_decl Tree (map_decl shortened x)))) (leaving.decl (map_decl (on leaving) x))

pub decl_rolled : (x : DeclLayer Tree) → DeclSpelled x → Spells sort.Decl (roll-Decl x)
decl_rolled x h g =
    let e = at_decl (shortening Tree same) x in
    moved (at_decl writing_code x) (ap (on writing_code sort.Decl) e ∙ at_decl writing_code (shortened_decl Tree (map_decl shortened x))) (at_decl leaving x) (h (subst (Good sort.Decl) e g))

abbrev pub ExprSpelled : ExprLayer Tree → Type 0
ExprSpelled x =
    Good sort.Expr (roll-Expr (map_expr shortened x))
    → Spelled false (writing_code.expr (map_expr (on writing_code) x)) (writing_code.expr (map_expr (on writing_code) (map_expr shortened x))) (leaving.expr (map_expr (on leaving) x))

pub expr_rolled : (x : ExprLayer Tree) → ExprSpelled x → Spells sort.Expr (roll-Expr x)
expr_rolled x h g =
    let e = at_expr (shortening Tree same) x in
    moved (at_expr writing_code x) (ap (on writing_code sort.Expr) e ∙ at_expr writing_code (map_expr shortened x)) (at_expr leaving x) (h (subst (Good sort.Expr) e g))

abbrev pub FunctionIsSpelled : FunctionLayer Tree → Type 0
FunctionIsSpelled x =
    Good sort.Function (roll-Function (shortened_function Tree (map_function shortened x)))
    → FunctionSpelled (function_code (map_function (on writing_code) x)) (function_code (map_function (on writing_code) (shortened_function Tree (map_function shortened x))))
    (leaving.function (map_function (on leaving) x))

pub function_rolled : (x : FunctionLayer Tree) → FunctionIsSpelled x → Spells sort.Function (roll-Function x)
function_rolled x h g =
    let e = at_function (shortening Tree same) x in
    let text = at_function writing_code x in
    let p = h (subst (Good sort.Function) e g) in
    record {
      spelled = moved text (ap (on writing_code sort.Function) e ∙ at_function writing_code (shortened_function Tree (map_function shortened x))) (at_function leaving x) p.spelled;
      ends = λ more. ap (λ s. ends_word (s ++ more)) text ∙ p.ends more;
    }

abbrev pub PropSpelled : PropLayer Tree → Type 0
PropSpelled x =
    Good sort.Prop (roll-Prop (shortened_prop Tree (map_prop shortened x)))
    → Spelled false (prop_code (map_prop (on writing_code) x)) (prop_code (map_prop (on writing_code) (shortened_prop Tree (map_prop shortened x)))) (leaving.prop (map_prop (on leaving) x))

pub prop_rolled : (x : PropLayer Tree) → PropSpelled x → Spells sort.Prop (roll-Prop x)
prop_rolled x h g =
    let e = at_prop (shortening Tree same) x in
    moved (at_prop writing_code x) (ap (on writing_code sort.Prop) e ∙ at_prop writing_code (shortened_prop Tree (map_prop shortened x))) (at_prop leaving x) (h (subst (Good sort.Prop) e g))

abbrev pub StmtIsSpelled : StmtLayer Tree → Type 0
StmtIsSpelled x =
    Good sort.Stmt (roll-Stmt (map_stmt shortened x))
    → StmtSpelled (writing_code.stmt (map_stmt (on writing_code) x)) (writing_code.stmt (map_stmt (on writing_code) (map_stmt shortened x))) (leaving.stmt (map_stmt (on leaving) x))
    (shaping.stmt (map_stmt (on shaping) (map_stmt shortened x))).look

pub stmt_rolled : (x : StmtLayer Tree) → StmtIsSpelled x → Spells sort.Stmt (roll-Stmt x)
stmt_rolled x h g =
    let e = at_stmt (shortening Tree same) x in
    let text = at_stmt writing_code x in
    let p = h (subst (Good sort.Stmt) e g) in
    record {
      spelled = moved text (ap (on writing_code sort.Stmt) e ∙ at_stmt writing_code (map_stmt shortened x)) (at_stmt leaving x) p.spelled;
      block = λ is more. ap (λ s. ends_word (s ++ more)) text ∙ p.block (ap (λ q. is_block q.look) (sym (ap (on shaping sort.Stmt) e ∙ at_stmt shaping (map_stmt shortened x))) ∙ is) more;
    }
