-- Expressions on slots go on to stand for those of the syntax where further functions get numbers.
use Rattle.std.proofs.Common.{ℕ, zero, suc, List, [], ◌∷◌, Option, None, Some}
use Rattle.std.specs.Prelude.{slice_get}
use Rattle.mt_eval_meaning.specs.Code.{AllStand, AttributeStands, EntryStands, ExprStands, ExprStandsTo, FunctionStands, OptionalStands, PieceStandsForChild, PieceStandsForValue}
use Rattle.mt_eval_meaning.specs.Scopes.{Scope}
use Rattle.mt_eval_meaning.specs.States.{Numbered}
use Rattle.mt_eval_meaning.specs.Evaluation.{dollars_of, expr_kind_of, own_name}
use Rattle.mt_eval_meaning.specs.Names.{Surroundings}
use Rattle.mt_resolve.specs.Resolved.{Extends}
use Rattle.mt_eval_meaning.specs.Slots.{ExprLayer, PieceLayer}
use Rattle.mt_eval_meaning.specs.declared.expr.Attribute.{Attribute, out-Attribute}
use Rattle.mt_eval_meaning.specs.declared.expr.Entry.{Entry, out-Entry}
use Rattle.mt_eval_meaning.specs.declared.expr.Expr as code
use Rattle.mt_eval_meaning.specs.declared.expr.Expr.TheOpen.{Expr-F, Piece-F}
use Rattle.mt_eval_meaning.specs.declared.expr.Piece.{Piece, out-Piece}
use Rattle.mt_eval_meaning.specs.declared.function.Function.{Function as Code}
use Rattle.mt_syntax.specs.Fold.{Tree, ExprKindLayer, MarkupChildLayer, MarkupValueLayer}
use Rattle.mt_syntax.specs.declared.tree.Expr.{Expr}
use Rattle.mt_syntax.specs.declared.tree.ExprKind.TheOpen.{ExprKind-F, MarkupChild-F, MarkupValue-F}
use Rattle.mt_syntax.specs.declared.tree.Function.{Function, out-Function}
use Rattle.mt_syntax.specs.declared.tree.Markup.{out-Markup}
use Rattle.mt_syntax.specs.declared.tree.MarkupAttribute.{MarkupAttribute, out-MarkupAttribute}
use Rattle.mt_syntax.specs.declared.tree.MarkupChild.{MarkupChild, out-MarkupChild}
use Rattle.mt_syntax.specs.declared.tree.MarkupValue.{out-MarkupValue}
use Rattle.mt_syntax.specs.declared.tree.Prop.{Prop, out-Prop}

pub all_stay : {A B : Type 0} (P Q : A → B → Type 0) → ((x : A) (y : B) → P x y → Q x y) → (xs : List A) (ys : List B) → AllStand P xs ys → AllStand Q xs ys
all_stay P Q f [] [] h = tt
all_stay P Q f (x ∷ xs) (y ∷ ys) h = (f x y h.0, all_stay P Q f xs ys h.1)
all_stay P Q f [] (y ∷ ys) h = absurd h
all_stay P Q f (x ∷ xs) [] h = absurd h

pub optional_stays : {A B : Type 0} (P Q : A → B → Type 0) → ((x : A) (y : B) → P x y → Q x y) → (x : Option A) (y : Option B) → OptionalStands P x y → OptionalStands Q x y
optional_stays P Q f None None h = tt
optional_stays P Q f (Some x) (Some y) h = f x y h
optional_stays P Q f None (Some y) h = absurd h
optional_stays P Q f (Some x) None h = absurd h

module _ (around : Surroundings) (units units' : List Code) (table table' : List Numbered) (more : Extends units table units' table') where
  pub function_stays : (scope : Scope) (n : ℕ) (own : Option (List ℕ)) (f : Function) → FunctionStands around units table scope n own f → FunctionStands around units' table' scope n own f
  function_stays scope n own f h = record { code = h.code; is = more.code n h.code h.is; entry = more.entry n _ h.entry; captures = h.captures }

  module _ (k : ℕ) (scope : Scope) (below : (u : code.Expr) (e : Expr) → ExprStandsTo around units table k scope u e → ExprStandsTo around units' table' k scope u e) where
    exprs : (us : List code.Expr) (es : List Expr) → AllStand (ExprStandsTo around units table k scope) us es → AllStand (ExprStandsTo around units' table' k scope) us es
    exprs = all_stay (ExprStandsTo around units table k scope) (ExprStandsTo around units' table' k scope) below

    entries : (us : List Entry) (qs : List Prop) → AllStand (EntryStands around units table (ExprStandsTo around units table k) scope) us qs → AllStand (EntryStands around units' table' (ExprStandsTo around units' table' k) scope) us qs
    entries = all_stay (EntryStands around units table (ExprStandsTo around units table k) scope) (EntryStands around units' table' (ExprStandsTo around units' table' k) scope) (λ u q h. (h.0, below (out-Entry u).value (out-Prop q).value h.1))

    value_at : (x : PieceLayer) (y : MarkupValueLayer Tree) → PieceStandsForValue around units table (ExprStandsTo around units table k) scope x y → PieceStandsForValue around units' table' (ExprStandsTo around units' table' k) scope x y
    value_at (Piece-F.Piece::Text text) (MarkupValue-F.Quoted quoted) h = h
    value_at (Piece-F.Expr u) (MarkupValue-F.MarkupValue::Tilde e) h = below u e h
    value_at (Piece-F.Expr u) (MarkupValue-F.MarkupValue::Dollar e) h = below u e h
    value_at _ _ h = absurd h

    child_at : (x : PieceLayer) (y : MarkupChildLayer Tree) → PieceStandsForChild around units table (ExprStandsTo around units table k) scope x y → PieceStandsForChild around units' table' (ExprStandsTo around units' table' k) scope x y
    child_at (Piece-F.Piece::Text text) (MarkupChild-F.MarkupChild::Text other) h = h
    child_at (Piece-F.Expr u) (MarkupChild-F.Direct e) h = below u e h
    child_at (Piece-F.Expr u) (MarkupChild-F.MarkupChild::Dollar e) h = below u e h
    child_at _ _ h = absurd h

    attributes : (us : List Attribute) (bs : List MarkupAttribute) → AllStand (AttributeStands around units table (ExprStandsTo around units table k) scope) us bs → AllStand (AttributeStands around units' table' (ExprStandsTo around units' table' k) scope) us bs
    attributes = all_stay (AttributeStands around units table (ExprStandsTo around units table k) scope) (AttributeStands around units' table' (ExprStandsTo around units' table' k) scope) (λ u b h.
        (h.0, value_at (out-Piece (out-Attribute u).value) (out-MarkupValue (out-MarkupAttribute b).value) h.1))

    children : (us : List Piece) (cs : List MarkupChild) → AllStand (λ a b. PieceStandsForChild around units table (ExprStandsTo around units table k) scope (out-Piece a) (out-MarkupChild b)) us cs
        → AllStand (λ a b. PieceStandsForChild around units' table' (ExprStandsTo around units' table' k) scope (out-Piece a) (out-MarkupChild b)) us cs
    children = all_stay (λ a b. PieceStandsForChild around units table (ExprStandsTo around units table k) scope (out-Piece a) (out-MarkupChild b)) (λ a b. PieceStandsForChild around units' table' (ExprStandsTo around units' table' k) scope (out-Piece a) (out-MarkupChild b)) (λ u c h.
        child_at (out-Piece u) (out-MarkupChild c) h)

    case_expr : (x : ExprLayer) (y : ExprKindLayer Tree) → ExprStands around units table (ExprStandsTo around units table k) scope x y → ExprStands around units' table' (ExprStandsTo around units' table' k) scope x y
    case_expr (Expr-F.Name n) (ExprKind-F.Name text) h = h
    case_expr (Expr-F.Num n) (ExprKind-F.Num m) h = h
    case_expr (Expr-F.Expr::Text text) (ExprKind-F.ExprKind::Text other) h = h
    case_expr (Expr-F.Bool b) (ExprKind-F.Bool c) h = h
    case_expr Expr-F.Null ExprKind-F.Null h = tt
    case_expr Expr-F.Undefined ExprKind-F.Undefined h = tt
    case_expr Expr-F.Undefined (ExprKind-F.ExprKind::Dollar at) h = tt
    case_expr Expr-F.Undefined (ExprKind-F.Stray a) h = tt
    case_expr (Expr-F.Arr us) (ExprKind-F.Arr es) h = exprs us es h
    case_expr (Expr-F.Obj us) (ExprKind-F.Obj qs) h = entries us qs h
    case_expr (Expr-F.Fun n) (ExprKind-F.Fun f) h = function_stays scope n (own_name (out-Function f).name) f h
    case_expr (Expr-F.Unary op u) (ExprKind-F.Unary other e) h = (h.0, below u e h.1)
    case_expr (Expr-F.Step kind u) (ExprKind-F.Step other e) h = (h.0, below u e h.1)
    case_expr (Expr-F.Binary op u v) (ExprKind-F.Binary other e f) h = (h.0, below u e h.1, below v f h.2)
    case_expr (Expr-F.And u v) (ExprKind-F.And e f) h = (below u e h.0, below v f h.1)
    case_expr (Expr-F.Or u v) (ExprKind-F.Or e f) h = (below u e h.0, below v f h.1)
    case_expr (Expr-F.Cond u v w) (ExprKind-F.Cond e f g) h = (below u e h.0, below v f h.1, below w g h.2)
    case_expr (Expr-F.Assign op u v) (ExprKind-F.Assign other e f) h = (h.0, below u e h.1, below v f h.2)
    case_expr (Expr-F.Index u v) (ExprKind-F.Index e f) h = (below u e h.0, below v f h.1)
    case_expr (Expr-F.Call u us) (ExprKind-F.Call e es) h = (below u e h.0, exprs us es h.1)
    case_expr (Expr-F.Tilde id us) (ExprKind-F.ExprKind::Tilde other) h = (h.0, exprs us (dollars_of (slice_get around.tildes id)) h.1)
    case_expr (Expr-F.Element tag us cs) (ExprKind-F.Markup m) h = (h.0, attributes us (out-Markup m).attributes h.1, children cs (out-Markup m).children h.2)
    case_expr (Expr-F.Val d) (ExprKind-F.Val other) h = h
    case_expr _ _ h = absurd h

  pub expr_stays : (k : ℕ) (scope : Scope) (u : code.Expr) (e : Expr) → ExprStandsTo around units table k scope u e → ExprStandsTo around units' table' k scope u e
  expr_stays zero scope u e h = absurd h
  expr_stays (suc k) scope u e h = case_expr k scope (expr_stays k scope) (code.out-Expr u) (expr_kind_of e) h
