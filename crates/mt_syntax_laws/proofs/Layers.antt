-- Layers of a tree whose parts are mapped.
use Rattle.std.specs.Prelude.{◌≡◌, refl, List, [], ◌∷◌, map, Option, None, Some}
use Rattle.std.proofs.Common.{ap}
use Rattle.mt_syntax.specs.declared.tree.Mark.{Mark}
use Rattle.mt_syntax.specs.Sort.{Sort}
use Rattle.mt_syntax.specs.Sort as sort
use Rattle.mt_syntax.specs.Fold.{ExprKindLayer, ForStartLayer, MarkupChildLayer, MarkupValueLayer, StmtKindLayer, DeclLayer, ExprLayer, FunctionLayer, MarkupLayer, MarkupAttributeLayer, PropLayer, StmtLayer}
use Rattle.mt_syntax.specs.declared.tree.ExprKind.TheOpen.{ExprKind-F, ForStart-F, MarkupChild-F, MarkupValue-F, StmtKind-F}
use Rattle.mt_syntax.specs.declared.tree.ExprKind.TheFolds.{map-ExprKind, map-ForStart, map-MarkupChild, map-MarkupValue, map-StmtKind, map-Decl, map-Expr, map-Function, map-Markup, map-MarkupAttribute, map-Prop, map-Stmt}

module _ {A B : Sort → Type 0} (f : (s : Sort) → A s → B s) where
  abbrev pub map_expr_kind : ExprKindLayer A → ExprKindLayer B
  map_expr_kind = map-ExprKind (A sort.ExprKind) (A sort.ForStart) (A sort.MarkupChild) (A sort.MarkupValue) (A sort.StmtKind) (A sort.Decl) (A sort.Expr) (A sort.Function) (A sort.Markup) (A sort.MarkupAttribute) (A sort.Prop) (A sort.Stmt) (B sort.ExprKind) (B sort.ForStart) (B sort.MarkupChild) (B sort.MarkupValue) (B sort.StmtKind) (B sort.Decl) (B sort.Expr) (B sort.Function) (B sort.Markup) (B sort.MarkupAttribute) (B sort.Prop) (B sort.Stmt) (f sort.ExprKind) (f sort.ForStart) (f sort.MarkupChild) (f sort.MarkupValue) (f sort.StmtKind) (f sort.Decl) (f sort.Expr) (f sort.Function) (f sort.Markup) (f sort.MarkupAttribute) (f sort.Prop) (f sort.Stmt)

  abbrev pub map_for_start : ForStartLayer A → ForStartLayer B
  map_for_start = map-ForStart (A sort.ExprKind) (A sort.ForStart) (A sort.MarkupChild) (A sort.MarkupValue) (A sort.StmtKind) (A sort.Decl) (A sort.Expr) (A sort.Function) (A sort.Markup) (A sort.MarkupAttribute) (A sort.Prop) (A sort.Stmt) (B sort.ExprKind) (B sort.ForStart) (B sort.MarkupChild) (B sort.MarkupValue) (B sort.StmtKind) (B sort.Decl) (B sort.Expr) (B sort.Function) (B sort.Markup) (B sort.MarkupAttribute) (B sort.Prop) (B sort.Stmt) (f sort.ExprKind) (f sort.ForStart) (f sort.MarkupChild) (f sort.MarkupValue) (f sort.StmtKind) (f sort.Decl) (f sort.Expr) (f sort.Function) (f sort.Markup) (f sort.MarkupAttribute) (f sort.Prop) (f sort.Stmt)

  abbrev pub map_markup_child : MarkupChildLayer A → MarkupChildLayer B
  map_markup_child = map-MarkupChild (A sort.ExprKind) (A sort.ForStart) (A sort.MarkupChild) (A sort.MarkupValue) (A sort.StmtKind) (A sort.Decl) (A sort.Expr) (A sort.Function) (A sort.Markup) (A sort.MarkupAttribute) (A sort.Prop) (A sort.Stmt) (B sort.ExprKind) (B sort.ForStart) (B sort.MarkupChild) (B sort.MarkupValue) (B sort.StmtKind) (B sort.Decl) (B sort.Expr) (B sort.Function) (B sort.Markup) (B sort.MarkupAttribute) (B sort.Prop) (B sort.Stmt) (f sort.ExprKind) (f sort.ForStart) (f sort.MarkupChild) (f sort.MarkupValue) (f sort.StmtKind) (f sort.Decl) (f sort.Expr) (f sort.Function) (f sort.Markup) (f sort.MarkupAttribute) (f sort.Prop) (f sort.Stmt)

  abbrev pub map_markup_value : MarkupValueLayer A → MarkupValueLayer B
  map_markup_value = map-MarkupValue (A sort.ExprKind) (A sort.ForStart) (A sort.MarkupChild) (A sort.MarkupValue) (A sort.StmtKind) (A sort.Decl) (A sort.Expr) (A sort.Function) (A sort.Markup) (A sort.MarkupAttribute) (A sort.Prop) (A sort.Stmt) (B sort.ExprKind) (B sort.ForStart) (B sort.MarkupChild) (B sort.MarkupValue) (B sort.StmtKind) (B sort.Decl) (B sort.Expr) (B sort.Function) (B sort.Markup) (B sort.MarkupAttribute) (B sort.Prop) (B sort.Stmt) (f sort.ExprKind) (f sort.ForStart) (f sort.MarkupChild) (f sort.MarkupValue) (f sort.StmtKind) (f sort.Decl) (f sort.Expr) (f sort.Function) (f sort.Markup) (f sort.MarkupAttribute) (f sort.Prop) (f sort.Stmt)

  abbrev pub map_stmt_kind : StmtKindLayer A → StmtKindLayer B
  map_stmt_kind = map-StmtKind (A sort.ExprKind) (A sort.ForStart) (A sort.MarkupChild) (A sort.MarkupValue) (A sort.StmtKind) (A sort.Decl) (A sort.Expr) (A sort.Function) (A sort.Markup) (A sort.MarkupAttribute) (A sort.Prop) (A sort.Stmt) (B sort.ExprKind) (B sort.ForStart) (B sort.MarkupChild) (B sort.MarkupValue) (B sort.StmtKind) (B sort.Decl) (B sort.Expr) (B sort.Function) (B sort.Markup) (B sort.MarkupAttribute) (B sort.Prop) (B sort.Stmt) (f sort.ExprKind) (f sort.ForStart) (f sort.MarkupChild) (f sort.MarkupValue) (f sort.StmtKind) (f sort.Decl) (f sort.Expr) (f sort.Function) (f sort.Markup) (f sort.MarkupAttribute) (f sort.Prop) (f sort.Stmt)

  abbrev pub map_decl : DeclLayer A → DeclLayer B
  map_decl = map-Decl (A sort.ExprKind) (A sort.ForStart) (A sort.MarkupChild) (A sort.MarkupValue) (A sort.StmtKind) (A sort.Decl) (A sort.Expr) (A sort.Function) (A sort.Markup) (A sort.MarkupAttribute) (A sort.Prop) (A sort.Stmt) (B sort.ExprKind) (B sort.ForStart) (B sort.MarkupChild) (B sort.MarkupValue) (B sort.StmtKind) (B sort.Decl) (B sort.Expr) (B sort.Function) (B sort.Markup) (B sort.MarkupAttribute) (B sort.Prop) (B sort.Stmt) (f sort.ExprKind) (f sort.ForStart) (f sort.MarkupChild) (f sort.MarkupValue) (f sort.StmtKind) (f sort.Decl) (f sort.Expr) (f sort.Function) (f sort.Markup) (f sort.MarkupAttribute) (f sort.Prop) (f sort.Stmt)

  abbrev pub map_expr : ExprLayer A → ExprLayer B
  map_expr = map-Expr (A sort.ExprKind) (A sort.ForStart) (A sort.MarkupChild) (A sort.MarkupValue) (A sort.StmtKind) (A sort.Decl) (A sort.Expr) (A sort.Function) (A sort.Markup) (A sort.MarkupAttribute) (A sort.Prop) (A sort.Stmt) (B sort.ExprKind) (B sort.ForStart) (B sort.MarkupChild) (B sort.MarkupValue) (B sort.StmtKind) (B sort.Decl) (B sort.Expr) (B sort.Function) (B sort.Markup) (B sort.MarkupAttribute) (B sort.Prop) (B sort.Stmt) (f sort.ExprKind) (f sort.ForStart) (f sort.MarkupChild) (f sort.MarkupValue) (f sort.StmtKind) (f sort.Decl) (f sort.Expr) (f sort.Function) (f sort.Markup) (f sort.MarkupAttribute) (f sort.Prop) (f sort.Stmt)

  abbrev pub map_function : FunctionLayer A → FunctionLayer B
  map_function = map-Function (A sort.ExprKind) (A sort.ForStart) (A sort.MarkupChild) (A sort.MarkupValue) (A sort.StmtKind) (A sort.Decl) (A sort.Expr) (A sort.Function) (A sort.Markup) (A sort.MarkupAttribute) (A sort.Prop) (A sort.Stmt) (B sort.ExprKind) (B sort.ForStart) (B sort.MarkupChild) (B sort.MarkupValue) (B sort.StmtKind) (B sort.Decl) (B sort.Expr) (B sort.Function) (B sort.Markup) (B sort.MarkupAttribute) (B sort.Prop) (B sort.Stmt) (f sort.ExprKind) (f sort.ForStart) (f sort.MarkupChild) (f sort.MarkupValue) (f sort.StmtKind) (f sort.Decl) (f sort.Expr) (f sort.Function) (f sort.Markup) (f sort.MarkupAttribute) (f sort.Prop) (f sort.Stmt)

  abbrev pub map_markup : MarkupLayer A → MarkupLayer B
  map_markup = map-Markup (A sort.ExprKind) (A sort.ForStart) (A sort.MarkupChild) (A sort.MarkupValue) (A sort.StmtKind) (A sort.Decl) (A sort.Expr) (A sort.Function) (A sort.Markup) (A sort.MarkupAttribute) (A sort.Prop) (A sort.Stmt) (B sort.ExprKind) (B sort.ForStart) (B sort.MarkupChild) (B sort.MarkupValue) (B sort.StmtKind) (B sort.Decl) (B sort.Expr) (B sort.Function) (B sort.Markup) (B sort.MarkupAttribute) (B sort.Prop) (B sort.Stmt) (f sort.ExprKind) (f sort.ForStart) (f sort.MarkupChild) (f sort.MarkupValue) (f sort.StmtKind) (f sort.Decl) (f sort.Expr) (f sort.Function) (f sort.Markup) (f sort.MarkupAttribute) (f sort.Prop) (f sort.Stmt)

  abbrev pub map_markup_attribute : MarkupAttributeLayer A → MarkupAttributeLayer B
  map_markup_attribute = map-MarkupAttribute (A sort.ExprKind) (A sort.ForStart) (A sort.MarkupChild) (A sort.MarkupValue) (A sort.StmtKind) (A sort.Decl) (A sort.Expr) (A sort.Function) (A sort.Markup) (A sort.MarkupAttribute) (A sort.Prop) (A sort.Stmt) (B sort.ExprKind) (B sort.ForStart) (B sort.MarkupChild) (B sort.MarkupValue) (B sort.StmtKind) (B sort.Decl) (B sort.Expr) (B sort.Function) (B sort.Markup) (B sort.MarkupAttribute) (B sort.Prop) (B sort.Stmt) (f sort.ExprKind) (f sort.ForStart) (f sort.MarkupChild) (f sort.MarkupValue) (f sort.StmtKind) (f sort.Decl) (f sort.Expr) (f sort.Function) (f sort.Markup) (f sort.MarkupAttribute) (f sort.Prop) (f sort.Stmt)

  abbrev pub map_prop : PropLayer A → PropLayer B
  map_prop = map-Prop (A sort.ExprKind) (A sort.ForStart) (A sort.MarkupChild) (A sort.MarkupValue) (A sort.StmtKind) (A sort.Decl) (A sort.Expr) (A sort.Function) (A sort.Markup) (A sort.MarkupAttribute) (A sort.Prop) (A sort.Stmt) (B sort.ExprKind) (B sort.ForStart) (B sort.MarkupChild) (B sort.MarkupValue) (B sort.StmtKind) (B sort.Decl) (B sort.Expr) (B sort.Function) (B sort.Markup) (B sort.MarkupAttribute) (B sort.Prop) (B sort.Stmt) (f sort.ExprKind) (f sort.ForStart) (f sort.MarkupChild) (f sort.MarkupValue) (f sort.StmtKind) (f sort.Decl) (f sort.Expr) (f sort.Function) (f sort.Markup) (f sort.MarkupAttribute) (f sort.Prop) (f sort.Stmt)

  abbrev pub map_stmt : StmtLayer A → StmtLayer B
  map_stmt = map-Stmt (A sort.ExprKind) (A sort.ForStart) (A sort.MarkupChild) (A sort.MarkupValue) (A sort.StmtKind) (A sort.Decl) (A sort.Expr) (A sort.Function) (A sort.Markup) (A sort.MarkupAttribute) (A sort.Prop) (A sort.Stmt) (B sort.ExprKind) (B sort.ForStart) (B sort.MarkupChild) (B sort.MarkupValue) (B sort.StmtKind) (B sort.Decl) (B sort.Expr) (B sort.Function) (B sort.Markup) (B sort.MarkupAttribute) (B sort.Prop) (B sort.Stmt) (f sort.ExprKind) (f sort.ForStart) (f sort.MarkupChild) (f sort.MarkupValue) (f sort.StmtKind) (f sort.Decl) (f sort.Expr) (f sort.Function) (f sort.Markup) (f sort.MarkupAttribute) (f sort.Prop) (f sort.Stmt)

module _ {X Y Z : Type 0} (f : X → Y) (g : Y → Z) where
  pub map_twice : (xs : List X) → map g (map f xs) ≡ map (λ x. g (f x)) xs
  map_twice [] = refl
  map_twice (x ∷ xs) = ap (λ ys. g (f x) ∷ ys) (map_twice xs)

-- two maps, one after the other, are one
module _ {A B C : Sort → Type 0} (f : (s : Sort) → A s → B s) (g : (s : Sort) → B s → C s) where
  abbrev pub both : (s : Sort) → A s → C s
  both s a = g s (f s a)

  pub expr_kind_twice : (x : ExprKindLayer A) → map_expr_kind g (map_expr_kind f x) ≡ map_expr_kind both x
  expr_kind_twice (ExprKind-F.Arr items) = λ i. ExprKind-F.Arr (map_twice (f sort.Expr) (g sort.Expr) items i)
  expr_kind_twice (ExprKind-F.Obj props) = λ i. ExprKind-F.Obj (map_twice (f sort.Prop) (g sort.Prop) props i)
  expr_kind_twice (ExprKind-F.Call a arguments) = λ i. ExprKind-F.Call (both sort.Expr a) (map_twice (f sort.Expr) (g sort.Expr) arguments i)
  expr_kind_twice _ = refl

  pub for_start_twice : (x : ForStartLayer A) → map_for_start g (map_for_start f x) ≡ map_for_start both x
  for_start_twice (ForStart-F.ForStart::Var decls) = λ i. ForStart-F.ForStart::Var (map_twice (f sort.Decl) (g sort.Decl) decls i)
  for_start_twice _ = refl

  pub markup_child_twice : (x : MarkupChildLayer A) → map_markup_child g (map_markup_child f x) ≡ map_markup_child both x
  markup_child_twice (MarkupChild-F.Direct a) = refl
  markup_child_twice _ = refl

  pub markup_value_twice : (x : MarkupValueLayer A) → map_markup_value g (map_markup_value f x) ≡ map_markup_value both x
  markup_value_twice (MarkupValue-F.Quoted text) = refl
  markup_value_twice _ = refl

  pub stmt_kind_twice : (x : StmtKindLayer A) → map_stmt_kind g (map_stmt_kind f x) ≡ map_stmt_kind both x
  stmt_kind_twice (StmtKind-F.StmtKind::Var kind decls) = λ i. StmtKind-F.StmtKind::Var kind (map_twice (f sort.Decl) (g sort.Decl) decls i)
  stmt_kind_twice (StmtKind-F.If test body None) = refl
  stmt_kind_twice (StmtKind-F.If test body (Some other)) = refl
  stmt_kind_twice (StmtKind-F.For start None None body) = refl
  stmt_kind_twice (StmtKind-F.For start None (Some step) body) = refl
  stmt_kind_twice (StmtKind-F.For start (Some test) None body) = refl
  stmt_kind_twice (StmtKind-F.For start (Some test) (Some step) body) = refl
  stmt_kind_twice (StmtKind-F.Return None) = refl
  stmt_kind_twice (StmtKind-F.Return (Some value)) = refl
  stmt_kind_twice (StmtKind-F.Block items) = λ i. StmtKind-F.Block (map_twice (f sort.Stmt) (g sort.Stmt) items i)
  stmt_kind_twice _ = refl

  named : (name : Mark) (value : Option (A sort.Expr)) → map_decl g (map_decl f (record { name = name; value = value })) ≡ map_decl both (record { name = name; value = value })
  named name None = refl
  named name (Some value) = refl

  pub decl_twice : (x : DeclLayer A) → map_decl g (map_decl f x) ≡ map_decl both x
  decl_twice x = named x.name x.value

  pub expr_twice : (x : ExprLayer A) → map_expr g (map_expr f x) ≡ map_expr both x
  expr_twice x = refl

  pub function_twice : (x : FunctionLayer A) → map_function g (map_function f x) ≡ map_function both x
  function_twice x = λ i. record { name = x.name; parameters = x.parameters; body = map_twice (f sort.Stmt) (g sort.Stmt) x.body i }

  pub markup_twice : (x : MarkupLayer A) → map_markup g (map_markup f x) ≡ map_markup both x
  markup_twice x = λ i. record { tag = x.tag; attributes = map_twice (f sort.MarkupAttribute) (g sort.MarkupAttribute) x.attributes i; children = map_twice (f sort.MarkupChild) (g sort.MarkupChild) x.children i }

  pub markup_attribute_twice : (x : MarkupAttributeLayer A) → map_markup_attribute g (map_markup_attribute f x) ≡ map_markup_attribute both x
  markup_attribute_twice x = refl

  pub prop_twice : (x : PropLayer A) → map_prop g (map_prop f x) ≡ map_prop both x
  prop_twice x = refl

  pub stmt_twice : (x : StmtLayer A) → map_stmt g (map_stmt f x) ≡ map_stmt both x
  stmt_twice x = refl
