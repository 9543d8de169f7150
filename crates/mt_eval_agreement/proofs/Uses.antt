-- The names that are used in a tree, by the node at its top, and what a body declares.
use Rattle.std.proofs.Common.{◌≡◌, ℕ, List, [], ◌∷◌, ◌++◌, map, Bool, true, false, Option, None, Some, refl, sym, ap, ap₂, ◌∙◌}
use Rattle.std.specs.Prelude.{flat_map}
use Rattle.std.proofs.lemmas.List.{map-append}
use Rattle.mt_eval_meaning.specs.Free.{Names, Used, without, none, joined, finding, listing, used_by_expr_kind, used_by_stmt_kind, used_by_function, declared_by}
use Rattle.mt_eval_meaning.specs.Entering.{function_names}
use Rattle.mt_eval_meaning.specs.Evaluation.{expr_kind_of}
use Rattle.mt_eval_meaning.specs.Hoisting.{Lexical, kind_of, lexicals, lexicals_of_kind, lexicals_by_word, functions, functions_of_kind, named_function, variables, variables_by_word, hoisting, names_of, name_of_decl}
use Rattle.mt_syntax.specs.Fold.{Tree, ExprKindLayer, ForStartLayer, StmtKindLayer, on_expr, on_expr_kind, on_stmt, on_stmt_kind, on_function, on_decl, on_for_start, on_markup, on_markup_attribute, on_markup_child, on_markup_value, on_prop}
use Rattle.mt_syntax.specs.Gathering.{all_of, of_for_start, of_markup_child, of_markup_value}
use Rattle.mt_syntax.specs.Sort.{Sort}
use Rattle.mt_syntax.specs.Sort as sort
use Rattle.mt_syntax.specs.declared.tree.Decl.{Decl, out-Decl, roll-out-Decl}
use Rattle.mt_syntax.specs.declared.tree.Expr.{Expr, out-Expr, roll-out-Expr}
use Rattle.mt_syntax.specs.declared.tree.ExprKind.{roll-out-ExprKind}
use Rattle.mt_syntax.specs.declared.tree.ExprKind.TheOpen.{ExprKind-F, ForStart-F, StmtKind-F}
use Rattle.mt_syntax.specs.declared.tree.ForStart.{ForStart, out-ForStart, roll-out-ForStart}
use Rattle.mt_syntax.specs.declared.tree.Function.{Function, out-Function, roll-out-Function}
use Rattle.mt_syntax.specs.declared.tree.Mark.{Mark}
use Rattle.mt_syntax.specs.declared.tree.Markup.{Markup, out-Markup, roll-out-Markup}
use Rattle.mt_syntax.specs.declared.tree.MarkupAttribute.{MarkupAttribute, out-MarkupAttribute, roll-out-MarkupAttribute}
use Rattle.mt_syntax.specs.declared.tree.MarkupChild.{MarkupChild, out-MarkupChild, roll-out-MarkupChild}
use Rattle.mt_syntax.specs.declared.tree.MarkupValue.{out-MarkupValue, roll-out-MarkupValue}
use Rattle.mt_syntax.specs.declared.tree.Prop.{Prop, out-Prop, roll-out-Prop}
use Rattle.mt_syntax.specs.declared.tree.Stmt.{Stmt, out-Stmt, roll-out-Stmt}
use Rattle.mt_syntax.specs.declared.tree.StmtKind.{roll-out-StmtKind}
use Rattle.mt_tree.specs.declared.operators.VarKind.{VarKind}
use Rattle.mt_tree.specs.declared.operators.VarKind.TheVariants as word
use Rattle.mt_syntax_laws.proofs.Layers.{map_expr_kind, map_for_start, map_markup_child, map_markup_value, map_stmt_kind, map_decl}
use Rattle.mt_syntax_laws.proofs.Related.{on, at_expr, at_expr_kind, at_stmt, at_stmt_kind, at_function, at_decl, at_for_start, at_markup, at_markup_attribute, at_markup_child, at_markup_value, at_prop, Two, lefts, rights, Preserved, related_stmt}

abbrev pub named : List Lexical → Names
named ls = map (λ l. l.name) ls

module _ (tilde : ℕ → Names) where
  -- ---- one node

  pub expr_uses : (e : Expr) → on_expr (finding tilde) e ≡ used_by_expr_kind tilde (map_expr_kind (on (finding tilde)) (expr_kind_of e))
  expr_uses e =
      ap (on_expr (finding tilde)) (sym (roll-out-Expr e)) ∙ at_expr (finding tilde) (out-Expr e)
      ∙ ap (on_expr_kind (finding tilde)) (sym (roll-out-ExprKind (out-Expr e).kind)) ∙ at_expr_kind (finding tilde) (expr_kind_of e)

  pub stmt_uses : (t : Stmt) → on_stmt (finding tilde) t ≡ used_by_stmt_kind tilde (map_stmt_kind (on (finding tilde)) (kind_of t))
  stmt_uses t =
      ap (on_stmt (finding tilde)) (sym (roll-out-Stmt t)) ∙ at_stmt (finding tilde) (out-Stmt t)
      ∙ ap (on_stmt_kind (finding tilde)) (sym (roll-out-StmtKind (out-Stmt t).kind)) ∙ at_stmt_kind (finding tilde) (kind_of t)

  -- what the statements of a list use
  abbrev pub all_used : List Stmt → Used
  all_used ts = all_of none joined (map (on_stmt (finding tilde)) ts)

  -- what a function with these parameters and this body has free
  abbrev pub function_used : List Mark → List Stmt → Option Mark → Used
  function_used parameters body name = used_by_function tilde (record { name = name; parameters = parameters; body = map (on_stmt (finding tilde)) body })

  pub function_uses : (f : Function) → on_function (finding tilde) f ≡ function_used (out-Function f).parameters (out-Function f).body (out-Function f).name
  function_uses f = ap (on_function (finding tilde)) (sym (roll-out-Function f)) ∙ at_function (finding tilde) (out-Function f)

  -- a declaration, by its name and its value
  abbrev pub value_used : Option Expr → Used
  value_used None = none
  value_used (Some e) = on_expr (finding tilde) e

  abbrev pub decl_used : List ℕ → Option Expr → Used
  decl_used name value = record none { free = name ∷ (value_used value).free; here = name ∷ [] }

  value_law : (name : Mark) (o : Option Expr) → (listing tilde).decl (map_decl (on (finding tilde)) (record { name = name; value = o })) ≡ value_used o
  value_law name None = refl
  value_law name (Some e) = refl

  pub decl_uses : (d : Decl) → on_decl (finding tilde) d ≡ decl_used (name_of_decl d) (out-Decl d).value
  decl_uses d =
      ap (on_decl (finding tilde)) (sym (roll-out-Decl d)) ∙ at_decl (finding tilde) (out-Decl d)
      ∙ ap (λ u. record none { free = name_of_decl d ∷ u.free; here = name_of_decl d ∷ [] }) (value_law (out-Decl d).name (out-Decl d).value)

  pub start_uses : (s : ForStart) → on_for_start (finding tilde) s ≡ of_for_start none joined (map_for_start (on (finding tilde)) (out-ForStart s))
  start_uses s = ap (on_for_start (finding tilde)) (sym (roll-out-ForStart s)) ∙ at_for_start (finding tilde) (out-ForStart s)

  pub prop_uses : (q : Prop) → on_prop (finding tilde) q ≡ on_expr (finding tilde) (out-Prop q).value
  prop_uses q = ap (on_prop (finding tilde)) (sym (roll-out-Prop q)) ∙ at_prop (finding tilde) (out-Prop q)

  pub markup_uses : (m : Markup) → on_markup (finding tilde) m ≡ joined (all_of none joined (map (on_markup_attribute (finding tilde)) (out-Markup m).attributes)) (all_of none joined (map (on_markup_child (finding tilde)) (out-Markup m).children))
  markup_uses m = ap (on_markup (finding tilde)) (sym (roll-out-Markup m)) ∙ at_markup (finding tilde) (out-Markup m)

  pub attribute_uses : (a : MarkupAttribute) → on_markup_attribute (finding tilde) a ≡ of_markup_value none joined (map_markup_value (on (finding tilde)) (out-MarkupValue (out-MarkupAttribute a).value))
  attribute_uses a =
      ap (on_markup_attribute (finding tilde)) (sym (roll-out-MarkupAttribute a)) ∙ at_markup_attribute (finding tilde) (out-MarkupAttribute a)
      ∙ ap (on_markup_value (finding tilde)) (sym (roll-out-MarkupValue (out-MarkupAttribute a).value)) ∙ at_markup_value (finding tilde) (out-MarkupValue (out-MarkupAttribute a).value)

  pub child_uses : (c : MarkupChild) → on_markup_child (finding tilde) c ≡ of_markup_child none joined (map_markup_child (on (finding tilde)) (out-MarkupChild c))
  child_uses c = ap (on_markup_child (finding tilde)) (sym (roll-out-MarkupChild c)) ∙ at_markup_child (finding tilde) (out-MarkupChild c)

  -- ---- what a list of statements declares

  decls_here : (ds : List Decl) → (all_of none joined (map (on_decl (finding tilde)) ds)).here ≡ map name_of_decl ds
  decls_here [] = refl
  decls_here (d ∷ ds) = ap₂ (λ (u : Used) (xs : Names). u.here ++ xs) (decl_uses d) (decls_here ds)

  decls_functions : (ds : List Decl) → (all_of none joined (map (on_decl (finding tilde)) ds)).functions ≡ []
  decls_functions [] = refl
  decls_functions (d ∷ ds) = ap₂ (λ (u : Used) (xs : Names). u.functions ++ xs) (decl_uses d) (decls_functions ds)

  decl_names : (constant : Bool) (ds : List Decl) → map name_of_decl ds ≡ named (map (λ d. record { name = name_of_decl d; constant = constant }) ds)
  decl_names constant [] = refl
  decl_names constant (d ∷ ds) = ap (λ (xs : Names). name_of_decl d ∷ xs) (decl_names constant ds)

  here_by_word : (kind : VarKind) (ds : List Decl) → (declared_by kind (all_of none joined (map (on_decl (finding tilde)) ds))).here ≡ named (lexicals_by_word kind ds)
  here_by_word word.Var ds = refl
  here_by_word word.Let ds = decls_here ds ∙ decl_names false ds
  here_by_word word.Const ds = decls_here ds ∙ decl_names true ds

  functions_by_word : (kind : VarKind) (ds : List Decl) → (declared_by kind (all_of none joined (map (on_decl (finding tilde)) ds))).functions ≡ []
  functions_by_word word.Var ds = decls_functions ds
  functions_by_word word.Let ds = decls_functions ds
  functions_by_word word.Const ds = decls_functions ds

  here_of : (x : StmtKindLayer Tree) → (used_by_stmt_kind tilde (map_stmt_kind (on (finding tilde)) x)).here ≡ named (lexicals_of_kind x)
  here_of (StmtKind-F.StmtKind::Var kind ds) = here_by_word kind ds
  here_of (StmtKind-F.Function f) = ap (λ u. u.here) (function_uses f)
  here_of _ = refl

  pub here_is : (ts : List Stmt) → (all_used ts).here ≡ named (lexicals ts)
  here_is [] = refl
  here_is (t ∷ ts) =
      ap₂ (λ (u : Used) (xs : Names). u.here ++ xs) (stmt_uses t) (here_is ts)
      ∙ ap (λ (xs : Names). xs ++ named (lexicals ts)) (here_of (kind_of t)) ∙ sym (map-append (λ l. l.name) (lexicals_of_kind (kind_of t)) (lexicals ts))

  name_of_function : (m : Option Mark) (f : Function) → (function_used (out-Function f).parameters (out-Function f).body m).functions ≡ map (λ f. f.0) (named_function m f)
  name_of_function None f = refl
  name_of_function (Some m) f = refl

  functions_of : (x : StmtKindLayer Tree) → (used_by_stmt_kind tilde (map_stmt_kind (on (finding tilde)) x)).functions ≡ map (λ f. f.0) (functions_of_kind x)
  functions_of (StmtKind-F.StmtKind::Var kind ds) = functions_by_word kind ds
  functions_of (StmtKind-F.Function f) = ap (λ u. u.functions) (function_uses f) ∙ name_of_function (out-Function f).name f
  functions_of _ = refl

  pub functions_are : (ts : List Stmt) → (all_used ts).functions ≡ function_names ts
  functions_are [] = refl
  functions_are (t ∷ ts) =
      ap₂ (λ (u : Used) (xs : Names). u.functions ++ xs) (stmt_uses t) (functions_are ts)
      ∙ ap (λ (xs : Names). xs ++ function_names ts) (functions_of (kind_of t)) ∙ sym (map-append (λ f. f.0) (functions_of_kind (kind_of t)) (functions ts))

  -- ---- `var` names, which two folds find

  -- what both folds give at a part: a statement its variables, the start of a loop and a declaration the names that they declare
  abbrev Finds : (s : Sort) → Used → Names → Type 0
  Finds sort.StmtKind u names = u.variables ≡ names
  Finds sort.Stmt u names = u.variables ≡ names
  Finds sort.Decl u names = (u.here ≡ names) × (u.variables ≡ [])
  Finds sort.ForStart u names = (u.here ≡ names) × (u.variables ≡ [])
  Finds sort.Expr u names = (names ≡ []) × (u.here ≡ []) × (u.variables ≡ [])
  Finds sort.ExprKind u names = (u.here ≡ []) × (u.variables ≡ [])
  Finds sort.Function u names = (names ≡ []) × (u.variables ≡ [])
  Finds _ u names = Unit {0}

  abbrev Found : Sort → Type 0
  Found = Two Finds

  decls_found : (ds : List (Found sort.Decl)) → (all_of none joined (map (lefts Finds sort.Decl) ds)).here ≡ all_of [] (λ xs ys. xs ++ ys) (map (rights Finds sort.Decl) ds)
  decls_found [] = refl
  decls_found (d ∷ ds) = ap₂ (λ (xs ys : Names). xs ++ ys) d.holds.0 (decls_found ds)

  decls_variables : (ds : List (Found sort.Decl)) → (all_of none joined (map (lefts Finds sort.Decl) ds)).variables ≡ []
  decls_variables [] = refl
  decls_variables (d ∷ ds) = ap₂ (λ (xs ys : Names). xs ++ ys) d.holds.1 (decls_variables ds)

  decls_flat : (ds : List (Found sort.Decl)) → (all_of none joined (map (lefts Finds sort.Decl) ds)).here ≡ flat_map (λ (names : Names). names) (map (rights Finds sort.Decl) ds)
  decls_flat [] = refl
  decls_flat (d ∷ ds) = ap₂ (λ (xs ys : Names). xs ++ ys) d.holds.0 (decls_flat ds)

  stmts_found : (ts : List (Found sort.Stmt)) → (all_of none joined (map (lefts Finds sort.Stmt) ts)).variables ≡ all_of [] (λ xs ys. xs ++ ys) (map (rights Finds sort.Stmt) ts)
  stmts_found [] = refl
  stmts_found (t ∷ ts) = ap₂ (λ (xs ys : Names). xs ++ ys) t.holds (stmts_found ts)

  declares_found : (kind : VarKind) (ds : List (Found sort.Decl)) → (declared_by kind (all_of none joined (map (lefts Finds sort.Decl) ds))).variables ≡ variables_by_word kind (flat_map (λ (names : Names). names) (map (rights Finds sort.Decl) ds))
  declares_found word.Var ds = decls_flat ds
  declares_found word.Let ds = decls_variables ds
  declares_found word.Const ds = decls_variables ds

  both : (xs xs' ys ys' : Names) → xs ≡ xs' → ys ≡ ys' → xs ++ ys ≡ xs' ++ ys'
  both xs xs' ys ys' h k = ap₂ (λ (xs ys : Names). xs ++ ys) h k

  -- an expression has none on both sides
  no_variables : (e : Found sort.Expr) → e.left.variables ≡ e.right
  no_variables e = e.holds.2 ∙ sym e.holds.0

  skipped : (e : Found sort.Expr) (xs ys : Names) → xs ≡ ys → xs ≡ e.right ++ ys
  skipped e xs ys h = h ∙ sym (ap (λ (z : Names). z ++ ys) e.holds.0)

  stmt_kind_found : (x : StmtKindLayer Found) → (used_by_stmt_kind tilde (map_stmt_kind (lefts Finds) x)).variables ≡ hoisting.stmt_kind (map_stmt_kind (rights Finds) x)
  stmt_kind_found (StmtKind-F.StmtKind::Expr e) = no_variables e
  stmt_kind_found (StmtKind-F.StmtKind::Var kind ds) = declares_found kind ds
  stmt_kind_found (StmtKind-F.Function f) = f.holds.1 ∙ sym f.holds.0
  stmt_kind_found (StmtKind-F.Service f) = sym f.holds.0
  stmt_kind_found (StmtKind-F.If e a None) = both e.left.variables e.right (a.left.variables ++ []) (a.right ++ []) (no_variables e) (both a.left.variables a.right [] [] a.holds refl)
  stmt_kind_found (StmtKind-F.If e a (Some b)) =
      both e.left.variables e.right (a.left.variables ++ b.left.variables) (a.right ++ b.right) (no_variables e) (both a.left.variables a.right b.left.variables b.right a.holds b.holds)
  stmt_kind_found (StmtKind-F.While e a) = both e.left.variables e.right a.left.variables a.right (no_variables e) a.holds
  stmt_kind_found (StmtKind-F.For start None None a) = both start.left.here start.right a.left.variables a.right start.holds.0 a.holds
  stmt_kind_found (StmtKind-F.For start None (Some f) a) = both start.left.here start.right a.left.variables (f.right ++ a.right) start.holds.0 (skipped f a.left.variables a.right a.holds)
  stmt_kind_found (StmtKind-F.For start (Some e) None a) = both start.left.here start.right a.left.variables (e.right ++ a.right) start.holds.0 (skipped e a.left.variables a.right a.holds)
  stmt_kind_found (StmtKind-F.For start (Some e) (Some f) a) =
      both start.left.here start.right a.left.variables (e.right ++ (f.right ++ a.right)) start.holds.0 (skipped e a.left.variables (f.right ++ a.right) (skipped f a.left.variables a.right a.holds))
  stmt_kind_found (StmtKind-F.Return None) = refl
  stmt_kind_found (StmtKind-F.Return (Some e)) = no_variables e
  stmt_kind_found (StmtKind-F.Throw e) = no_variables e
  stmt_kind_found (StmtKind-F.Try a name b) = both a.left.variables a.right b.left.variables b.right a.holds b.holds
  stmt_kind_found (StmtKind-F.Block ts) = stmts_found ts
  stmt_kind_found _ = refl

  for_start_found : (x : ForStartLayer Found) → Finds sort.ForStart (of_for_start none joined (map_for_start (lefts Finds) x)) (of_for_start [] (λ (xs ys : Names). xs ++ ys) (map_for_start (rights Finds) x))
  for_start_found ForStart-F.Absent = (refl, refl)
  for_start_found (ForStart-F.ForStart::Var ds) = (decls_found ds, decls_variables ds)
  for_start_found (ForStart-F.ForStart::Expr e) = (e.holds.1 ∙ sym e.holds.0, e.holds.2)

  expr_kind_found : (x : ExprKindLayer Found) → Finds sort.ExprKind (used_by_expr_kind tilde (map_expr_kind (lefts Finds) x)) (hoisting.expr_kind (map_expr_kind (rights Finds) x))
  expr_kind_found ExprKind-F.Null = (refl, refl)
  expr_kind_found _ = (refl, refl)

  finds : Preserved (finding tilde) hoisting Finds
  finds = record {
    expr_kind = expr_kind_found;
    for_start = for_start_found;
    markup_child = λ x. tt;
    markup_value = λ x. tt;
    stmt_kind = stmt_kind_found;
    decl = λ x. (refl, refl);
    expr = λ x. (refl, x.kind.holds.0, x.kind.holds.1);
    function = λ x. (refl, refl);
    markup = λ x. tt;
    markup_attribute = λ x. tt;
    prop = λ x. tt;
    stmt = λ x. x.kind.holds;
  }

  pub variables_are : (ts : List Stmt) → (all_used ts).variables ≡ variables ts
  variables_are [] = refl
  variables_are (t ∷ ts) = ap₂ (λ (xs ys : Names). xs ++ ys) (related_stmt (finding tilde) hoisting Finds finds t) (variables_are ts)

  -- what a function has free, by what its body declares
  pub free_in_function : (f : Function)
      → (on_function (finding tilde) f).free ≡ without (names_of (out-Function f).parameters ++ (variables (out-Function f).body ++ (function_names (out-Function f).body ++ named (lexicals (out-Function f).body)))) (all_used (out-Function f).body).free
  free_in_function f =
      let ts = (out-Function f).body in
      let u = all_used ts in
      let ps = names_of (out-Function f).parameters in
      ap (λ (u : Used). u.free) (function_uses f)
      ∙ ap (λ (xs : Names). without (ps ++ (xs ++ (u.functions ++ u.here))) u.free) (variables_are ts)
      ∙ ap (λ (xs : Names). without (ps ++ (variables ts ++ (xs ++ u.here))) u.free) (functions_are ts)
      ∙ ap (λ (xs : Names). without (ps ++ (variables ts ++ (function_names ts ++ xs))) u.free) (here_is ts)
