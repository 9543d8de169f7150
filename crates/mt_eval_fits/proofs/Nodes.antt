-- The test of a tree, by the node at its top.
use Rattle.std.proofs.Common.{◌≡◌, ℕ, Bool, true, false, List, map, Option, None, Some, refl, sym, ap, ◌∙◌}
use Rattle.mt_eval_fits.specs.Fitting.{Tested, each, testing, tested_expr_kind, tested_child, tested_value, fitting}
use Rattle.mt_eval_meaning.specs.Evaluation.{expr_kind_of}
use Rattle.mt_eval_meaning.specs.Hoisting.{kind_of}
use Rattle.mt_syntax.specs.Fold.{Every, Steps, on_decl, on_expr, on_expr_kind, on_for_start, on_function, on_markup, on_markup_attribute, on_markup_child, on_markup_value, on_prop, on_stmt, on_stmt_kind}
use Rattle.mt_syntax.specs.declared.tree.Decl.{Decl, out-Decl, roll-out-Decl}
use Rattle.mt_syntax.specs.declared.tree.Expr.{Expr, out-Expr, roll-out-Expr}
use Rattle.mt_syntax.specs.declared.tree.ExprKind.{roll-out-ExprKind}
use Rattle.mt_syntax.specs.declared.tree.ForStart.{ForStart, out-ForStart, roll-out-ForStart}
use Rattle.mt_syntax.specs.declared.tree.Function.{Function, out-Function, roll-out-Function}
use Rattle.mt_syntax.specs.declared.tree.Mark.{Mark}
use Rattle.mt_syntax.specs.declared.tree.Markup.{Markup, out-Markup, roll-out-Markup}
use Rattle.mt_syntax.specs.declared.tree.MarkupAttribute.{MarkupAttribute, out-MarkupAttribute, roll-out-MarkupAttribute}
use Rattle.mt_syntax.specs.declared.tree.MarkupChild.{MarkupChild, out-MarkupChild, roll-out-MarkupChild}
use Rattle.mt_syntax.specs.declared.tree.MarkupValue.{out-MarkupValue, roll-out-MarkupValue}
use Rattle.mt_syntax.specs.declared.tree.Prop.{Prop, out-Prop, roll-out-Prop}
use Rattle.mt_syntax.specs.declared.tree.Stmt.{Stmt, out-Stmt, roll-out-Stmt}
use Rattle.mt_syntax.specs.declared.tree.StmtKind.{roll-out-StmtKind}
use Rattle.mt_syntax_laws.proofs.Layers.{map_decl, map_expr_kind, map_for_start, map_markup_child, map_markup_value, map_stmt_kind}
use Rattle.mt_syntax_laws.proofs.Related.{on, at_decl, at_expr, at_expr_kind, at_for_start, at_function, at_markup, at_markup_attribute, at_markup_child, at_markup_value, at_prop, at_stmt, at_stmt_kind}

module _ (element : List ℕ → List (List ℕ) → ℕ → Bool) (tilde : ℕ → Bool) where
  abbrev pub test : Steps (Every Tested)
  test = fitting element tilde

  pub expr_test : (e : Expr) → on_expr test e ≡ tested_expr_kind element tilde (map_expr_kind (on test) (expr_kind_of e))
  expr_test e =
      ap (on_expr test) (sym (roll-out-Expr e)) ∙ at_expr test (out-Expr e)
      ∙ ap (on_expr_kind test) (sym (roll-out-ExprKind (out-Expr e).kind)) ∙ at_expr_kind test (expr_kind_of e)

  pub stmt_test : (t : Stmt) → on_stmt test t ≡ testing.stmt_kind (map_stmt_kind (on test) (kind_of t))
  stmt_test t =
      ap (on_stmt test) (sym (roll-out-Stmt t)) ∙ at_stmt test (out-Stmt t)
      ∙ ap (on_stmt_kind test) (sym (roll-out-StmtKind (out-Stmt t).kind)) ∙ at_stmt_kind test (kind_of t)

  pub function_test : (f : Function) → on_function test f ≡ each (map (on_stmt test) (out-Function f).body)
  function_test f = ap (on_function test) (sym (roll-out-Function f)) ∙ at_function test (out-Function f)

  abbrev pub option_fits : Option Expr → Bool
  option_fits None = true
  option_fits (Some e) = (on_expr test e).fits

  value_test : (name : Mark) (o : Option Expr) → (testing.decl (map_decl (on test) (record { name = name; value = o }))).fits ≡ option_fits o
  value_test name None = refl
  value_test name (Some e) = refl

  pub decl_test : (d : Decl) → (on_decl test d).fits ≡ option_fits (out-Decl d).value
  decl_test d = ap (λ t. (on_decl test t).fits) (sym (roll-out-Decl d)) ∙ ap (λ (t : Tested). t.fits) (at_decl test (out-Decl d)) ∙ value_test (out-Decl d).name (out-Decl d).value

  pub start_test : (s : ForStart) → on_for_start test s ≡ testing.for_start (map_for_start (on test) (out-ForStart s))
  start_test s = ap (on_for_start test) (sym (roll-out-ForStart s)) ∙ at_for_start test (out-ForStart s)

  pub prop_test : (q : Prop) → on_prop test q ≡ test.prop (record { name = (out-Prop q).name; value = on_expr test (out-Prop q).value })
  prop_test q = ap (on_prop test) (sym (roll-out-Prop q)) ∙ at_prop test (out-Prop q)

  pub markup_test : (m : Markup)
      → on_markup test m ≡ test.markup (record { tag = (out-Markup m).tag; attributes = map (on_markup_attribute test) (out-Markup m).attributes; children = map (on_markup_child test) (out-Markup m).children })
  markup_test m = ap (on_markup test) (sym (roll-out-Markup m)) ∙ at_markup test (out-Markup m)

  pub attribute_test : (a : MarkupAttribute) → on_markup_attribute test a ≡ record { fits = (tested_value element tilde (map_markup_value (on test) (out-MarkupValue (out-MarkupAttribute a).value))).fits; target = false; name = (out-MarkupAttribute a).name.name }
  attribute_test a =
      ap (on_markup_attribute test) (sym (roll-out-MarkupAttribute a)) ∙ at_markup_attribute test (out-MarkupAttribute a)
      ∙ ap (λ (t : Tested). record { fits = t.fits; target = false; name = (out-MarkupAttribute a).name.name })
      (ap (on_markup_value test) (sym (roll-out-MarkupValue (out-MarkupAttribute a).value)) ∙ at_markup_value test (out-MarkupValue (out-MarkupAttribute a).value))

  pub child_test : (c : MarkupChild) → on_markup_child test c ≡ tested_child element tilde (map_markup_child (on test) (out-MarkupChild c))
  child_test c = ap (on_markup_child test) (sym (roll-out-MarkupChild c)) ∙ at_markup_child test (out-MarkupChild c)
