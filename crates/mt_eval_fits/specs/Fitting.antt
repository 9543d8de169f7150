-- Syntax that becomes code which fits: whose numbers, texts and data are within their limits, whose targets are names and properties,
-- and whose elements and tildes are allowed.
use Rattle.std.specs.Prelude.{◌≡◌, ℕ, ◌^◌, nat_lt, Bool, true, false, ◌&&◌, List, [], length, map, All, Option, None, Some, slice_get, IsTrue}
use Rattle.mt_eval_meaning.specs.States.{Numbered}
use Rattle.mt_eval_keeps.specs.Kept.{Tests}
use Rattle.mt_eval_meaning.specs.Evaluation.{dollars_of}
use Rattle.mt_syntax.specs.DataLimits.{nodes_of_data}
use Rattle.mt_syntax.specs.Fold.{Every, ExprKindLayer, MarkupChildLayer, MarkupValueLayer, MarkupLayer, Steps, on_expr, on_function, on_stmt}
use Rattle.mt_syntax.specs.Gathering.{all_of, gathering}
use Rattle.mt_syntax.specs.declared.program.Tilde.{Tilde}
use Rattle.mt_syntax.specs.declared.tree.Expr.{Expr}
use Rattle.mt_syntax.specs.declared.tree.ExprKind.TheOpen.{ExprKind-F, MarkupChild-F, MarkupValue-F}
use Rattle.mt_syntax.specs.declared.tree.Function.{Function}
use Rattle.mt_syntax.specs.declared.tree.Stmt.{Stmt}
use Rattle.mt_tree.specs.declared.data.Data.{Data}
use Rattle.mt_syntax.specs.Data.{is_in_range}
use Rattle.mt_value.specs.Limits.{data_fits, text_fits}

-- what is tested of a part
pub record Tested : Type 0 where
  pub fits : Bool
  -- whether it is a name or a property, to which a value may be assigned
  pub target : Bool
  -- the name of an attribute
  pub name : List ℕ

abbrev pub tested : Bool → Tested
tested fits = record { fits = fits; target = false; name = [] }

abbrev pub both : Tested → Tested → Tested
both a b = tested (a.fits && b.fits)

abbrev pub each : List Tested → Tested
each = all_of (tested true) both

abbrev pub testing : Steps (Every Tested)
testing = gathering (tested true) both

abbrev pub value_fits : Data → Bool
value_fits d = data_fits d && nat_lt (nodes_of_data d) (2 ^ 53)

-- the tags, names of attributes and numbers of children that elements may have, and the tildes that may be met
module _ (element : List ℕ → List (List ℕ) → ℕ → Bool) (tilde : ℕ → Bool) where
  abbrev pub tested_expr_kind : ExprKindLayer (Every Tested) → Tested
  tested_expr_kind (ExprKind-F.Name text) = record { fits = text_fits text; target = true; name = [] }
  tested_expr_kind (ExprKind-F.Num n) = tested (is_in_range n)
  tested_expr_kind (ExprKind-F.ExprKind::Text text) = tested (text_fits text)
  tested_expr_kind (ExprKind-F.Fun f) = tested f.fits
  tested_expr_kind (ExprKind-F.Unary op a) = tested a.fits
  tested_expr_kind (ExprKind-F.Step op a) = tested (a.target && a.fits)
  tested_expr_kind (ExprKind-F.Assign op a b) = tested (a.target && (a.fits && b.fits))
  tested_expr_kind (ExprKind-F.Index a k) = record { fits = a.fits && k.fits; target = true; name = [] }
  tested_expr_kind (ExprKind-F.ExprKind::Tilde id) = tested (tilde id)
  tested_expr_kind (ExprKind-F.Stray a) = tested a.fits
  tested_expr_kind (ExprKind-F.Markup m) = tested m.fits
  tested_expr_kind (ExprKind-F.Val d) = tested (value_fits d)
  tested_expr_kind layer = testing.expr_kind layer

  abbrev pub tested_child : MarkupChildLayer (Every Tested) → Tested
  tested_child (MarkupChild-F.MarkupChild::Text text) = tested (text_fits text)
  tested_child layer = testing.markup_child layer

  abbrev pub tested_value : MarkupValueLayer (Every Tested) → Tested
  tested_value (MarkupValue-F.Quoted text) = tested (text_fits text)
  tested_value layer = testing.markup_value layer

  abbrev pub tested_markup : MarkupLayer (Every Tested) → Tested
  tested_markup m = tested (element m.tag (map (λ a. a.name) m.attributes) (length m.children) && ((each m.attributes).fits && (each m.children).fits))

  abbrev pub fitting : Steps (Every Tested)
  fitting = record testing {
    expr_kind = tested_expr_kind;
    markup_child = tested_child;
    markup_value = tested_value;
    markup = tested_markup;
    markup_attribute = λ a. record { fits = a.value.fits; target = false; name = a.name.name };
    prop = λ p. tested (text_fits p.name && p.value.fits);
  }

  abbrev pub ExprFits : Expr → Type 0
  ExprFits e = IsTrue (on_expr fitting e).fits

  abbrev pub StmtFits : Stmt → Type 0
  StmtFits t = IsTrue (on_stmt fitting t).fits

  abbrev pub FunctionFits : Function → Type 0
  FunctionFits f = IsTrue (on_function fitting f).fits

  abbrev pub entry_fits : Option Numbered → Bool
  entry_fits None = false
  entry_fits (Some e) = (on_function fitting e.function).fits

module _ {H : Type 0} (tests : Tests H) (tildes : List Tilde) where
  -- a tilde is met with as many values as it has dollars
  abbrev pub is_met : ℕ → Bool
  is_met id = tests.tilde id (length (dollars_of (slice_get tildes id)))

  abbrev pub ItemsFit : List Stmt → Type 0
  ItemsFit = All (StmtFits tests.element is_met)

  -- the tests suit resolved code: the numbers are those of functions whose syntax fits, and so do the expressions of dollars
  pub record Suit (table : List Numbered) : Type 0 where
    pub numbers : (n : ℕ) → tests.function n ≡ entry_fits tests.element is_met (slice_get table n)
    pub dollars : All (λ t. All (ExprFits tests.element is_met) t.dollars) tildes
