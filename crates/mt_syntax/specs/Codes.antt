-- Which lists of statements are codes: the body of a tilde, without services, tildes and elements, in which each dollar is a
-- `Val` of data, and every place is 0:0.
use Rattle.std.specs.Prelude.{◌≡◌, ◌&&◌, ◌==◌, Bool, true, false, List, Option, None, Some}
use Rattle.std.specs.List.{list_all}
use Rattle.mt_tree.specs.declared.place.Place.{Place}
use Rattle.mt_syntax.specs.Data.{is_data}
use Rattle.mt_syntax.specs.Shape.{is_shaped}
use Rattle.mt_syntax.specs.Fold.{Every, ExprKindLayer, StmtKindLayer, Steps, on_stmt}
use Rattle.mt_syntax.specs.Gathering.{gathering}
use Rattle.mt_syntax.specs.declared.tree.Mark.{Mark}
use Rattle.mt_syntax.specs.declared.tree.Stmt.{Stmt}
use Rattle.mt_syntax.specs.declared.tree.ExprKind.TheOpen.{ExprKind-F, StmtKind-F}

-- a test that each part has to pass
abbrev pub testing : Steps (Every Bool)
testing = gathering true (λ a b. a && b)

-- ---- neither services, nor tildes, nor elements, nor dollars that may not stand

abbrev pub expr_kind_is_plain : ExprKindLayer (Every Bool) → Bool
expr_kind_is_plain (ExprKind-F.ExprKind::Tilde id) = false
expr_kind_is_plain (ExprKind-F.Stray a) = false
expr_kind_is_plain (ExprKind-F.Markup markup) = false
expr_kind_is_plain layer = testing.expr_kind layer

abbrev pub stmt_kind_is_plain : StmtKindLayer (Every Bool) → Bool
stmt_kind_is_plain (StmtKind-F.Service function) = false
stmt_kind_is_plain layer = testing.stmt_kind layer

abbrev pub testing_plain : Steps (Every Bool)
testing_plain = record testing { expr_kind = expr_kind_is_plain; stmt_kind = stmt_kind_is_plain }

abbrev pub is_plain : List Stmt → Bool
is_plain = list_all (on_stmt testing_plain)

-- ---- no dollar, and data in each `Val`

abbrev pub expr_kind_is_filled : ExprKindLayer (Every Bool) → Bool
expr_kind_is_filled (ExprKind-F.ExprKind::Dollar at) = false
expr_kind_is_filled (ExprKind-F.Val d) = is_data d
expr_kind_is_filled layer = testing.expr_kind layer

abbrev pub testing_filled : Steps (Every Bool)
testing_filled = record testing { expr_kind = expr_kind_is_filled }

abbrev pub is_filled : List Stmt → Bool
is_filled = list_all (on_stmt testing_filled)

-- ---- every place is 0:0

abbrev pub is_nowhere : Place → Bool
is_nowhere p = (p.line == 0) && (p.column == 0)

abbrev pub mark_is_nowhere : Mark → Bool
mark_is_nowhere m = is_nowhere m.place

abbrev pub name_is_nowhere : Option Mark → Bool
name_is_nowhere None = true
name_is_nowhere (Some m) = mark_is_nowhere m

abbrev pub stmt_kind_is_nowhere : StmtKindLayer (Every Bool) → Bool
stmt_kind_is_nowhere (StmtKind-F.Try body name handler) = body && mark_is_nowhere name && handler
stmt_kind_is_nowhere layer = testing.stmt_kind layer

abbrev pub testing_nowhere : Steps (Every Bool)
testing_nowhere = record testing {
  stmt_kind = stmt_kind_is_nowhere;
  decl = λ d. mark_is_nowhere d.name && testing.decl d;
  expr = λ e. is_nowhere e.place && testing.expr e;
  function = λ f. name_is_nowhere f.name && list_all mark_is_nowhere f.parameters && testing.function f;
  markup_attribute = λ a. mark_is_nowhere a.name && testing.markup_attribute a;
  stmt = λ s. is_nowhere s.place && testing.stmt s;
}

abbrev pub stands_nowhere : List Stmt → Bool
stands_nowhere = list_all (on_stmt testing_nowhere)

pub record IsCode (body : List Stmt) : Type 0 where
  pub shaped : is_shaped body ≡ true
  pub plain : is_plain body ≡ true
  pub filled : is_filled body ≡ true
  pub nowhere : stands_nowhere body ≡ true
