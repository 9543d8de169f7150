-- Syntax in which no dollar stands outside of a tilde and an element, and each element has a tag of the table, and distinct attributes of
-- the table.
use Rattle.std.specs.Prelude.{ℕ, Bool, true, false, not, ◌&&◌, List, [], ◌∷◌, ◌++◌, map, All, IsTrue}
use Rattle.std.specs.Str.{encode_utf8_all}
use Rattle.mt_tree.specs.Tables.{is_among, is_attribute, is_tag}
use Rattle.mt_syntax.specs.Fold.{Every, ExprKindLayer, MarkupLayer, MarkupAttributeLayer, Steps, on_expr, on_stmt}
use Rattle.mt_syntax.specs.Gathering.{all_of, gathering}
use Rattle.mt_syntax.specs.declared.program.Program.{Program}
use Rattle.mt_syntax.specs.declared.program.Tilde.{Tilde}
use Rattle.mt_syntax.specs.declared.tree.Expr.{Expr}
use Rattle.mt_syntax.specs.declared.tree.ExprKind.TheOpen.{ExprKind-F}
use Rattle.mt_syntax.specs.declared.tree.Stmt.{Stmt}

-- what is tested of a part; of an attribute also its name
pub record Made : Type 0 where
  pub fits : Bool
  pub name : List ℕ

abbrev pub made : Bool → Made
made fits = record { fits = fits; name = [] }

abbrev pub both : Made → Made → Made
both a b = made (a.fits && b.fits)

abbrev pub each : List Made → Made
each = all_of (made true) both

abbrev pub testing : Steps (Every Made)
testing = gathering (made true) both

-- no name of the list is one of these, or stands in it twice
abbrev pub are_new : List (List ℕ) → List (List ℕ) → Bool
are_new names [] = true
are_new names (n ∷ ns) = not (is_among names n) && are_new (names ++ n ∷ []) ns

abbrev pub made_expr_kind : ExprKindLayer (Every Made) → Made
made_expr_kind (ExprKind-F.Stray a) = made false
made_expr_kind layer = testing.expr_kind layer

abbrev pub made_markup : MarkupLayer (Every Made) → Made
made_markup m =
    made (is_tag (encode_utf8_all m.tag) && ((each m.attributes).fits && (are_new [] (map (λ a. encode_utf8_all a.name) m.attributes) && (each m.children).fits)))

abbrev pub made_attribute : MarkupAttributeLayer (Every Made) → Made
made_attribute a = record { fits = is_attribute (encode_utf8_all a.name.name) && a.value.fits; name = a.name.name }

abbrev pub making : Steps (Every Made)
making = record testing { expr_kind = made_expr_kind; markup = made_markup; markup_attribute = made_attribute }

abbrev pub StmtsAreMade : List Stmt → Type 0
StmtsAreMade = All (λ t. IsTrue (on_stmt making t).fits)

abbrev pub ExprsAreMade : List Expr → Type 0
ExprsAreMade = All (λ e. IsTrue (on_expr making e).fits)

pub record IsMadeTilde (t : Tilde) : Type 0 where
  pub body : StmtsAreMade t.body
  pub dollars : ExprsAreMade t.dollars

-- the items of a program, the code of its tildes and the expressions of their dollars
pub record IsMadeProgram (p : Program) : Type 0 where
  pub items : StmtsAreMade p.items
  pub tildes : All IsMadeTilde p.tildes
