-- How long the texts of a tree are, in units of UTF-16: of its names, keys and literals, its tags and attributes.
use Rattle.std.specs.Prelude.{ℕ, max, map, List, Option, None, Some}
use Rattle.mt_tree.specs.Text.{units_of}
use Rattle.mt_syntax.specs.Fold.{Every, ExprKindLayer, MarkupChildLayer, MarkupValueLayer, StmtKindLayer, Steps, on_expr, on_stmt}
use Rattle.mt_syntax.specs.Gathering.{gathering}
use Rattle.mt_syntax.specs.Depth.{greatest}
use Rattle.mt_syntax.specs.declared.program.Program.{Program}
use Rattle.mt_syntax.specs.declared.program.Tilde.{Tilde}
use Rattle.mt_syntax.specs.declared.tree.Mark.{Mark}
use Rattle.mt_syntax.specs.declared.tree.Stmt.{Stmt}
use Rattle.mt_syntax.specs.declared.tree.ExprKind.TheOpen.{ExprKind-F, MarkupChild-F, MarkupValue-F, StmtKind-F}

-- the longest of what the parts have
abbrev pub comparing : Steps (Every ℕ)
comparing = gathering 0 max

abbrev pub length_of_name : Mark → ℕ
length_of_name m = units_of m.name

abbrev pub length_of_own_name : Option Mark → ℕ
length_of_own_name None = 0
length_of_own_name (Some m) = length_of_name m

abbrev pub longest_in_expr_kind : ExprKindLayer (Every ℕ) → ℕ
longest_in_expr_kind (ExprKind-F.Name name) = units_of name
longest_in_expr_kind (ExprKind-F.ExprKind::Text text) = units_of text
longest_in_expr_kind layer = comparing.expr_kind layer

abbrev pub longest_in_markup_child : MarkupChildLayer (Every ℕ) → ℕ
longest_in_markup_child (MarkupChild-F.MarkupChild::Text text) = units_of text
longest_in_markup_child layer = comparing.markup_child layer

abbrev pub longest_in_markup_value : MarkupValueLayer (Every ℕ) → ℕ
longest_in_markup_value (MarkupValue-F.Quoted text) = units_of text
longest_in_markup_value layer = comparing.markup_value layer

abbrev pub longest_in_stmt_kind : StmtKindLayer (Every ℕ) → ℕ
longest_in_stmt_kind (StmtKind-F.Try body name handler) = max (length_of_name name) (max body handler)
longest_in_stmt_kind layer = comparing.stmt_kind layer

abbrev pub measuring_texts : Steps (Every ℕ)
measuring_texts = record comparing {
  expr_kind = longest_in_expr_kind;
  markup_child = longest_in_markup_child;
  markup_value = longest_in_markup_value;
  stmt_kind = longest_in_stmt_kind;
  decl = λ d. max (length_of_name d.name) (comparing.decl d);
  function = λ f. max (length_of_own_name f.name) (max (greatest (map length_of_name f.parameters)) (comparing.function f));
  markup = λ m. max (units_of m.tag) (comparing.markup m);
  markup_attribute = λ a. max (length_of_name a.name) a.value;
  prop = λ p. max (units_of p.name) p.value;
}

abbrev pub longest_in_tilde : Tilde → ℕ
longest_in_tilde t = max (greatest (map (on_stmt measuring_texts) t.body)) (greatest (map (on_expr measuring_texts) t.dollars))

-- the length of the longest text of a program, its tildes and their dollars included
abbrev pub longest_text : Program → ℕ
longest_text p = max (greatest (map (on_stmt measuring_texts) p.items)) (greatest (map longest_in_tilde p.tildes))

-- the length of the longest text in code
abbrev pub longest_in : List Stmt → ℕ
longest_in body = greatest (map (on_stmt measuring_texts) body)
