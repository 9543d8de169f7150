-- Which trees have the form that the grammar gives, whatever stands where a tilde, a dollar or a value does, and wherever
-- their nodes stand in a source.
use Rattle.std.specs.Prelude.{ℕ, Bool, true, false, not, ◌&&◌, ◌==◌, ◌^◌, nat_lt, ℤ, pos, negsuc, List, [], ◌∷◌, Option, None, Some}
use Rattle.std.specs.List.{list_all}
use Rattle.std.specs.Str.{all_scalars, encode_utf8_all}
use Rattle.mt_tree.specs.Tables.{is_void_tag}
use Rattle.mt_syntax.specs.Names.{is_name, is_tag_name, is_attribute_name}
use Rattle.mt_syntax.specs.Fold.{Every, ExprKindLayer, ForStartLayer, MarkupChildLayer, MarkupValueLayer, StmtKindLayer, DeclLayer, FunctionLayer, MarkupLayer, Steps, on_expr, on_stmt}
use Rattle.mt_syntax.specs.declared.tree.Mark.{Mark}
use Rattle.mt_tree.specs.declared.operators.Binary.{Binary}
use Rattle.mt_tree.specs.declared.operators.Binary.TheVariants as binary
use Rattle.mt_tree.specs.declared.operators.VarKind.{VarKind}
use Rattle.mt_tree.specs.declared.operators.VarKind.TheVariants as word
use Rattle.mt_syntax.specs.declared.tree.Expr.{Expr}
use Rattle.mt_syntax.specs.declared.tree.Stmt.{Stmt}
use Rattle.mt_syntax.specs.declared.tree.ExprKind.TheOpen.{ExprKind-F, ForStart-F, MarkupChild-F, MarkupValue-F, StmtKind-F}

-- what a node has to know of a part
pub data Look : Type 0 where
  Target : Look  -- a name or an `Index`
  Tilde : Look
  Element : Look
  Block : Look
  Declaration : Look  -- of a function or a service
  Valued : Look  -- a name that is declared with a value
  Named : Look  -- a function with a name
  Characters : Look  -- a text of an element
  Other : Look

abbrev pub is_target : Look → Bool
is_target Look.Target = true
is_target _ = false

abbrev pub is_tilde : Look → Bool
is_tilde Look.Tilde = true
is_tilde _ = false

abbrev pub is_direct : Look → Bool
is_direct Look.Tilde = true
is_direct Look.Element = true
is_direct _ = false

abbrev pub is_block : Look → Bool
is_block Look.Block = true
is_block _ = false

abbrev pub is_statement : Look → Bool
is_statement Look.Declaration = false
is_statement _ = true

abbrev pub is_valued : Look → Bool
is_valued Look.Valued = true
is_valued _ = false

abbrev pub is_named : Look → Bool
is_named Look.Named = true
is_named _ = false

abbrev pub is_text : Look → Bool
is_text Look.Characters = true
is_text _ = false

-- what a part looks like, and whether it has the form
pub record Part : Type 0 where
  pub look : Look
  pub fits : Bool

abbrev pub part : Look → Bool → Part
part look fits = record { look = look; fits = fits }

abbrev pub all_fit : List Part → Bool
all_fit = list_all (λ p. p.fits)

abbrev pub optional_fits : Option Part → Bool
optional_fits None = true
optional_fits (Some p) = p.fits

abbrev pub block_fits : Part → Bool
block_fits p = is_block p.look && p.fits

abbrev pub optional_block_fits : Option Part → Bool
optional_block_fits None = true
optional_block_fits (Some p) = block_fits p

abbrev pub target_fits : Part → Bool
target_fits p = is_target p.look && p.fits

abbrev pub is_some_item : {X : Type 0} → List X → Bool
is_some_item [] = false
is_some_item (x ∷ xs) = true

-- numbers of a source have no sign
abbrev pub is_number : ℤ → Bool
is_number (pos n) = nat_lt n (2 ^ 53)
is_number (negsuc n) = false

-- `=`, `+=`, `-=`, `*=`, `/=` or `%=`
abbrev pub is_assignment : Option Binary → Bool
is_assignment None = true
is_assignment (Some binary.Add) = true
is_assignment (Some binary.Sub) = true
is_assignment (Some binary.Mul) = true
is_assignment (Some binary.Div) = true
is_assignment (Some binary.Rem) = true
is_assignment (Some _) = false

-- a declaration declares something, and one by `const` gives each name a value
abbrev pub decls_fit : VarKind → List Part → Bool
decls_fit word.Const decls = is_some_item decls && list_all (λ d. is_valued d.look && d.fits) decls
decls_fit _ decls = is_some_item decls && all_fit decls

abbrev pub mark_fits : Mark → Bool
mark_fits m = is_name m.name

-- whether the list begins with these two
abbrev pub opens_with : ℕ → ℕ → List ℕ → Bool
opens_with a b (c ∷ d ∷ cs) = (c == a) && (d == b)
opens_with a b _ = false

-- neither a dollar nor a tilde opens in the text
abbrev pub opens_none : List ℕ → Bool
opens_none [] = true
opens_none (c ∷ cs) = not (opens_with 36 123 (c ∷ cs)) && not (opens_with 126 123 (c ∷ cs)) && opens_none cs

-- a text reaches up to the next element, tilde or dollar, so none stands beside another
abbrev pub texts_apart : List Part → Bool
texts_apart (p ∷ q ∷ ps) = not (is_text p.look && is_text q.look) && texts_apart (q ∷ ps)
texts_apart _ = true

abbrev pub expr_kind_part : ExprKindLayer (Every Part) → Part
expr_kind_part (ExprKind-F.Name cs) = part Look.Target (is_name cs)
expr_kind_part (ExprKind-F.Num n) = part Look.Other (is_number n)
expr_kind_part (ExprKind-F.ExprKind::Text cs) = part Look.Other (all_scalars cs)
expr_kind_part (ExprKind-F.Arr items) = part Look.Other (all_fit items)
expr_kind_part (ExprKind-F.Obj props) = part Look.Other (all_fit props)
expr_kind_part (ExprKind-F.Fun function) = part Look.Other function.fits
expr_kind_part (ExprKind-F.Unary op a) = part Look.Other a.fits
expr_kind_part (ExprKind-F.Step op a) = part Look.Other (target_fits a)
expr_kind_part (ExprKind-F.Binary op a b) = part Look.Other (a.fits && b.fits)
expr_kind_part (ExprKind-F.And a b) = part Look.Other (a.fits && b.fits)
expr_kind_part (ExprKind-F.Or a b) = part Look.Other (a.fits && b.fits)
expr_kind_part (ExprKind-F.Cond a b c) = part Look.Other (a.fits && b.fits && c.fits)
expr_kind_part (ExprKind-F.Assign op a b) = part Look.Other (is_assignment op && target_fits a && b.fits)
expr_kind_part (ExprKind-F.Index a b) = part Look.Target (a.fits && b.fits)
expr_kind_part (ExprKind-F.Call a arguments) = part Look.Other (a.fits && all_fit arguments)
expr_kind_part (ExprKind-F.ExprKind::Tilde id) = part Look.Tilde true
expr_kind_part (ExprKind-F.Stray a) = part Look.Other a.fits
expr_kind_part (ExprKind-F.Markup markup) = part Look.Element markup.fits
expr_kind_part _ = part Look.Other true

abbrev pub for_start_part : ForStartLayer (Every Part) → Part
for_start_part ForStart-F.Absent = part Look.Other true
for_start_part (ForStart-F.ForStart::Var decls) = part Look.Other (decls_fit word.Var decls)
for_start_part (ForStart-F.ForStart::Expr a) = part Look.Other a.fits

abbrev pub markup_child_part : MarkupChildLayer (Every Part) → Part
markup_child_part (MarkupChild-F.MarkupChild::Text cs) = part Look.Characters (is_some_item cs && all_scalars cs && opens_none cs)
markup_child_part (MarkupChild-F.Direct a) = part Look.Other (is_direct a.look && a.fits)
markup_child_part (MarkupChild-F.MarkupChild::Dollar a) = part Look.Other a.fits

abbrev pub markup_value_part : MarkupValueLayer (Every Part) → Part
markup_value_part (MarkupValue-F.Quoted cs) = part Look.Other (all_scalars cs)
markup_value_part (MarkupValue-F.MarkupValue::Tilde a) = part Look.Other (is_tilde a.look && a.fits)
markup_value_part (MarkupValue-F.MarkupValue::Dollar a) = part Look.Other a.fits

abbrev pub stmt_kind_part : StmtKindLayer (Every Part) → Part
stmt_kind_part (StmtKind-F.StmtKind::Expr a) = part Look.Other a.fits
stmt_kind_part (StmtKind-F.StmtKind::Var kind decls) = part Look.Other (decls_fit kind decls)
stmt_kind_part (StmtKind-F.Function function) = part Look.Declaration (is_named function.look && function.fits)
stmt_kind_part (StmtKind-F.Service function) = part Look.Declaration (is_named function.look && function.fits)
stmt_kind_part (StmtKind-F.If test body other) = part Look.Other (test.fits && block_fits body && optional_block_fits other)
stmt_kind_part (StmtKind-F.While test body) = part Look.Other (test.fits && block_fits body)
stmt_kind_part (StmtKind-F.For start test step body) = part Look.Other (start.fits && optional_fits test && optional_fits step && block_fits body)
stmt_kind_part (StmtKind-F.Return value) = part Look.Other (optional_fits value)
stmt_kind_part StmtKind-F.Break = part Look.Other true
stmt_kind_part StmtKind-F.Continue = part Look.Other true
stmt_kind_part (StmtKind-F.Throw a) = part Look.Other a.fits
stmt_kind_part (StmtKind-F.Try body name handler) = part Look.Other (block_fits body && mark_fits name && block_fits handler)
stmt_kind_part (StmtKind-F.Block items) = part Look.Block (list_all (λ s. is_statement s.look && s.fits) items)
stmt_kind_part StmtKind-F.Empty = part Look.Other true

abbrev pub decl_part : DeclLayer (Every Part) → Part
decl_part d = part (value_look d.value) (mark_fits d.name && optional_fits d.value)
  where
    value_look : Option Part → Look
    value_look None = Look.Other
    value_look (Some p) = Look.Valued

abbrev pub function_part : FunctionLayer (Every Part) → Part
function_part f = part (name_look f.name) (name_fits f.name && list_all mark_fits f.parameters && all_fit f.body)
  where
    name_look : Option Mark → Look
    name_look None = Look.Other
    name_look (Some m) = Look.Named

    name_fits : Option Mark → Bool
    name_fits None = true
    name_fits (Some m) = mark_fits m

-- an element whose tag is void has no children
abbrev pub markup_part : MarkupLayer (Every Part) → Part
markup_part m =
    part Look.Other (is_tag_name m.tag && all_fit m.attributes && all_fit m.children && texts_apart m.children && not (is_void_tag (encode_utf8_all m.tag) && is_some_item m.children))

abbrev pub shaping : Steps (Every Part)
shaping = record {
  expr_kind = expr_kind_part;
  for_start = for_start_part;
  markup_child = markup_child_part;
  markup_value = markup_value_part;
  stmt_kind = stmt_kind_part;
  decl = decl_part;
  expr = λ e. e.kind;
  function = function_part;
  markup = markup_part;
  markup_attribute = λ a. part Look.Other (is_attribute_name a.name.name && a.value.fits);
  prop = λ p. part Look.Other (all_scalars p.name && p.value.fits);
  stmt = λ s. s.kind;
}

abbrev pub is_shaped_expr : Expr → Bool
is_shaped_expr e = (on_expr shaping e).fits

abbrev pub is_shaped_stmt : Stmt → Bool
is_shaped_stmt s = (on_stmt shaping s).fits

-- a list of items: at the top of a file, or the body of a function, a service or a tilde
abbrev pub is_shaped : List Stmt → Bool
is_shaped = list_all is_shaped_stmt
