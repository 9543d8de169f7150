-- The leaves of a tree in text order, and the tree that a list of leaves makes of the tree without them.
use Rattle.std.specs.Prelude.{ℕ, List, [], ◌∷◌, map, Option, None, Some, option_map}
use Rattle.mt_tree.specs.declared.data.Data.{Data}
use Rattle.mt_tree.specs.declared.data.Data as made
use Rattle.mt_syntax.specs.Fold.{Every, ExprKindLayer, ForStartLayer, MarkupChildLayer, MarkupValueLayer, StmtKindLayer, Steps, Tree}
use Rattle.mt_syntax.specs.Gathering.{all_of, gathering}
use Rattle.mt_syntax.specs.Sort.{Sort}
use Rattle.mt_syntax.specs.Sort as sort
use Rattle.mt_syntax.specs.declared.tree.Mark.{Mark}
use Rattle.mt_syntax.specs.declared.tree.ExprKind.{roll-ExprKind}
use Rattle.mt_syntax.specs.declared.tree.ForStart.{roll-ForStart}
use Rattle.mt_syntax.specs.declared.tree.MarkupChild.{roll-MarkupChild}
use Rattle.mt_syntax.specs.declared.tree.MarkupValue.{roll-MarkupValue}
use Rattle.mt_syntax.specs.declared.tree.StmtKind.{roll-StmtKind}
use Rattle.mt_syntax.specs.declared.tree.Decl.{roll-Decl}
use Rattle.mt_syntax.specs.declared.tree.Expr.{roll-Expr}
use Rattle.mt_syntax.specs.declared.tree.Function.{roll-Function}
use Rattle.mt_syntax.specs.declared.tree.Markup.{roll-Markup}
use Rattle.mt_syntax.specs.declared.tree.MarkupAttribute.{roll-MarkupAttribute}
use Rattle.mt_syntax.specs.declared.tree.Prop.{roll-Prop}
use Rattle.mt_syntax.specs.declared.tree.Stmt.{roll-Stmt}
use Rattle.mt_syntax.specs.declared.tree.ExprKind.TheOpen.{ExprKind-F, ForStart-F, MarkupChild-F, MarkupValue-F, StmtKind-F}

pub data Leaf : Type 0 where
  Name : List ℕ → Leaf
  Text : List ℕ → Leaf
  Value : Data → Leaf

-- ---- the leaves, in front of those behind

abbrev pub Leaves : Type 0
Leaves = List Leaf → List Leaf

abbrev pub no_leaves : Leaves
no_leaves ls = ls

abbrev pub then_leaves : Leaves → Leaves → Leaves
then_leaves f g ls = f (g ls)

abbrev pub name_leaf : List ℕ → Leaves
name_leaf cs ls = Leaf.Name cs ∷ ls

abbrev pub text_leaf : List ℕ → Leaves
text_leaf cs ls = Leaf.Text cs ∷ ls

abbrev pub leaves_of_name : Option Mark → Leaves
leaves_of_name None = no_leaves
leaves_of_name (Some m) = name_leaf m.name

abbrev pub leaves_of_marks : List Mark → Leaves
leaves_of_marks ms = all_of no_leaves then_leaves (map (λ m. name_leaf m.name) ms)

abbrev pub gathering_leaves : Steps (Every Leaves)
gathering_leaves = gathering no_leaves then_leaves

abbrev pub leaves_of_kind : ExprKindLayer (Every Leaves) → Leaves
leaves_of_kind (ExprKind-F.Name cs) = name_leaf cs
leaves_of_kind (ExprKind-F.ExprKind::Text cs) = text_leaf cs
leaves_of_kind (ExprKind-F.Val d) = λ ls. Leaf.Value d ∷ ls
leaves_of_kind layer = gathering_leaves.expr_kind layer

abbrev pub leaves_of_child : MarkupChildLayer (Every Leaves) → Leaves
leaves_of_child (MarkupChild-F.MarkupChild::Text cs) = text_leaf cs
leaves_of_child layer = gathering_leaves.markup_child layer

abbrev pub leaves_of_quoted : MarkupValueLayer (Every Leaves) → Leaves
leaves_of_quoted (MarkupValue-F.Quoted cs) = text_leaf cs
leaves_of_quoted layer = gathering_leaves.markup_value layer

abbrev pub leaves_of_stmt_kind : StmtKindLayer (Every Leaves) → Leaves
leaves_of_stmt_kind (StmtKind-F.Try body name handler) = then_leaves body (then_leaves (name_leaf name.name) handler)
leaves_of_stmt_kind layer = gathering_leaves.stmt_kind layer

abbrev pub leaving : Steps (Every Leaves)
leaving = record gathering_leaves {
  expr_kind = leaves_of_kind;
  markup_child = leaves_of_child;
  markup_value = leaves_of_quoted;
  stmt_kind = leaves_of_stmt_kind;
  decl = λ d. then_leaves (name_leaf d.name.name) (gathering_leaves.decl d);
  function = λ f. then_leaves (leaves_of_name f.name) (then_leaves (leaves_of_marks f.parameters) (gathering_leaves.function f));
  markup = λ m. then_leaves (name_leaf m.tag) (gathering_leaves.markup m);
  markup_attribute = λ a. then_leaves (name_leaf a.name.name) a.value;
  prop = λ p. then_leaves (text_leaf p.name) p.value;
}

-- ---- what takes leaves from the front of a list

abbrev pub Taking : Type 0 → Type 0
Taking X = List Leaf → X × List Leaf

abbrev pub take_name : Taking (List ℕ)
take_name (Leaf.Name cs ∷ ls) = (cs, ls)
take_name ls = ([], ls)

abbrev pub take_text : Taking (List ℕ)
take_text (Leaf.Text cs ∷ ls) = (cs, ls)
take_text ls = ([], ls)

abbrev pub take_value : Taking Data
take_value (Leaf.Value d ∷ ls) = (d, ls)
take_value ls = (made.Null, ls)

abbrev pub with_none : {T : Type 0} → T → Taking T
with_none make ls = (make, ls)

abbrev pub with_one : {X T : Type 0} → (X → T) → Taking X → Taking T
with_one make f ls = (make (f ls).0, (f ls).1)

abbrev pub with_two : {X Y T : Type 0} → (X → Y → T) → Taking X → Taking Y → Taking T
with_two make f g ls = (make (f ls).0 (g (f ls).1).0, (g (f ls).1).1)

abbrev pub with_three : {X Y Z T : Type 0} → (X → Y → Z → T) → Taking X → Taking Y → Taking Z → Taking T
with_three make f g h ls = (make (f ls).0 (g (f ls).1).0 (h (g (f ls).1).1).0, (h (g (f ls).1).1).1)

abbrev pub with_four : {W X Y Z T : Type 0} → (W → X → Y → Z → T) → Taking W → Taking X → Taking Y → Taking Z → Taking T
with_four make e f g h ls = with_three (make (e ls).0) f g h (e ls).1

abbrev pub in_turn : {X : Type 0} → List (Taking X) → Taking (List X)
in_turn [] = with_none []
in_turn (f ∷ fs) = with_two (λ x xs. x ∷ xs) f (in_turn fs)

abbrev pub if_any : {X : Type 0} → Option (Taking X) → Taking (Option X)
if_any None = with_none None
if_any (Some f) = with_one (λ x. Some x) f

-- a mark stays where it stands
abbrev pub take_mark : Mark → Taking Mark
take_mark m = with_one (λ cs. record { place = m.place; name = cs }) take_name

abbrev pub take_own : Option Mark → Taking (Option Mark)
take_own name = if_any (option_map take_mark name)

abbrev pub take_marks : List Mark → Taking (List Mark)
take_marks ms = in_turn (map take_mark ms)

-- ---- a tree is made again

abbrev pub Refilling : Sort → Type 0
Refilling s = Taking (Tree s)

abbrev pub refill_kind : ExprKindLayer Refilling → Refilling sort.ExprKind
refill_kind (ExprKind-F.Name cs) = with_one (λ x. roll-ExprKind (ExprKind-F.Name x)) take_name
refill_kind (ExprKind-F.ExprKind::Text cs) = with_one (λ x. roll-ExprKind (ExprKind-F.ExprKind::Text x)) take_text
refill_kind (ExprKind-F.Val d) = with_one (λ x. roll-ExprKind (ExprKind-F.Val x)) take_value
refill_kind (ExprKind-F.Num n) = with_none (roll-ExprKind (ExprKind-F.Num n))
refill_kind (ExprKind-F.Bool b) = with_none (roll-ExprKind (ExprKind-F.Bool b))
refill_kind ExprKind-F.Null = with_none (roll-ExprKind ExprKind-F.Null)
refill_kind ExprKind-F.Undefined = with_none (roll-ExprKind ExprKind-F.Undefined)
refill_kind (ExprKind-F.Arr items) = with_one (λ xs. roll-ExprKind (ExprKind-F.Arr xs)) (in_turn items)
refill_kind (ExprKind-F.Obj props) = with_one (λ xs. roll-ExprKind (ExprKind-F.Obj xs)) (in_turn props)
refill_kind (ExprKind-F.Fun function) = with_one (λ x. roll-ExprKind (ExprKind-F.Fun x)) function
refill_kind (ExprKind-F.Unary op a) = with_one (λ x. roll-ExprKind (ExprKind-F.Unary op x)) a
refill_kind (ExprKind-F.Step op a) = with_one (λ x. roll-ExprKind (ExprKind-F.Step op x)) a
refill_kind (ExprKind-F.Binary op a b) = with_two (λ x y. roll-ExprKind (ExprKind-F.Binary op x y)) a b
refill_kind (ExprKind-F.And a b) = with_two (λ x y. roll-ExprKind (ExprKind-F.And x y)) a b
refill_kind (ExprKind-F.Or a b) = with_two (λ x y. roll-ExprKind (ExprKind-F.Or x y)) a b
refill_kind (ExprKind-F.Cond a b c) = with_three (λ x y z. roll-ExprKind (ExprKind-F.Cond x y z)) a b c
refill_kind (ExprKind-F.Assign op a b) = with_two (λ x y. roll-ExprKind (ExprKind-F.Assign op x y)) a b
refill_kind (ExprKind-F.Index a b) = with_two (λ x y. roll-ExprKind (ExprKind-F.Index x y)) a b
refill_kind (ExprKind-F.Call a arguments) = with_two (λ x ys. roll-ExprKind (ExprKind-F.Call x ys)) a (in_turn arguments)
refill_kind (ExprKind-F.ExprKind::Tilde id) = with_none (roll-ExprKind (ExprKind-F.ExprKind::Tilde id))
refill_kind (ExprKind-F.ExprKind::Dollar at) = with_none (roll-ExprKind (ExprKind-F.ExprKind::Dollar at))
refill_kind (ExprKind-F.Stray a) = with_one (λ x. roll-ExprKind (ExprKind-F.Stray x)) a
refill_kind (ExprKind-F.Markup markup) = with_one (λ x. roll-ExprKind (ExprKind-F.Markup x)) markup

abbrev pub refill_start : ForStartLayer Refilling → Refilling sort.ForStart
refill_start ForStart-F.Absent = with_none (roll-ForStart ForStart-F.Absent)
refill_start (ForStart-F.ForStart::Var decls) = with_one (λ xs. roll-ForStart (ForStart-F.ForStart::Var xs)) (in_turn decls)
refill_start (ForStart-F.ForStart::Expr a) = with_one (λ x. roll-ForStart (ForStart-F.ForStart::Expr x)) a

abbrev pub refill_child : MarkupChildLayer Refilling → Refilling sort.MarkupChild
refill_child (MarkupChild-F.MarkupChild::Text cs) = with_one (λ x. roll-MarkupChild (MarkupChild-F.MarkupChild::Text x)) take_text
refill_child (MarkupChild-F.Direct a) = with_one (λ x. roll-MarkupChild (MarkupChild-F.Direct x)) a
refill_child (MarkupChild-F.MarkupChild::Dollar a) = with_one (λ x. roll-MarkupChild (MarkupChild-F.MarkupChild::Dollar x)) a

abbrev pub refill_quoted : MarkupValueLayer Refilling → Refilling sort.MarkupValue
refill_quoted (MarkupValue-F.Quoted cs) = with_one (λ x. roll-MarkupValue (MarkupValue-F.Quoted x)) take_text
refill_quoted (MarkupValue-F.MarkupValue::Tilde a) = with_one (λ x. roll-MarkupValue (MarkupValue-F.MarkupValue::Tilde x)) a
refill_quoted (MarkupValue-F.MarkupValue::Dollar a) = with_one (λ x. roll-MarkupValue (MarkupValue-F.MarkupValue::Dollar x)) a

abbrev pub refill_stmt_kind : StmtKindLayer Refilling → Refilling sort.StmtKind
refill_stmt_kind (StmtKind-F.StmtKind::Expr a) = with_one (λ x. roll-StmtKind (StmtKind-F.StmtKind::Expr x)) a
refill_stmt_kind (StmtKind-F.StmtKind::Var kind decls) = with_one (λ xs. roll-StmtKind (StmtKind-F.StmtKind::Var kind xs)) (in_turn decls)
refill_stmt_kind (StmtKind-F.Function function) = with_one (λ x. roll-StmtKind (StmtKind-F.Function x)) function
refill_stmt_kind (StmtKind-F.Service function) = with_one (λ x. roll-StmtKind (StmtKind-F.Service x)) function
refill_stmt_kind (StmtKind-F.If test body other) = with_three (λ x y z. roll-StmtKind (StmtKind-F.If x y z)) test body (if_any other)
refill_stmt_kind (StmtKind-F.While test body) = with_two (λ x y. roll-StmtKind (StmtKind-F.While x y)) test body
refill_stmt_kind (StmtKind-F.For start test step body) = with_four (λ w x y z. roll-StmtKind (StmtKind-F.For w x y z)) start (if_any test) (if_any step) body
refill_stmt_kind (StmtKind-F.Return value) = with_one (λ x. roll-StmtKind (StmtKind-F.Return x)) (if_any value)
refill_stmt_kind StmtKind-F.Break = with_none (roll-StmtKind StmtKind-F.Break)
refill_stmt_kind StmtKind-F.Continue = with_none (roll-StmtKind StmtKind-F.Continue)
refill_stmt_kind (StmtKind-F.Throw a) = with_one (λ x. roll-StmtKind (StmtKind-F.Throw x)) a
refill_stmt_kind (StmtKind-F.Try body name handler) = with_three (λ x y z. roll-StmtKind (StmtKind-F.Try x y z)) body (take_mark name) handler
refill_stmt_kind (StmtKind-F.Block items) = with_one (λ xs. roll-StmtKind (StmtKind-F.Block xs)) (in_turn items)
refill_stmt_kind StmtKind-F.Empty = with_none (roll-StmtKind StmtKind-F.Empty)

abbrev pub refilling : Steps Refilling
refilling = record {
  expr_kind = refill_kind;
  for_start = refill_start;
  markup_child = refill_child;
  markup_value = refill_quoted;
  stmt_kind = refill_stmt_kind;
  decl = λ d. with_two (λ x y. roll-Decl (record { name = x; value = y })) (take_mark d.name) (if_any d.value);
  expr = λ e. with_one (λ x. roll-Expr (record { place = e.place; kind = x })) e.kind;
  function = λ f. with_three (λ x ys zs. roll-Function (record { name = x; parameters = ys; body = zs })) (take_own f.name) (take_marks f.parameters) (in_turn f.body);
  markup = λ m. with_three (λ x ys zs. roll-Markup (record { tag = x; attributes = ys; children = zs })) take_name (in_turn m.attributes) (in_turn m.children);
  markup_attribute = λ a. with_two (λ x y. roll-MarkupAttribute (record { name = x; value = y })) (take_mark a.name) a.value;
  prop = λ p. with_two (λ x y. roll-Prop (record { name = x; value = y })) take_text p.value;
  stmt = λ s. with_one (λ x. roll-Stmt (record { place = s.place; kind = x })) s.kind;
}
