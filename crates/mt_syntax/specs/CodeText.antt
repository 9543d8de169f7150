-- The text of client code, in bytes of UTF-8. Each value stands in it as a literal of its tagged JSON, so no value is read as code;
-- a `<` stands only before a space or `=`. Nodes that no code has (tildes, dollars, elements, services) have no text.
use Rattle.std.specs.Prelude.{ℕ, ◌/◌, ◌%◌, ◌==◌, ◌||◌, nat_lt, if◌then◌else◌, List, [], ◌∷◌, ◌++◌, Option, None, Some, map, flat_map, encode_utf8, encode_utf8_all, codes, Bool}
use Rattle.std.specs.Char.{digit_char}
use Rattle.std.specs.Str.{chars}
use Rattle.std.specs.Fmt.{signed_decimal}
use Rattle.mt_syntax.specs.DataText.{separated, truth_text, data_text}
use Rattle.mt_syntax.specs.Fold.{Every, ExprKindLayer, ForStartLayer, StmtKindLayer, DeclLayer, FunctionLayer, PropLayer, Steps, on_expr_kind, on_for_start, on_stmt_kind, on_decl, on_expr, on_function, on_prop, on_stmt}
use Rattle.mt_syntax.specs.declared.tree.Mark.{Mark}
use Rattle.mt_tree.specs.declared.operators.Unary.{Unary}
use Rattle.mt_tree.specs.declared.operators.Unary.TheVariants as unary
use Rattle.mt_tree.specs.declared.operators.Binary.{Binary}
use Rattle.mt_tree.specs.declared.operators.Binary.TheVariants as binary
use Rattle.mt_tree.specs.declared.operators.StepKind.{StepKind}
use Rattle.mt_tree.specs.declared.operators.StepKind.TheVariants as steps
use Rattle.mt_tree.specs.declared.operators.VarKind.{VarKind}
use Rattle.mt_tree.specs.declared.operators.VarKind.TheVariants as word
use Rattle.mt_syntax.specs.declared.tree.Expr.{Expr}
use Rattle.mt_syntax.specs.declared.tree.ExprKind.{ExprKind}
use Rattle.mt_syntax.specs.declared.tree.StmtKind.{StmtKind}
use Rattle.mt_syntax.specs.declared.tree.Stmt.{Stmt}
use Rattle.mt_syntax.specs.declared.tree.Decl.{Decl}
use Rattle.mt_syntax.specs.declared.tree.Function.{Function}
use Rattle.mt_syntax.specs.declared.tree.Prop.{Prop}
use Rattle.mt_syntax.specs.declared.tree.ForStart.{ForStart}
use Rattle.mt_syntax.specs.declared.tree.ExprKind.TheOpen.{ExprKind-F, ForStart-F, StmtKind-F}

-- four lower-case hexadecimal digits
abbrev pub four_digits : ℕ → List ℕ
four_digits c = digit_char (c / 4096) ∷ digit_char (c / 256 % 16) ∷ digit_char (c / 16 % 16) ∷ digit_char (c % 16) ∷ []

-- whether the character could end a script, an attribute or a line
abbrev pub is_escaped : ℕ → Bool
is_escaped c = (c == 60) || ((c == 62) || ((c == 38) || ((c == 8232) || ((c == 8233) || nat_lt c 32))))

unfoldable pub code_escaped : ℕ → List ℕ
code_escaped c =
    if (c == 34) || (c == 92) then 92 ∷ c ∷ [] else
    if is_escaped c then 92 ∷ 117 ∷ four_digits c else
    encode_utf8 c

abbrev pub literal : List ℕ → List ℕ
literal cs = 34 ∷ (flat_map code_escaped cs ++ 34 ∷ [])

abbrev pub unary_text : Unary → List ℕ
unary_text unary.Not = codes "!"
unary_text unary.Minus = codes "-"
unary_text unary.Plus = codes "+"
unary_text unary.Typeof = codes "typeof "

abbrev pub binary_text : Binary → List ℕ
binary_text binary.Add = codes "+"
binary_text binary.Sub = codes "-"
binary_text binary.Mul = codes "*"
binary_text binary.Div = codes "/"
binary_text binary.Rem = codes "%"
binary_text binary.Less = codes "<"
binary_text binary.LessEqual = codes "<="
binary_text binary.Greater = codes ">"
binary_text binary.GreaterEqual = codes ">="
binary_text binary.Same = codes "==="
binary_text binary.Different = codes "!=="

abbrev pub assign_text : Option Binary → List ℕ
assign_text None = codes "="
assign_text (Some op) = binary_text op ++ codes "="

abbrev pub step_text : StepKind → List ℕ → List ℕ
step_text steps.IncBefore t = codes "(++" ++ (t ++ codes ")")
step_text steps.DecBefore t = codes "(--" ++ (t ++ codes ")")
step_text steps.IncAfter t = codes "(" ++ (t ++ codes "++)")
step_text steps.DecAfter t = codes "(" ++ (t ++ codes "--)")

abbrev pub var_text : VarKind → List ℕ
var_text word.Var = codes "var "
var_text word.Let = codes "let "
var_text word.Const = codes "const "

abbrev pub between : List ℕ → List ℕ → List ℕ → List ℕ
between a op b = codes "(" ++ (a ++ (32 ∷ (op ++ (32 ∷ (b ++ codes ")")))))

abbrev pub name_text : Mark → List ℕ
name_text m = encode_utf8_all m.name

abbrev pub or_nothing : Option (List ℕ) → List ℕ
or_nothing None = []
or_nothing (Some t) = t

-- a space and the name, where there is one
abbrev pub named : Option Mark → List ℕ
named None = []
named (Some m) = 32 ∷ name_text m

abbrev pub with_else : Option (List ℕ) → List ℕ
with_else None = []
with_else (Some t) = codes "else" ++ t

abbrev pub with_value : Option (List ℕ) → List ℕ
with_value None = []
with_value (Some t) = 61 ∷ t

abbrev pub after_return : Option (List ℕ) → List ℕ
after_return None = codes ";"
after_return (Some t) = 32 ∷ (t ++ codes ";")

abbrev pub block : List (List ℕ) → List ℕ
block ts = codes "{" ++ (flat_map (λ t. t) ts ++ codes "}")

abbrev pub value_text : List ℕ → List ℕ
value_text json = codes "$v(" ++ (literal (chars json) ++ codes ")")

abbrev pub expr_kind_code : ExprKindLayer (Every (List ℕ)) → List ℕ
expr_kind_code (ExprKind-F.Name cs) = encode_utf8_all cs
expr_kind_code (ExprKind-F.Num n) = signed_decimal n
expr_kind_code (ExprKind-F.ExprKind::Text cs) = literal cs
expr_kind_code (ExprKind-F.Bool b) = truth_text b
expr_kind_code ExprKind-F.Null = codes "null"
expr_kind_code ExprKind-F.Undefined = codes "undefined"
expr_kind_code (ExprKind-F.Arr items) = codes "[" ++ (separated items ++ codes "]")
expr_kind_code (ExprKind-F.Obj props) = codes "({" ++ (separated props ++ codes "})")
expr_kind_code (ExprKind-F.Fun function) = codes "(function" ++ (function ++ codes ")")
expr_kind_code (ExprKind-F.Unary op a) = codes "(" ++ (unary_text op ++ (a ++ codes ")"))
expr_kind_code (ExprKind-F.Step op a) = step_text op a
expr_kind_code (ExprKind-F.Binary op a b) = between a (binary_text op) b
expr_kind_code (ExprKind-F.And a b) = between a (codes "&&") b
expr_kind_code (ExprKind-F.Or a b) = between a (codes "||") b
expr_kind_code (ExprKind-F.Cond a b c) = codes "(" ++ (a ++ (codes " ? " ++ (b ++ (codes " : " ++ (c ++ codes ")")))))
expr_kind_code (ExprKind-F.Assign op a b) = between a (assign_text op) b
expr_kind_code (ExprKind-F.Index a b) = a ++ (codes "[" ++ (b ++ codes "]"))
expr_kind_code (ExprKind-F.Call a arguments) = a ++ (codes "(" ++ (separated arguments ++ codes ")"))
expr_kind_code (ExprKind-F.Val d) = value_text (data_text d)
expr_kind_code _ = []

abbrev pub for_start_code : ForStartLayer (Every (List ℕ)) → List ℕ
for_start_code ForStart-F.Absent = []
for_start_code (ForStart-F.ForStart::Var decls) = codes "var " ++ separated decls
for_start_code (ForStart-F.ForStart::Expr a) = a

abbrev pub stmt_kind_code : StmtKindLayer (Every (List ℕ)) → List ℕ
stmt_kind_code (StmtKind-F.StmtKind::Expr a) = a ++ codes ";"
stmt_kind_code (StmtKind-F.StmtKind::Var kind decls) = var_text kind ++ (separated decls ++ codes ";")
stmt_kind_code (StmtKind-F.Function function) = codes "function" ++ function
stmt_kind_code (StmtKind-F.If test body other) = codes "if(" ++ (test ++ (codes ")" ++ (body ++ with_else other)))
stmt_kind_code (StmtKind-F.While test body) = codes "while(" ++ (test ++ (codes ")" ++ body))
stmt_kind_code (StmtKind-F.For start test step body) = codes "for(" ++ (start ++ (codes ";" ++ (or_nothing test ++ (codes ";" ++ (or_nothing step ++ (codes ")" ++ body))))))
stmt_kind_code (StmtKind-F.Return value) = codes "return" ++ after_return value
stmt_kind_code StmtKind-F.Break = codes "break;"
stmt_kind_code StmtKind-F.Continue = codes "continue;"
stmt_kind_code (StmtKind-F.Throw a) = codes "throw " ++ (a ++ codes ";")
stmt_kind_code (StmtKind-F.Try body name handler) = codes "try" ++ (body ++ (codes "catch(" ++ (name_text name ++ (codes ")" ++ handler))))
stmt_kind_code (StmtKind-F.Block items) = block items
stmt_kind_code StmtKind-F.Empty = codes ";"
stmt_kind_code (StmtKind-F.Service function) = []

abbrev pub decl_code : DeclLayer (Every (List ℕ)) → List ℕ
decl_code d = name_text d.name ++ with_value d.value

-- behind the word `function`
abbrev pub function_code : FunctionLayer (Every (List ℕ)) → List ℕ
function_code f = named f.name ++ (codes "(" ++ (separated (map name_text f.parameters) ++ (codes ")" ++ block f.body)))

abbrev pub prop_code : PropLayer (Every (List ℕ)) → List ℕ
prop_code p = literal p.name ++ (codes ":" ++ p.value)

abbrev pub writing_code : Steps (Every (List ℕ))
writing_code = record {
  expr_kind = expr_kind_code;
  for_start = for_start_code;
  markup_child = λ c. [];
  markup_value = λ v. [];
  stmt_kind = stmt_kind_code;
  decl = decl_code;
  expr = λ e. e.kind;
  function = function_code;
  markup = λ m. [];
  markup_attribute = λ a. [];
  prop = prop_code;
  stmt = λ s. s.kind;
}

abbrev pub expr_text : Expr → List ℕ
expr_text = on_expr writing_code

abbrev pub expr_kind_text : ExprKind → List ℕ
expr_kind_text = on_expr_kind writing_code

abbrev pub stmt_kind_text : StmtKind → List ℕ
stmt_kind_text = on_stmt_kind writing_code

abbrev pub stmt_text : Stmt → List ℕ
stmt_text = on_stmt writing_code

abbrev pub decl_text : Decl → List ℕ
decl_text = on_decl writing_code

-- behind the word `function`
abbrev pub function_text : Function → List ℕ
function_text = on_function writing_code

abbrev pub prop_text : Prop → List ℕ
prop_text = on_prop writing_code

abbrev pub for_start_text : ForStart → List ℕ
for_start_text = on_for_start writing_code

-- the text of code: its statements' texts in order
abbrev pub code_text : List Stmt → List ℕ
code_text = flat_map stmt_text
