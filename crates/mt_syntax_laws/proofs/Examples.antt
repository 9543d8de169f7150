-- What the definitions give on small trees.
use Rattle.std.proofs.Common.{◌≡◌, refl, List, [], ◌∷◌, Option, None, Some, pos, rules, true, false}
use Rattle.std.specs.Prelude.{codes, ℕ}
use lib.Utf8
use Rattle.std.specs.Str as texts
use Rattle.mt_tree.specs.declared.data.Data.TheVariants as «data»
use Rattle.mt_tree.specs.declared.data.Data.TheFolds as data_folds
use Rattle.mt_tree.specs.declared.data.Entry.{roll-Entry}
use Rattle.mt_tree.specs.declared.html.Html.{roll-Html}
use Rattle.mt_tree.specs.declared.html.Element.{roll-Element}
use Rattle.mt_tree.specs.declared.html.AttributeValue.TheVariants.{Plain}
use Rattle.mt_tree.specs.declared.html.Html.TheOpen.{Html-F}
use Rattle.mt_tree.specs.declared.html.Html.TheFolds as html_folds
use Rattle.mt_syntax.specs.declared.tree.ExprKind.TheFolds as folds
use Rattle.mt_syntax.specs.declared.tree.ExprKind.{roll-ExprKind}
use Rattle.mt_syntax.specs.declared.tree.StmtKind.{roll-StmtKind}
use Rattle.mt_syntax.specs.declared.tree.ForStart.{roll-ForStart}
use Rattle.mt_syntax.specs.declared.tree.Expr.{Expr, roll-Expr}
use Rattle.mt_syntax.specs.declared.tree.Stmt.{Stmt, roll-Stmt}
use Rattle.mt_syntax.specs.declared.tree.Function.{roll-Function}
use Rattle.mt_syntax.specs.declared.tree.Decl.{Decl, roll-Decl}
use Rattle.mt_syntax.specs.declared.tree.Markup.{roll-Markup}
use Rattle.mt_syntax.specs.declared.tree.MarkupChild.{MarkupChild, roll-MarkupChild}
use Rattle.mt_syntax.specs.declared.tree.Mark.{Mark}
use Rattle.mt_tree.specs.declared.operators.VarKind.TheVariants as word
use Rattle.mt_tree.specs.declared.operators.Binary.TheVariants as binary
use Rattle.mt_tree.specs.declared.operators.StepKind.TheVariants as steps
use Rattle.mt_syntax.specs.declared.tree.ExprKind.TheOpen.{ExprKind-F, StmtKind-F, ForStart-F, MarkupChild-F}
use Rattle.mt_syntax.specs.declared.program.Code.{Code}
use Rattle.mt_syntax.specs.declared.program.Program.{Program}
use Rattle.mt_syntax.specs.Fold.{ExprKindLayer, StmtKindLayer, Tree}
use Rattle.mt_syntax.specs.Substitution.{nowhere}
use Rattle.mt_syntax.specs.Names as names
use Rattle.mt_syntax.specs.Data.{is_data}
use Rattle.mt_syntax.specs.DataText as data_texts
use Rattle.mt_syntax.specs.DataText.{data_text, json_text}
use Rattle.mt_syntax.specs.CodeText as code_texts
use Rattle.mt_syntax.specs.CodeText.{literal, code_text}
use Rattle.mt_syntax.specs.PageText as page_texts
use Rattle.mt_syntax.specs.PageText.{page_text}
use Rattle.mt_syntax.specs.Depth.{depth_of, depth_of_program}
use Rattle.mt_syntax.specs.Numbering.{tildes_of}
use Rattle.mt_syntax.specs.Shape.{is_shaped}
use Rattle.mt_syntax.specs.Tiers.{is_client_code, is_server_code}

abbrev expr : ExprKindLayer Tree → Expr
expr kind = roll-Expr (record { place = nowhere; kind = roll-ExprKind kind })

abbrev stmt : StmtKindLayer Tree → Stmt
stmt kind = roll-Stmt (record { place = nowhere; kind = roll-StmtKind kind })

abbrev mark : List ℕ → Mark
mark n = record { place = nowhere; name = n }

abbrev name : List ℕ → Expr
name n = expr (ExprKind-F.Name n)

abbrev number : ℕ → Expr
number n = expr (ExprKind-F.Num (pos n))

abbrev block : List Stmt → Stmt
block items = stmt (StmtKind-F.Block items)

abbrev just : Expr → List Stmt
just e = stmt (StmtKind-F.StmtKind::Expr e) ∷ []

abbrev decl : List ℕ → Option Expr → Decl
decl n value = roll-Decl (record { name = mark n; value = value })

abbrev a : Expr
a = name (codes "a")

abbrev b : Expr
b = name (codes "b")

-- ---- data

json_escapes : json_text (codes "a\"b\\\t") ≡ codes "\"a\\\"b\\\\\\t\""
unfolding data_texts.escaped lib.Utf8.encode
json_escapes = refl

array_text : data_text («data».Arr («data».Null ∷ «data».Undefined ∷ «data».Bool true ∷ [])) ≡ codes "[null,{\"u\":0},true]"
array_text = search (rules, data_folds.the_lemmas)

object_text : data_text («data».Obj (roll-Entry (record { name = codes "k"; value = «data».Null }) ∷ [])) ≡ codes "{\"o\":[[\"k\",null]]}"
unfolding data_texts.escaped lib.Utf8.encode
object_text = search (rules, data_folds.the_lemmas)

service_text : data_text («data».Svc (codes "f")) ≡ codes "{\"s\":\"f\"}"
unfolding data_texts.escaped lib.Utf8.encode
service_text = search (rules, data_folds.the_lemmas)

whole_number_as_name : is_data («data».Obj (roll-Entry (record { name = codes "10"; value = «data».Null }) ∷ [])) ≡ false
whole_number_as_name = search (rules, data_folds.the_lemmas)

one_name_twice : is_data («data».Obj (roll-Entry (record { name = codes "k"; value = «data».Null }) ∷ roll-Entry (record { name = codes "k"; value = «data».Null }) ∷ [])) ≡ false
one_name_twice = search (rules, data_folds.the_lemmas)

-- ---- code

script_escapes : literal (codes "\"</script>&\"") ≡ codes "\"\\\"\\u003c/script\\u003e\\u0026\\\"\""
unfolding code_texts.code_escaped lib.Utf8.encode
script_escapes = refl

call_text : code_text (just (expr (ExprKind-F.Call (name (codes "f")) (a ∷ b ∷ [])))) ≡ codes "f(a,b);"
unfolding lib.Utf8.encode
call_text = search (rules, folds.the_lemmas)

assignment_text : code_text (just (expr (ExprKind-F.Assign (Some binary.Add) a (expr (ExprKind-F.Step steps.IncAfter b))))) ≡ codes "(a += (b++));"
unfolding lib.Utf8.encode
assignment_text = search (rules, folds.the_lemmas)

value_text : code_text (just (expr (ExprKind-F.Val «data».Null))) ≡ codes "$v(\"null\");"
unfolding code_texts.code_escaped lib.Utf8.encode texts.chars
value_text = search (rules, folds.the_lemmas, data_folds.the_lemmas)

if_text : code_text (stmt (StmtKind-F.If a (block (stmt StmtKind-F.Break ∷ [])) (Some (block []))) ∷ []) ≡ codes "if(a){break;}else{}"
unfolding lib.Utf8.encode
if_text = search (rules, folds.the_lemmas)

for_text : code_text (stmt (StmtKind-F.For (roll-ForStart (ForStart-F.ForStart::Var (decl (codes "i") (Some a) ∷ []))) None (Some b) (block [])) ∷ []) ≡ codes "for(var i=a;;b){}"
unfolding lib.Utf8.encode
for_text = search (rules, folds.the_lemmas)

var_text : code_text (stmt (StmtKind-F.StmtKind::Var word.Let (decl (codes "x") (Some a) ∷ decl (codes "y") None ∷ [])) ∷ []) ≡ codes "let x=a,y;"
unfolding lib.Utf8.encode
var_text = search (rules, folds.the_lemmas)

function_text : code_text (stmt (StmtKind-F.Function (roll-Function (record { name = Some (mark (codes "f")); parameters = mark (codes "p") ∷ mark (codes "q") ∷ []; body = stmt (StmtKind-F.Return None) ∷ [] }))) ∷ [])
    ≡ codes "function f(p,q){return;}"
unfolding lib.Utf8.encode
function_text = search (rules, folds.the_lemmas)

-- ---- trees

depth_counts_statements_and_expressions : depth_of (just (expr (ExprKind-F.Call a (b ∷ [])))) ≡ 3
depth_counts_statements_and_expressions = search (rules, folds.the_lemmas)

-- `~{ ${ ~{ a; } } ; }` in a program
abbrev nested : Program
nested = record {
  items = just (expr (ExprKind-F.ExprKind::Tilde 0));
  tildes =
      record { id = 0; body = just (expr (ExprKind-F.ExprKind::Dollar 0)); dollars = expr (ExprKind-F.ExprKind::Tilde 1) ∷ [] }
      ∷ record { id = 1; body = just a; dollars = [] }
      ∷ [];
}

tildes_in_text_order : tildes_of nested ≡ 0 ∷ 1 ∷ []
tildes_in_text_order = search (rules, folds.the_lemmas)

depth_through_tildes_and_dollars : depth_of_program nested ≡ 7
depth_through_tildes_and_dollars = search (rules, folds.the_lemmas)

dollars_stand_in_client_code : is_client_code (just (expr (ExprKind-F.ExprKind::Dollar 0))) ≡ true
dollars_stand_in_client_code = search (rules, folds.the_lemmas)

no_dollar_in_server_code : is_server_code (just (expr (ExprKind-F.ExprKind::Dollar 0))) ≡ false
no_dollar_in_server_code = search (rules, folds.the_lemmas)

no_value_in_a_source : is_client_code (just (expr (ExprKind-F.Val «data».Null))) ≡ false
no_value_in_a_source = search (rules, folds.the_lemmas)

target_of_an_assignment : is_shaped (just (expr (ExprKind-F.Assign None (number 1) (number 2)))) ≡ false
target_of_an_assignment = search (rules, folds.the_lemmas)

const_without_a_value : is_shaped (stmt (StmtKind-F.StmtKind::Var word.Const (decl (codes "x") None ∷ [])) ∷ []) ≡ false
const_without_a_value = search (rules, folds.the_lemmas)

body_without_a_block : is_shaped (stmt (StmtKind-F.While (number 1) (stmt StmtKind-F.Empty)) ∷ []) ≡ false
body_without_a_block = search (rules, folds.the_lemmas)

abbrev text_child : List ℕ → MarkupChild
text_child cs = roll-MarkupChild (MarkupChild-F.MarkupChild::Text cs)

abbrev element : List ℕ → List MarkupChild → Expr
element tag children = expr (ExprKind-F.Markup (roll-Markup (record { tag = tag; attributes = []; children = children })))

element_with_a_text : is_shaped (just (element (codes "p") (text_child (codes "hi") ∷ []))) ≡ true
unfolding names.is_tag_name lib.Utf8.encode
element_with_a_text = search (rules, folds.the_lemmas)

void_element_with_a_child : is_shaped (just (element (codes "br") (text_child (codes "hi") ∷ []))) ≡ false
unfolding names.is_tag_name lib.Utf8.encode
void_element_with_a_child = search (rules, folds.the_lemmas)

text_beside_a_text : is_shaped (just (element (codes "p") (text_child (codes "a") ∷ text_child (codes "b") ∷ []))) ≡ false
unfolding names.is_tag_name
text_beside_a_text = search (rules, folds.the_lemmas)

text_with_a_dollar : is_shaped (just (element (codes "p") (text_child (codes "a${b") ∷ []))) ≡ false
unfolding names.is_tag_name
text_with_a_dollar = search (rules, folds.the_lemmas)

-- ---- pages

paragraph : page_text (roll-Html Code (Html-F.Element (roll-Element Code (record { tag = codes "p"; attributes = []; children = roll-Html Code (Html-F.Text (codes "a<b")) ∷ [] }))))
    ≡ codes "<!DOCTYPE html><p>a&lt;b</p>"
unfolding page_texts.escaped lib.Utf8.encode
paragraph = search (rules, html_folds.the_lemmas)

void_element : page_text (roll-Html Code (Html-F.Element (roll-Element Code (record { tag = codes "input"; attributes = record { name = codes "id"; value = Plain (codes "\"") } ∷ []; children = [] }))))
    ≡ codes "<!DOCTYPE html><input id=\"&quot;\">"
unfolding page_texts.escaped lib.Utf8.encode
void_element = search (rules, html_folds.the_lemmas)
