-- What bodies and blocks declare at their entry, in text order.
use Rattle.std.specs.Prelude.{ℕ, Bool, true, false, List, [], ◌∷◌, ◌++◌, map, flat_map, Option, None, Some}
use Rattle.mt_syntax.specs.Fold.{Every, ForStartLayer, StmtKindLayer, Steps, Tree, on_stmt}
use Rattle.mt_syntax.specs.Gathering.{gathering}
use Rattle.mt_syntax.specs.declared.tree.Decl.{Decl, out-Decl}
use Rattle.mt_syntax.specs.declared.tree.Function.{Function, out-Function}
use Rattle.mt_syntax.specs.declared.tree.Mark.{Mark}
use Rattle.mt_syntax.specs.declared.tree.Stmt.{Stmt, out-Stmt}
use Rattle.mt_syntax.specs.declared.tree.StmtKind.{out-StmtKind}
use Rattle.mt_tree.specs.declared.operators.VarKind.{VarKind}
use Rattle.mt_tree.specs.declared.operators.VarKind.TheVariants as word
use Rattle.mt_syntax.specs.declared.tree.ExprKind.TheOpen.{ForStart-F, StmtKind-F}

abbrev pub kind_of : Stmt → StmtKindLayer Tree
kind_of t = out-StmtKind (out-Stmt t).kind

abbrev pub names_of : List Mark → List (List ℕ)
names_of marks = map (λ m. m.name) marks

abbrev pub name_of_decl : Decl → List ℕ
name_of_decl d = (out-Decl d).name.name

-- ---- `let` and `const` at the top of a block

pub record Lexical : Type 0 where
  pub name : List ℕ
  pub constant : Bool

abbrev pub lexicals_by_word : VarKind → List Decl → List Lexical
lexicals_by_word word.Var decls = []
lexicals_by_word word.Let decls = map (λ d. record { name = name_of_decl d; constant = false }) decls
lexicals_by_word word.Const decls = map (λ d. record { name = name_of_decl d; constant = true }) decls

abbrev pub lexicals_of_kind : StmtKindLayer Tree → List Lexical
lexicals_of_kind (StmtKind-F.StmtKind::Var kind decls) = lexicals_by_word kind decls
lexicals_of_kind _ = []

abbrev pub lexicals : List Stmt → List Lexical
lexicals = flat_map (λ t. lexicals_of_kind (kind_of t))

-- ---- functions and services at the top of a body

abbrev pub named_function : Option Mark → Function → List (List ℕ × Function)
named_function None f = []
named_function (Some m) f = (m.name, f) ∷ []

abbrev pub functions_of_kind : StmtKindLayer Tree → List (List ℕ × Function)
functions_of_kind (StmtKind-F.Function f) = named_function (out-Function f).name f
functions_of_kind _ = []

abbrev pub functions : List Stmt → List (List ℕ × Function)
functions = flat_map (λ t. functions_of_kind (kind_of t))

abbrev pub services_of_kind : StmtKindLayer Tree → List (List ℕ × Function)
services_of_kind (StmtKind-F.Service f) = named_function (out-Function f).name f
services_of_kind _ = []

abbrev pub services : List Stmt → List (List ℕ × Function)
services = flat_map (λ t. services_of_kind (kind_of t))

-- ---- `var` at any depth outside inner functions

abbrev pub Names : Type 0
Names = List (List ℕ)

abbrev pub listing : Steps (Every Names)
listing = gathering [] (λ xs ys. xs ++ ys)

abbrev pub variables_by_word : VarKind → Names → Names
variables_by_word word.Var names = names
variables_by_word _ names = []

abbrev pub variables_of_kind : StmtKindLayer (Every Names) → Names
variables_of_kind (StmtKind-F.StmtKind::Var kind decls) = variables_by_word kind (flat_map (λ names. names) decls)
variables_of_kind layer = listing.stmt_kind layer

-- expressions and functions declare nothing around them
abbrev pub hoisting : Steps (Every Names)
hoisting = record listing {
  stmt_kind = variables_of_kind;
  decl = λ d. d.name.name ∷ [];
  expr = λ e. [];
  function = λ f. [];
}

abbrev pub variables : List Stmt → Names
variables = flat_map (λ t. on_stmt hoisting t)
