-- What statements declare.
use Rattle.std.specs.Prelude.{List, [], ◌∷◌, ◌++◌, map, flat_map, Option, None, Some}
use Rattle.mt_syntax.specs.Fold.{Every, ForStartLayer, StmtKindLayer, Steps, on_stmt}
use Rattle.mt_syntax.specs.declared.tree.Mark.{Mark}
use Rattle.mt_tree.specs.declared.operators.VarKind.{VarKind}
use Rattle.mt_tree.specs.declared.operators.VarKind.TheVariants as word
use Rattle.mt_syntax.specs.declared.tree.ExprKind.TheOpen.{ForStart-F, StmtKind-F}
use Rattle.mt_syntax.specs.declared.tree.Stmt.{Stmt}
use Rattle.mt_stage_declared.specs.declared.declaration.Declaration.{Declaration}
use Rattle.mt_stage_declared.specs.declared.declaration.DeclarationKind.{DeclarationKind}
use Rattle.mt_stage_declared.specs.declared.declaration.DeclarationKind.TheVariants as kind

abbrev pub declaration : DeclarationKind → Mark → Declaration
declaration k m = record { kind = k; name = m }

abbrev pub declarations : DeclarationKind → List Mark → List Declaration
declarations k = map (declaration k)

pub record Declared : Type 0 where
  -- of a declaration's own part, as a function or the start of a `for`: the names that it gives
  pub names : List Mark
  -- of a statement: what it declares in the block or body where it stands, services aside
  pub here : List Declaration
  -- of a statement: the service that it declares
  pub services : List Declaration
  -- of a block: what its statements declare in it
  pub inside : List Declaration
  -- of a statement: its variables at any depth outside inner functions
  pub variables : List Declaration

abbrev pub nothing : Declared
nothing = record { names = []; here = []; services = []; inside = []; variables = [] }

abbrev pub giving : List Mark → Declared
giving names = record nothing { names = names }

-- a statement that holds others
abbrev pub holding : List Declaration → Declared
holding variables = record nothing { here = variables; variables = variables }

abbrev pub own_name : Option Mark → List Mark
own_name None = []
own_name (Some m) = m ∷ []

abbrev pub declared_by_word : VarKind → List Mark → Declared
declared_by_word word.Var names = record nothing { here = declarations kind.Variable names; variables = declarations kind.Nested names }
declared_by_word _ names = record nothing { here = declarations kind.Lexical names }

-- what a node declares, given what its parts do
module _ {P : Type 0} (of : P → Declared) where
  abbrev pub names_in : List P → List Mark
  names_in = flat_map (λ p. (of p).names)

  abbrev pub here_in : List P → List Declaration
  here_in = flat_map (λ p. (of p).here)

  abbrev pub variables_in : List P → List Declaration
  variables_in = flat_map (λ p. (of p).variables)

  abbrev pub optional_variables : Option P → List Declaration
  optional_variables None = []
  optional_variables (Some p) = (of p).variables

  abbrev pub declared_by_start : ForStartLayer (Every P) → Declared
  declared_by_start (ForStart-F.ForStart::Var decls) = giving (names_in decls)
  declared_by_start _ = nothing

  abbrev pub declared_by_kind : StmtKindLayer (Every P) → Declared
  declared_by_kind (StmtKind-F.StmtKind::Var word decls) = declared_by_word word (names_in decls)
  declared_by_kind (StmtKind-F.Function function) = record nothing { here = declarations kind.Function (of function).names }
  declared_by_kind (StmtKind-F.Service function) = record nothing { services = declarations kind.Service (of function).names }
  declared_by_kind (StmtKind-F.If test body other) = holding ((of body).variables ++ optional_variables other)
  declared_by_kind (StmtKind-F.While test body) = holding (of body).variables
  declared_by_kind (StmtKind-F.For start test step body) = holding (declarations kind.Nested (of start).names ++ (of body).variables)
  declared_by_kind (StmtKind-F.Try body name handler) = holding ((of body).variables ++ (of handler).variables)
  declared_by_kind (StmtKind-F.Block items) = record (holding (variables_in items)) { inside = here_in items }
  declared_by_kind _ = nothing

-- whatever stands in expressions declares nothing around them
abbrev pub declaring : Steps (Every Declared)
declaring = record {
  expr_kind = λ k. nothing;
  for_start = declared_by_start (λ d. d);
  markup_child = λ c. nothing;
  markup_value = λ v. nothing;
  stmt_kind = declared_by_kind (λ d. d);
  decl = λ d. giving (d.name ∷ []);
  expr = λ e. nothing;
  function = λ f. giving (own_name f.name);
  markup = λ m. nothing;
  markup_attribute = λ a. nothing;
  prop = λ p. nothing;
  stmt = λ s. s.kind;
}

abbrev pub declared : Stmt → Declared
declared = on_stmt declaring

-- an item at the top of the file, where services stand
abbrev pub declared_by_item : Stmt → List Declaration
declared_by_item s = (declared s).here ++ (declared s).services

abbrev pub declared_in_file : List Stmt → List Declaration
declared_in_file = flat_map declared_by_item

-- the code of a tilde
abbrev pub declared_in_tilde : List Stmt → List Declaration
declared_in_tilde items = here_in (λ d. d) (map declared items)
