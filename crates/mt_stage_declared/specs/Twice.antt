-- The places at which a name is declared twice.
use Rattle.std.specs.Prelude.{List, [], ◌∷◌, ◌++◌, map, flat_map, Option, None}
use Rattle.mt_syntax.specs.First.{earlier_of, first_of}
use Rattle.mt_syntax.specs.declared.broken.Broken.{Broken}
use Rattle.mt_syntax.specs.Fold.{Every, StmtKindLayer, FunctionLayer, Steps, on_expr, on_stmt}
use Rattle.mt_syntax.specs.declared.program.Program.{Program}
use Rattle.mt_syntax.specs.declared.program.Tilde.{Tilde}
use Rattle.mt_syntax.specs.declared.tree.Mark.{Mark}
use Rattle.mt_syntax.specs.declared.tree.Expr.{Expr}
use Rattle.mt_syntax.specs.declared.tree.Stmt.{Stmt}
use Rattle.mt_syntax.specs.declared.tree.ExprKind.TheOpen.{StmtKind-F}
use Rattle.mt_stage_declared.specs.Declarations.{declarations, declaration, declared_in_file, declared_in_tilde, here_in}
use Rattle.mt_stage_declared.specs.Parts.{Part, finding_only, with_declared, found_in, gathering_found}
use Rattle.mt_stage_declared.specs.Repeated.{repeated, builtins_in}
use Rattle.mt_stage_declared.specs.declared.declaration.Declaration.{Declaration}
use Rattle.mt_stage_declared.specs.declared.declaration.DeclarationKind.TheVariants as kind

-- what the statements of a block or body declare in it
abbrev pub declared_in : {X : Type 0} → List (Part X) → List Declaration
declared_in = here_in (λ p. p.declared)

-- in the scope of a body with its parameters, or of a block
abbrev pub twice_in_body : {X : Type 0} → List Mark → List (Part X) → List Broken
twice_in_body parameters body = repeated (declarations kind.Parameter parameters ++ declared_in body)

-- in the scope of a catch, with the declarations of its block
abbrev pub twice_in_catch : {X : Type 0} → Mark → Part X → List Broken
twice_in_catch name handler = repeated (declaration kind.Catch name ∷ handler.declared.inside)

-- `of` counts the places of one scope, and `join` what is counted in parts.
module _ {X : Type 0} (none : X) (join : X → X → X) (of : List Broken → X) where
  abbrev pub twice_in_kind : StmtKindLayer (Every (Part X)) → X
  twice_in_kind (StmtKind-F.Block items) = join (of (twice_in_body [] items)) (found_in none join items)
  twice_in_kind (StmtKind-F.Try body name handler) = join body.found (join (of (twice_in_catch name handler)) handler.found)
  twice_in_kind layer = ((gathering_found none join).stmt_kind layer).found

  abbrev pub twice_in_function : FunctionLayer (Every (Part X)) → X
  twice_in_function f = join (of (twice_in_body f.parameters f.body)) (found_in none join f.body)

  abbrev pub counting : Steps (Every (Part X))
  counting = record (gathering_found none join) { stmt_kind = λ x. finding_only (twice_in_kind x); function = λ f. finding_only (twice_in_function f) }

  abbrev pub counting_twice : Steps (Every (Part X))
  counting_twice = with_declared counting

abbrev pub joined : List Broken → List Broken → List Broken
joined xs ys = xs ++ ys

-- all places
abbrev pub listing_twice : Steps (Every (Part (List Broken)))
listing_twice = counting_twice [] joined (λ bs. bs)

-- the first place
abbrev pub first_twice : Steps (Every (Part (Option Broken)))
first_twice = counting_twice None earlier_of first_of

-- in a row of statements, apart from what they declare around them
abbrev pub twice_in_row : List Stmt → List Broken
twice_in_row items = found_in [] joined (map (on_stmt listing_twice) items)

abbrev pub twice_in_row_of : List Expr → List Broken
twice_in_row_of items = found_in [] joined (map (on_expr listing_twice) items)

abbrev pub twice_at_top : List Declaration → List Broken
twice_at_top ds = repeated ds ++ builtins_in ds

-- the code of a tilde, its dollars left out, is a body of its own
abbrev pub twice_in_client : List Stmt → List Broken
twice_in_client body = twice_at_top (declared_in_tilde body) ++ twice_in_row body

abbrev pub twice_in_tilde : Tilde → List Broken
twice_in_tilde t = twice_in_client t.body ++ twice_in_row_of t.dollars

-- in a program, with all its tildes and dollars
abbrev pub declared_twice : Program → List Broken
declared_twice p = twice_at_top (declared_in_file p.items) ++ (twice_in_row p.items ++ flat_map twice_in_tilde p.tildes)
