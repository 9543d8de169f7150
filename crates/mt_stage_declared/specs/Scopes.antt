-- The declarations of a scope, and a table by which they are looked up.
use Rattle.std.specs.Prelude.{ℕ, ◌≡◌, Bool, ◌&&◌, List, ◌++◌, map}
use Rattle.std.specs.List.{list_any}
use Rattle.mt_syntax.specs.declared.tree.Mark.{Mark}
use Rattle.mt_syntax.specs.declared.tree.Stmt.{Stmt}
use Rattle.mt_stage_declared.specs.Clashes.{has}
use Rattle.mt_stage_declared.specs.Declarations.{declarations, declared, here_in}
use Rattle.mt_stage_declared.specs.Names.{is_same, Entries, kinds_of}
use Rattle.mt_stage_declared.specs.Repeated.{is_kind}
use Rattle.mt_stage_declared.specs.declared.declaration.Declaration.{Declaration}
use Rattle.mt_stage_declared.specs.declared.declaration.DeclarationKind.{DeclarationKind}

-- the declarations of a scope, in text order: names that are all declared in one way, and what statements declare in it
abbrev pub scope_of : DeclarationKind → List Mark → List Stmt → List Declaration
scope_of k names items = declarations k names ++ here_in (λ d. d) (map declared items)

-- whether one of the declarations is of the name
abbrev pub declares : List ℕ → List Declaration → Bool
declares name ds = list_any (λ d. is_same name d.name.name) ds

-- whether the declaration is of the name, and of the kind
abbrev pub is_of : List ℕ → DeclarationKind → Declaration → Bool
is_of name k d = is_same name d.name.name && is_kind k d.kind

-- the table has, for each name, the kinds of its declarations
pub record Tells (es : Entries) (ds : List Declaration) : Type 0 where
  pub kinds : (name : List ℕ) (k : DeclarationKind) → has k (kinds_of name es) ≡ list_any (is_of name k) ds
