-- The services of a file, by name.
use Rattle.std.specs.Prelude.{ℕ, Bool, true, false, List, filter, map}
use Rattle.mt_syntax.specs.declared.tree.Stmt.{Stmt}
use Rattle.mt_stage_declared.specs.Declarations.{declared_in_file}
use Rattle.mt_stage_declared.specs.declared.declaration.Declaration.{Declaration}
use Rattle.mt_stage_declared.specs.declared.declaration.DeclarationKind.{DeclarationKind}
use Rattle.mt_stage_declared.specs.declared.declaration.DeclarationKind.TheVariants as kind

abbrev pub is_service : DeclarationKind → Bool
is_service kind.Service = true
is_service _ = false

abbrev pub names_of_services : List Declaration → List (List ℕ)
names_of_services ds = map (λ d. d.name.name) (filter (λ d. is_service d.kind) ds)

-- in text order
abbrev pub services_of : List Stmt → List (List ℕ)
services_of items = names_of_services (declared_in_file items)
