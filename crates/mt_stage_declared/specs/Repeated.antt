-- The declarations of a scope whose names the scope has already.
use Rattle.std.specs.Prelude.{Bool, true, false, ◌&&◌, if◌then◌else◌, List, [], ◌∷◌, ◌++◌, flat_map}
use Rattle.std.specs.List.{list_any}
use Rattle.mt_syntax.specs.declared.broken.Broken.{Broken}
use Rattle.mt_syntax.specs.declared.rule.Rule.TheVariants as rule
use Rattle.mt_syntax.specs.declared.tree.Mark.{Mark}
use Rattle.mt_stage_declared.specs.Builtins.{is_builtin}
use Rattle.mt_stage_declared.specs.Clashes.{has, rivals}
use Rattle.mt_stage_declared.specs.Names.{is_same, Entries, kinds_of}
use Rattle.mt_stage_declared.specs.declared.declaration.Declaration.{Declaration}
use Rattle.mt_stage_declared.specs.declared.declaration.DeclarationKind.{DeclarationKind}
use Rattle.mt_stage_declared.specs.declared.declaration.DeclarationKind.TheVariants as kind

abbrev pub is_kind : DeclarationKind → DeclarationKind → Bool
is_kind kind.Parameter kind.Parameter = true
is_kind kind.Lexical kind.Lexical = true
is_kind kind.Variable kind.Variable = true
is_kind kind.Nested kind.Nested = true
is_kind kind.Function kind.Function = true
is_kind kind.Service kind.Service = true
is_kind kind.Catch kind.Catch = true
is_kind _ _ = false

-- two declarations have one name, and are of kinds that don't go together
abbrev pub clash : Declaration → Declaration → Bool
clash d e = is_same d.name.name e.name.name && list_any (λ k. is_kind k e.kind) (rivals d.kind)

-- a name that is declared where it may not be
abbrev pub twice_at : Mark → Broken
twice_at m = record { place = m.place; rule = rule.S9 }

-- the places of those declarations for which a predicate holds
abbrev pub where_holding : (Declaration → Bool) → List Declaration → List Broken
where_holding holds = flat_map (λ d. if holds d then twice_at d.name ∷ [] else [])

abbrev pub where_clashing : Declaration → List Declaration → List Broken
where_clashing d before = if list_any (clash d) before then twice_at d.name ∷ [] else []

-- whether the table has a kind with which the declaration clashes
abbrev pub clashes_with : Entries → Declaration → Bool
clashes_with es d = list_any (λ k. has k (kinds_of d.name.name es)) (rivals d.kind)

abbrev pub repeated_behind : List Declaration → List Declaration → List Broken
repeated_behind before [] = []
repeated_behind before (d ∷ ds) = where_clashing d before ++ repeated_behind (before ++ d ∷ []) ds

-- of the declarations of a scope in text order, those that clash with one before them
abbrev pub repeated : List Declaration → List Broken
repeated = repeated_behind []

-- the declarations whose name is that of a builtin
abbrev pub builtins_in : List Declaration → List Broken
builtins_in = where_holding (λ d. is_builtin d.name.name)
