-- Which declarations of one name clash in a scope.
use Rattle.std.specs.Prelude.{Bool, true, false, List, [], ◌∷◌}
use Rattle.mt_stage_declared.specs.declared.declaration.DeclarationKind.{DeclarationKind}
use Rattle.mt_stage_declared.specs.declared.declaration.DeclarationKind.TheVariants as kind
use Rattle.mt_stage_declared.specs.declared.kinds.Kinds.{Kinds}

abbrev pub all_kinds : List DeclarationKind
all_kinds = kind.Parameter ∷ kind.Lexical ∷ kind.Variable ∷ kind.Nested ∷ kind.Function ∷ kind.Service ∷ kind.Catch ∷ []

-- The kinds that a kind clashes with: a `let` or `const` with any other, a `var` at the top with a function, and functions,
-- parameters and services with their like; a service with any top name.
abbrev pub rivals : DeclarationKind → List DeclarationKind
rivals kind.Parameter = kind.Parameter ∷ kind.Lexical ∷ []
rivals kind.Lexical = all_kinds
rivals kind.Variable = kind.Lexical ∷ kind.Function ∷ kind.Service ∷ []
rivals kind.Nested = kind.Lexical ∷ kind.Service ∷ []
rivals kind.Function = kind.Lexical ∷ kind.Variable ∷ kind.Function ∷ kind.Service ∷ []
rivals kind.Service = kind.Lexical ∷ kind.Variable ∷ kind.Nested ∷ kind.Function ∷ kind.Service ∷ []
rivals kind.Catch = kind.Lexical ∷ []

-- whether a kind is among the kinds of a name
abbrev pub has : DeclarationKind → Kinds → Bool
has kind.Parameter ks = ks.parameter
has kind.Lexical ks = ks.lexical
has kind.Variable ks = ks.variable
has kind.Nested ks = ks.nested
has kind.Function ks = ks.function
has kind.Service ks = ks.service
has kind.Catch ks = ks.catch_name

abbrev pub no_kinds : Kinds
no_kinds = record {
  parameter = false;
  lexical = false;
  variable = false;
  nested = false;
  function = false;
  service = false;
  catch_name = false;
}

abbrev pub with_kind : DeclarationKind → Kinds → Kinds
with_kind kind.Parameter ks = record ks { parameter = true }
with_kind kind.Lexical ks = record ks { lexical = true }
with_kind kind.Variable ks = record ks { variable = true }
with_kind kind.Nested ks = record ks { nested = true }
with_kind kind.Function ks = record ks { function = true }
with_kind kind.Service ks = record ks { service = true }
with_kind kind.Catch ks = record ks { catch_name = true }
