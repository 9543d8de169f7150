-- What a name stands for in a scope, and what a function captures of it.
use Rattle.std.specs.Prelude.{ℕ, List, Option}
use Rattle.mt_eval_meaning.specs.Free.{cut, free_of}
use Rattle.mt_eval_meaning.specs.Scopes.{Scope, binding_of}
use Rattle.mt_eval_meaning.specs.Names.{Surroundings}
use Rattle.mt_eval_meaning.specs.declared.name.Name.{Name}
use Rattle.mt_syntax.specs.declared.tree.Function.{Function}

abbrev pub name_in : Surroundings → Scope → List ℕ → Name
name_in around scope text = record { text = text; binding = binding_of around scope text }

-- what a function captures
abbrev pub captured : Surroundings → Scope → Option (List ℕ) → Function → Scope
captured around scope own f = cut (λ s. s.name) (free_of around.tildes own f) scope
