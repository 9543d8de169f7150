-- The names of tildes by their numbers, as a table.
use Rattle.std.specs.Prelude.{◌≡◌, ℕ, suc, List, [], length, map, Option, None, Some, slice_get}
use Rattle.mt_eval_meaning.specs.Free.{Names, dollar_names, tilde_names}
use Rattle.mt_syntax.specs.declared.program.Tilde.{Tilde}

abbrev pub names_or_none : Option Names → Names
names_or_none None = []
names_or_none (Some names) = names

-- a number that the table doesn't have has no names
abbrev pub names_at : List Names → ℕ → Names
names_at table id = names_or_none (slice_get table id)

-- the names of the dollars of each tilde, where the table has those of the tildes in them
abbrev pub next_names : List Tilde → List Names → List Names
next_names tildes table = map (λ t. dollar_names (names_at table) (Some t)) tildes

-- the table has the names of every tilde
abbrev pub NamesTildes : List Names → List Tilde → Type 0
NamesTildes table tildes = (id : ℕ) → names_at table id ≡ tilde_names tildes (suc (length tildes)) id
