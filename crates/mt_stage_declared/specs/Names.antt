-- Names, and a table by names whose keys are the program's strings.
use Rattle.std.specs.Prelude.{ℕ, Bool, nat_eq, List, [], ◌∷◌, map, if◌then◌else◌}
use Rattle.std.specs.Cmp.Lexicographic.{pointwise}
use Rattle.std.specs.Str.{chars}
use Rattle.std.specs.String.{string_bytes}
use Rattle.std.specs.declared.string.String.{String}
use Rattle.mt_stage_declared.specs.declared.kinds.Kinds.{Kinds}
use Rattle.mt_stage_declared.specs.Clashes.{no_kinds}

-- two names have the same characters
abbrev pub is_same : List ℕ → List ℕ → Bool
is_same = pointwise nat_eq

abbrev pub Entries : Type 0
Entries = List (List ℕ × Kinds)

-- the entries of a table, with the characters of their names
abbrev pub named : {S X : Type 0} → List (String S × X) → List (List ℕ × X)
named es = map (λ e. (chars (string_bytes e.0), e.1)) es

-- the kinds of the name; a name that isn't there has none
abbrev pub kinds_of : List ℕ → Entries → Kinds
kinds_of name [] = no_kinds
kinds_of name (e ∷ es) = if is_same name e.0 then e.1 else kinds_of name es

-- a name that is there keeps its place and takes the kinds, and a new one goes last
abbrev pub assigned : List ℕ → Kinds → Entries → Entries
assigned name kinds [] = (name, kinds) ∷ []
assigned name kinds (e ∷ es) = if is_same name e.0 then (e.0, kinds) ∷ es else e ∷ assigned name kinds es
