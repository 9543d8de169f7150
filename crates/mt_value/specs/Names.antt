-- Names, and a table by names whose keys are the program's strings.
use Rattle.std.specs.Prelude.{ℕ, Bool, nat_eq, List, map}
use Rattle.std.specs.Cmp.Lexicographic.{pointwise}
use Rattle.std.specs.Str.{chars}
use Rattle.std.specs.String.{string_bytes}
use Rattle.std.specs.declared.string.String.{String}

-- two names have the same characters
abbrev pub is_same : List ℕ → List ℕ → Bool
is_same = pointwise nat_eq

-- the entries of a table, with the characters of their names
abbrev pub named : {S X : Type 0} → List (String S × X) → List (List ℕ × X)
named es = map (λ e. (chars (string_bytes e.0), e.1)) es
