-- The fields of a head, as names and values without the white space around them.
use Rattle.std.specs.Prelude.{◌&&◌, ℕ, Bool, false, List, [], ◌∷◌, length, nat_lt, nat_le, if◌then◌else◌}
use Rattle.std.specs.Char.{is_ascii_digit}
use Rattle.std.specs.List.{list_all}
use Rattle.std.specs.Str.{str_eq_ignore_ascii_case}
use Rattle.std.specs.Str.Parse.{digits_value}

-- the name and the value
abbrev pub Pair : Type 0
Pair = List ℕ × List ℕ

-- names are compared without letter case
abbrev pub is_named : List ℕ → Pair → Bool
is_named name field = str_eq_ignore_ascii_case field.0 name

-- the value, where the field has this name
abbrev pub value_if : Bool → List ℕ → List (List ℕ)
value_if named value = if named then value ∷ [] else []

-- the values of the fields with this name, in order
abbrev pub values_of : List ℕ → List Pair → List (List ℕ)
values_of name [] = []
values_of name (field ∷ fields) = if is_named name field then field.1 ∷ values_of name fields else values_of name fields

-- a number of bytes is told in 1 to 10 digits
abbrev pub is_size : List ℕ → Bool
is_size value = nat_lt 0 (length value) && (nat_le (length value) 10 && list_all is_ascii_digit value)

-- whether there is one size alone
abbrev pub are_one_size : List (List ℕ) → Bool
are_one_size [] = false
are_one_size (value ∷ []) = is_size value
are_one_size (value ∷ other ∷ values) = false

-- the first of the sizes, in bytes
abbrev pub size_in : List (List ℕ) → ℕ
size_in [] = 0
size_in (value ∷ values) = digits_value 10 value
