-- The words of a line, which spaces part.
use Rattle.std.specs.Prelude.{◌-◌, ◌==◌, ℕ, zero, suc, not, List, [], ◌∷◌, length, take, drop, nat_lt, if◌then◌else◌, Option, None, Some}
use Rattle.std.specs.List.{position_or_len}
use Rattle.std.specs.Str.{bytes_eq}

-- how many bytes stand before the first one like this, or how many there are where there is none
abbrev pub place_of : ℕ → List ℕ → ℕ
place_of byte bytes = position_or_len (λ b. b == byte) bytes

abbrev pub before : ℕ → List ℕ → List ℕ
before byte bytes = take (place_of byte bytes) bytes

-- from that byte on
abbrev pub from : ℕ → List ℕ → List ℕ
from byte bytes = drop (place_of byte bytes) bytes

-- what this back follows, where the bytes end with it
abbrev pub before_back : List ℕ → List ℕ → Option (List ℕ)
before_back back bytes =
    if bytes_eq (drop (length bytes - length back) bytes) back then Some (take (length bytes - length back) bytes) else None

-- one or more spaces
abbrev pub gap : ℕ → List ℕ
gap zero = 32 ∷ []
gap (suc more) = 32 ∷ gap more

-- how many spaces the bytes begin with
abbrev pub leading_spaces : List ℕ → ℕ
leading_spaces bytes = position_or_len (λ b. not (b == 32)) bytes

-- what follows one or more spaces, where the bytes begin with one
abbrev pub after_spaces : List ℕ → Option (List ℕ)
after_spaces bytes = if nat_lt 0 (leading_spaces bytes) then Some (drop (leading_spaces bytes) bytes) else None
