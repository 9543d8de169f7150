-- The names of files that a command may have.
use Rattle.std.specs.Prelude.{◌==◌, ℕ, Bool, false, not, List, [], ◌∷◌}

-- not empty, and not beginning with a dash
abbrev pub is_file_name : List ℕ → Bool
is_file_name [] = false
is_file_name (byte ∷ bytes) = not (byte == 45)
