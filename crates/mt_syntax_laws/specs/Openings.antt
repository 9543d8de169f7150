-- Where a `<` may stand in a text, by bytes.
use Rattle.std.specs.Prelude.{ℕ, Bool, true, false, not, ◌&&◌, ◌||◌, ◌==◌, List, [], ◌∷◌}

-- a space or `=` comes first
abbrev pub begins_harmlessly : List ℕ → Bool
begins_harmlessly [] = false
begins_harmlessly (b ∷ bs) = (b == 32) || (b == 61)

-- a space or `=` follows each `<`, so that neither a tag nor a comment opens
abbrev pub opens_nothing : List ℕ → Bool
opens_nothing [] = true
opens_nothing (b ∷ bs) = (not (b == 60) || begins_harmlessly bs) && opens_nothing bs
