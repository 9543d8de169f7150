-- The order of texts: that of their units of UTF-16.
use Rattle.std.specs.Prelude.{ℕ, ◌+◌, ◌-◌, ◌/◌, ◌%◌, ◌==◌, nat_lt, if◌then◌else◌, Bool, true, false, List, [], ◌∷◌, flat_map}

-- the units of a character: one up to U+FFFF, and a surrogate pair above it
abbrev pub char_units : ℕ → List ℕ
char_units c = if nat_lt c 0x1_0000 then c ∷ [] else (0xD800 + (c - 0x1_0000) / 0x400) ∷ (0xDC00 + (c - 0x1_0000) % 0x400) ∷ []

-- at the first unit where they differ the first has the lesser one, or it ends before the second
abbrev pub is_below : List ℕ → List ℕ → Bool
is_below [] [] = false
is_below [] (v ∷ vs) = true
is_below (u ∷ us) [] = false
is_below (u ∷ us) (v ∷ vs) = if u == v then is_below us vs else nat_lt u v

unfoldable pub comes_before : List ℕ → List ℕ → Bool
comes_before a b = is_below (flat_map char_units a) (flat_map char_units b)
