-- Where tokens stand.
use Rattle.std.specs.Prelude.{ℕ, ◌≤◌, List, [], ◌∷◌}
use Rattle.mt_lexer.specs.Tokens.{Mark}

-- none begins before the one before it ends, and all lie from one byte to the other
abbrev pub InOrder : ℕ → List Mark → ℕ → Type 0
InOrder low [] high = low ≤ high
InOrder low (t ∷ ts) high = (low ≤ t.span.start) × (t.span.start ≤ t.span.end) × InOrder t.span.end ts high
