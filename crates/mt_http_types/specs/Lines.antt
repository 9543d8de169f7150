-- Lines of HTTP/1.1 (RFC 9112).
use Rattle.std.specs.Prelude.{ℕ, List, [], ◌∷◌, ◌++◌, codes}

-- a carriage return and a line feed, which end each line
abbrev pub crlf : List ℕ
crlf = 13 ∷ 10 ∷ []

-- the line, and what follows it
abbrev pub line : List ℕ → List ℕ → List ℕ
line text more = text ++ (crlf ++ more)
