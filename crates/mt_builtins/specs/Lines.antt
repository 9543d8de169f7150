-- The lines that builtins write.
use Rattle.std.specs.Prelude.{ℕ, List, [], ◌∷◌, ◌++◌}
use Rattle.mt_syntax.specs.DataText.{json_text}

-- a word, a space, the JSON text of a text, and a line feed
abbrev pub line : List ℕ → List ℕ → List ℕ
line word text = word ++ (32 ∷ (json_text text ++ 10 ∷ []))
