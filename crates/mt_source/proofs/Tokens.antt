-- The texts of a source's tokens are parts of the source.
use Rattle.std.proofs.Common.{ℕ, ◌≤◌, Bool, true, false, cond, List, [], ◌∷◌, length, map, drop, length-drop, length-take, arith}
use Rattle.std.proofs.lemmas.Bool.Decides.{nat_tests}
use Rattle.mt_tree.specs.declared.place.Span.{Span}
use Rattle.mt_lexer.specs.Character.{text_of}
use Rattle.mt_lexer.specs.Tokens.{Mark, Spelled}
use Rattle.mt_parser_marks.specs.Tokens.{token_in, tokens_in}
use Rattle.mt_grammar.specs.Token.{Token, Tokens, is_tag_byte, tag_bytes, open_name}

module _ (limit : ℕ) where
  abbrev pub ShortTokens : Tokens → Type 0
  ShortTokens [] = Unit {0}
  ShortTokens (t ∷ ts) = (length t.text ≤ limit) × ShortTokens ts

part_short : (source : List ℕ) (span : Span) → length (text_of source span) ≤ length source
part_short source span = simp (length-take, length-drop) (grind (arith, nat_tests))

marks_short : (source : List ℕ) (marks : List Mark) → ShortTokens (length source) (map (token_in source) marks)
marks_short source [] = tt
marks_short source (m ∷ marks) = (part_short source m.span, marks_short source marks)

-- each has at most as many bytes as the source
pub tokens_short : (s : Spelled) → ShortTokens (length s.source) (tokens_in s)
unfolding tokens_in
tokens_short s = marks_short s.source s.marks

-- ---- the name of a tag is a part of its token

front_step : (t : Bool) (b : ℕ) (front rest : List ℕ) → length front ≤ length rest → length (cond t (b ∷ front) []) ≤ length (b ∷ rest)
front_step true b front rest h = omega (arith, h)
front_step false b front rest h = omega arith

front_short : (bs : List ℕ) → length (tag_bytes bs) ≤ length bs
unfolding tag_bytes
front_short [] = omega arith
front_short (b ∷ bs) = front_step (is_tag_byte b) b (tag_bytes bs) bs (front_short bs)

pub open_name_short : (t : Token) → length (open_name t) ≤ length t.text
unfolding open_name
open_name_short t = omega (arith, front_short (drop 1 t.text), length-drop 1 t.text)
