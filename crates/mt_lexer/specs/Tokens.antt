-- The tokens of a source, with the bytes that spell each.
use Rattle.std.specs.Prelude.{◌≡◌, ℕ, List, [], ◌∷◌, ◌++◌}
use Rattle.mt_tree.specs.declared.place.Span.{Span}
use Rattle.mt_tree.specs.declared.kind.Kind.{Kind}
use Rattle.mt_lexer.specs.declared.token.Token.{Token}
use Rattle.mt_lexer.specs.Character.{text_of}

-- a token without its bytes
pub record Mark : Type 0 where
  pub kind : Kind
  pub span : Span

-- a source and its tokens so far
pub record Spelled : Type 0 where
  pub source : List ℕ
  pub marks : List Mark

abbrev pub marks_of : List Token → List Mark
marks_of [] = []
marks_of (t ∷ ts) = record { kind = t.kind; span = t.span } ∷ marks_of ts

-- the bytes of each token are those of the source where it stands
abbrev pub AllCut : List ℕ → List Token → Type 0
AllCut source [] = Unit {0}
AllCut source (t ∷ ts) = (t.text.now ≡ text_of source t.span) × AllCut source ts

abbrev pub with_marks : Spelled → List Mark → Spelled
with_marks s marks = record { source = s.source; marks = s.marks ++ marks }
