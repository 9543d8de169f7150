-- The machine that the lexer is, on lists. It reads each character once.
use Rattle.std.specs.Prelude.{ℕ, zero, suc, Bool, true, false, nat_eq, List, [], ◌∷◌, length, Option, Some, None, if◌then◌else◌}
use Rattle.mt_tree.specs.declared.place.Span.{Span}
use Rattle.mt_lexer.specs.declared.character.SourceChar.{SourceChar}
use Rattle.mt_lexer.specs.declared.character.Class.{Class}
use Rattle.mt_lexer.specs.declared.character.Class.TheVariants as c
use Rattle.mt_lexer.specs.declared.character.Sign.{Sign}
use Rattle.mt_lexer.specs.declared.character.Sign.TheVariants as sign
use Rattle.mt_tree.specs.declared.kind.Kind.{Kind}
use Rattle.mt_tree.specs.declared.kind.Kind.TheVariants as k
use Rattle.mt_lexer.specs.declared.mode.Fault.{Fault}
use Rattle.mt_lexer.specs.declared.mode.Fault.TheVariants as fault
use Rattle.mt_lexer.specs.declared.mode.Mode.{Mode}
use Rattle.mt_lexer.specs.declared.mode.Mode.TheVariants as m
use Rattle.mt_lexer.specs.declared.mode.Before.{Before}
use Rattle.mt_lexer.specs.declared.mode.Before.TheVariants as before
use Rattle.mt_lexer.specs.declared.mode.Opener.{Opener}
use Rattle.mt_lexer.specs.declared.mode.Opener.TheVariants as opener
use Rattle.mt_lexer.specs.declared.character.Quote.{Quote}
use Rattle.mt_lexer.specs.declared.part.Part.{Part}
use Rattle.mt_lexer.specs.declared.part.Part.TheVariants as p
use Rattle.mt_lexer.specs.declared.part.OpenText.{OpenText}
use Rattle.mt_lexer.specs.declared.part.OpenEscape.{OpenEscape}
use Rattle.mt_lexer.specs.Character.{Chars, class, between, text_of}
use Rattle.mt_lexer.specs.Sign.{is_digit, is_same_quote, continues_name, continues_tag, continues_attribute, spoils_number, opener_kind, allows_tag}
use Rattle.mt_lexer.specs.Word.{word_kind, before_word, is_number}
use Rattle.mt_lexer.specs.Escape.{is_simple_escape, is_hex, hex_more, is_high, is_low, is_character}
use Rattle.mt_lexer.specs.Spelling.{Outcome, finished, token, refused}
use Rattle.mt_tree.specs.Tables.{is_among, void_tag_names}

pub data Next : Type 0 where
  go : List Mode → Before → Part → Next
  emit : Kind → Span → Next → Next
  stop : Fault → ℕ → Next
  done : Next

-- the mode below the one that ends, and the bottom mode never ends
abbrev pub closed : Option ℕ → List Mode → Next
closed q [] = go (m.Code q ∷ []) before.Other p.Fresh
closed q (z ∷ ms) = go (z ∷ ms) before.Other p.Fresh

abbrev pub block_by : Class → ℕ → Before → List Mode → Next
block_by (c.Sign sign.Star) s b ms = go ms b (p.BlockStar s)
block_by c.End s b ms = stop fault.Unclosed s
block_by y s b ms = go ms b (p.BlockComment s)

abbrev pub star_by : Class → ℕ → Before → List Mode → Next
star_by (c.Sign sign.Slash) s b ms = go ms b p.Fresh
star_by y s b ms = block_by y s b ms

-- one character g, of a class that is given beside it
module _ (source : List ℕ) (g : SourceChar) where
  abbrev pub here : ℕ → Span
  here start = between start g.span.start

  abbrev pub upto : ℕ → Span
  upto start = between start g.span.end

  abbrev pub code_by : Class → Option ℕ → Before → List Mode → Next
  code_by c.End None b ms = done
  code_by c.End (Some q) b ms = stop fault.Unclosed q
  code_by c.White q b ms = go (m.Code q ∷ ms) b p.Fresh
  code_by c.LineFeed q b ms = go (m.Code q ∷ ms) b p.Fresh
  code_by c.CarriageReturn q b ms = go (m.Code q ∷ ms) b p.Fresh
  code_by c.Letter q b ms = go (m.Code q ∷ ms) b (p.Name g.span.start)
  code_by c.Underscore q b ms = go (m.Code q ∷ ms) b (p.Name g.span.start)
  code_by c.NameStart q b ms = go (m.Code q ∷ ms) b (p.Name g.span.start)
  code_by c.Zero q b ms = go (m.Code q ∷ ms) b (p.Zero g.span.start)
  code_by c.Digit q b ms = go (m.Code q ∷ ms) b (p.Number g.span.start)
  code_by (c.Quote u) q b ms = go (m.Code q ∷ ms) b (p.Text (record { start = g.span.start; quote = u }))
  code_by c.OpenBrace q b ms = emit k.Punctuator g.span (go (m.Code q ∷ m.Code q ∷ ms) before.Other p.Fresh)
  code_by c.CloseBrace q b ms = emit k.Punctuator g.span (closed q ms)
  code_by c.Closing q b ms = emit k.Punctuator g.span (go (m.Code q ∷ ms) before.Operand p.Fresh)
  code_by c.Dot q b ms = emit k.Punctuator g.span (go (m.Code q ∷ ms) before.Dot p.Fresh)
  code_by c.Colon q b ms = emit k.Punctuator g.span (go (m.Code q ∷ ms) before.Other p.Fresh)
  code_by c.Separator q b ms = emit k.Punctuator g.span (go (m.Code q ∷ ms) before.Other p.Fresh)
  code_by (c.Sign a) q b ms = go (m.Code q ∷ ms) b (p.Sign g.span a)
  code_by c.NameContinue q b ms = stop fault.BadCharacter g.span.start
  code_by c.Backslash q b ms = stop fault.BadCharacter g.span.start
  code_by c.Other q b ms = stop fault.BadCharacter g.span.start

  abbrev pub tag_ends : ℕ → Bool → Before → List Mode → Next
  tag_ends q true b ms = emit k.TagEnd g.span (go ms before.Other p.Fresh)
  tag_ends q false b ms = emit k.TagEnd g.span (go (m.Children q ∷ ms) before.Other p.Fresh)

  abbrev pub tag_by : Class → ℕ → Bool → Before → List Mode → Next
  tag_by c.End q v b ms = stop fault.Unclosed q
  tag_by c.White q v b ms = go (m.Tag q v ∷ ms) b p.Fresh
  tag_by c.LineFeed q v b ms = go (m.Tag q v ∷ ms) b p.Fresh
  tag_by c.CarriageReturn q v b ms = go (m.Tag q v ∷ ms) b p.Fresh
  tag_by c.Letter q v b ms = go (m.Tag q v ∷ ms) b (p.AttributeName g.span.start)
  tag_by (c.Sign sign.Equals) q v b ms = emit k.Punctuator g.span (go (m.Tag q v ∷ ms) before.Other p.Fresh)
  tag_by (c.Quote u) q v b ms = go (m.Tag q v ∷ ms) b (p.Quoted g.span.start u)
  tag_by (c.Sign sign.Slash) q v b ms = go (m.Tag q v ∷ ms) b (p.TagSlash g.span.start)
  tag_by (c.Sign sign.Greater) q v b ms = tag_ends q v b ms
  tag_by (c.Sign sign.Tilde) q v b ms = go (m.Tag q v ∷ ms) b (p.Sign g.span sign.Tilde)
  tag_by (c.Sign sign.Dollar) q v b ms = go (m.Tag q v ∷ ms) b (p.Sign g.span sign.Dollar)
  tag_by _ q v b ms = stop fault.BadCharacter g.span.start

  abbrev pub children_by : Class → ℕ → Before → List Mode → Next
  children_by c.End q b ms = stop fault.Unclosed q
  children_by (c.Sign sign.Less) q b ms = go (m.Children q ∷ ms) b (p.ChildLess g.span.start)
  children_by (c.Sign sign.Tilde) q b ms = go (m.Children q ∷ ms) b (p.ChildSign g.span.start opener.Tilde)
  children_by (c.Sign sign.Dollar) q b ms = go (m.Children q ∷ ms) b (p.ChildSign g.span.start opener.Dollar)
  children_by _ q b ms = go (m.Children q ∷ ms) b (p.ChildText g.span.start)

  abbrev pub fresh_by : Class → Before → List Mode → Next
  fresh_by y b [] = stop fault.BadCharacter g.span.start
  fresh_by y b (m.Code q ∷ ms) = code_by y q b ms
  fresh_by y b (m.Tag q v ∷ ms) = tag_by y q v b ms
  fresh_by y b (m.Children q ∷ ms) = children_by y q b ms

  abbrev pub word_by : Class → ℕ → Before → List Mode → Next
  word_by y s b ms = let word = text_of source (here s) in emit (word_kind word) (here s) (fresh_by y (before_word b word) ms)

  abbrev pub number_by : Class → ℕ → List Mode → Next
  number_by y s ms =
      if spoils_number y then stop fault.BadCharacter g.span.start
      else if is_number (text_of source (here s)) then emit k.Number (here s) (fresh_by y before.Operand ms) else stop fault.NumberTooLarge s

  abbrev pub text_closed : OpenText → List Mode → Next
  text_closed t ms = emit k.Text (upto t.start) (go ms before.Operand p.Fresh)

  abbrev pub quote_by : OpenText → Bool → Before → List Mode → Next
  quote_by t true b ms = text_closed t ms
  quote_by t false b ms = go ms b (p.Text t)

  abbrev pub text_by : Class → OpenText → Before → List Mode → Next
  text_by (c.Quote u) t b ms = quote_by t (is_same_quote u t.quote) b ms
  text_by c.Backslash t b ms = go ms b (p.Escape (record { text = t; backslash = g.span.start }))
  text_by c.LineFeed t b ms = stop fault.Unclosed t.start
  text_by c.CarriageReturn t b ms = stop fault.Unclosed t.start
  text_by c.End t b ms = stop fault.Unclosed t.start
  text_by _ t b ms = go ms b (p.Text t)

  abbrev pub escape_by : OpenEscape → Before → List Mode → Next
  escape_by e b ms =
      if is_simple_escape g.value then go ms b (p.Text e.text) else if nat_eq g.value 117 then go ms b (p.Unicode e) else stop fault.BadEscape e.backslash

  abbrev pub unit_done : OpenEscape → ℕ → Before → List Mode → Next
  unit_done e v b ms = if is_high v then go ms b (p.HighSurrogate e) else if is_low v then stop fault.BadEscape e.backslash else go ms b (p.Text e.text)

  abbrev pub unit_more : OpenEscape → ℕ → ℕ → Before → List Mode → Next
  unit_more e zero v b ms = unit_done e v b ms
  unit_more e (suc n) v b ms = go ms b (p.Unit e n v)

  abbrev pub unit_by : OpenEscape → ℕ → ℕ → Before → List Mode → Next
  unit_by e n v b ms = if is_hex g.value then unit_more e n (hex_more v g.value) b ms else stop fault.BadEscape e.backslash

  abbrev pub unicode_by : OpenEscape → Before → List Mode → Next
  unicode_by e b ms = if nat_eq g.value 123 then go ms b (p.CodePointStart e) else unit_by e 3 0 b ms

  abbrev pub code_point_start_by : OpenEscape → Before → List Mode → Next
  code_point_start_by e b ms = if is_hex g.value then go ms b (p.CodePoint e 5 (hex_more 0 g.value)) else stop fault.BadEscape e.backslash

  abbrev pub code_point_more : OpenEscape → ℕ → ℕ → Before → List Mode → Next
  code_point_more e zero v b ms = stop fault.BadEscape e.backslash
  code_point_more e (suc n) v b ms = if is_hex g.value then go ms b (p.CodePoint e n (hex_more v g.value)) else stop fault.BadEscape e.backslash

  abbrev pub code_point_by : OpenEscape → ℕ → ℕ → Before → List Mode → Next
  code_point_by e n v b ms =
      if nat_eq g.value 125 then (if is_character v then go ms b (p.Text e.text) else stop fault.BadEscape e.backslash) else code_point_more e n v b ms

  abbrev pub high_by : OpenEscape → Before → List Mode → Next
  high_by e b ms = if nat_eq g.value 92 then go ms b (p.LowEscape e) else stop fault.BadEscape e.backslash

  abbrev pub low_escape_by : OpenEscape → Before → List Mode → Next
  low_escape_by e b ms = if nat_eq g.value 117 then go ms b (p.LowUnit e 3 0) else stop fault.BadEscape e.backslash

  abbrev pub low_more : OpenEscape → ℕ → ℕ → Before → List Mode → Next
  low_more e zero v b ms = if is_low v then go ms b (p.Text e.text) else stop fault.BadEscape e.backslash
  low_more e (suc n) v b ms = go ms b (p.LowUnit e n v)

  abbrev pub low_unit_by : OpenEscape → ℕ → ℕ → Before → List Mode → Next
  low_unit_by e n v b ms = if is_hex g.value then low_more e n (hex_more v g.value) b ms else stop fault.BadEscape e.backslash

  -- a sign alone, and the character afresh
  abbrev pub alone : Span → Class → List Mode → Next
  alone s y ms = emit k.Punctuator s (fresh_by y before.Other ms)

  abbrev pub joined : Span → Before → List Mode → Next
  joined s b ms = emit k.Punctuator (upto s.start) (go ms b p.Fresh)

  abbrev pub opened : ℕ → Opener → List Mode → Next
  opened s a ms = emit (opener_kind a) (upto s) (go (m.Code (Some s) ∷ ms) before.Other p.Fresh)

  abbrev pub equals_by : Class → Span → Before → List Mode → Next
  equals_by (c.Sign sign.Equals) s b ms = go ms b (p.SignEquals s g.span)
  equals_by y s b ms = alone s y ms

  abbrev pub letter_by : Bool → Span → Before → List Mode → Next
  letter_by true s b ms = go ms b (p.TagName s.start g.span.start)
  letter_by false s b ms = alone s c.Letter ms

  abbrev pub less_by : Class → Span → Before → List Mode → Next
  less_by (c.Sign sign.Equals) s b ms = joined s before.Other ms
  less_by c.Letter s b ms = letter_by (allows_tag b) s b ms
  less_by y s b ms = alone s y ms

  abbrev pub assigned_by : Class → Span → List Mode → Next
  assigned_by (c.Sign sign.Equals) s ms = joined s before.Other ms
  assigned_by y s ms = alone s y ms

  abbrev pub plus_by : Class → Span → List Mode → Next
  plus_by (c.Sign sign.Plus) s ms = joined s before.Operand ms
  plus_by y s ms = assigned_by y s ms

  abbrev pub minus_by : Class → Span → List Mode → Next
  minus_by (c.Sign sign.Minus) s ms = joined s before.Operand ms
  minus_by y s ms = assigned_by y s ms

  abbrev pub slash_by : Class → Span → Before → List Mode → Next
  slash_by (c.Sign sign.Slash) s b ms = go ms b p.LineComment
  slash_by (c.Sign sign.Star) s b ms = go ms b (p.BlockComment s.start)
  slash_by y s b ms = assigned_by y s ms

  abbrev pub ampersand_by : Class → Span → List Mode → Next
  ampersand_by (c.Sign sign.Ampersand) s ms = joined s before.Other ms
  ampersand_by y s ms = stop fault.BadCharacter s.start

  abbrev pub bar_by : Class → Span → List Mode → Next
  bar_by (c.Sign sign.Bar) s ms = joined s before.Other ms
  bar_by y s ms = stop fault.BadCharacter s.start

  abbrev pub opener_by : Class → Span → Opener → List Mode → Next
  opener_by c.OpenBrace s a ms = opened s.start a ms
  opener_by y s a ms = stop fault.BadCharacter s.start

  abbrev pub sign_by : Class → Span → Sign → Before → List Mode → Next
  sign_by y s sign.Equals b ms = equals_by y s b ms
  sign_by y s sign.Exclamation b ms = equals_by y s b ms
  sign_by y s sign.Less b ms = less_by y s b ms
  sign_by y s sign.Greater b ms = assigned_by y s ms
  sign_by y s sign.Ampersand b ms = ampersand_by y s ms
  sign_by y s sign.Bar b ms = bar_by y s ms
  sign_by y s sign.Plus b ms = plus_by y s ms
  sign_by y s sign.Minus b ms = minus_by y s ms
  sign_by y s sign.Star b ms = assigned_by y s ms
  sign_by y s sign.Slash b ms = slash_by y s b ms
  sign_by y s sign.Percent b ms = assigned_by y s ms
  sign_by y s sign.Tilde b ms = opener_by y s opener.Tilde ms
  sign_by y s sign.Dollar b ms = opener_by y s opener.Dollar ms

  abbrev pub sign_equals_by : Class → Span → Span → List Mode → Next
  sign_equals_by (c.Sign sign.Equals) s t ms = joined s before.Other ms
  sign_equals_by y s t ms = emit k.Punctuator s (alone t y ms)

  abbrev pub line_by : Class → Before → List Mode → Next
  line_by c.LineFeed b ms = fresh_by c.LineFeed b ms
  line_by c.End b ms = fresh_by c.End b ms
  line_by y b ms = go ms b p.LineComment

  abbrev pub tag_name_by : Class → ℕ → ℕ → Before → List Mode → Next
  tag_name_by y s n b ms =
      if continues_tag y then go ms b (p.TagName s n) else emit k.TagOpen (here s) (fresh_by y before.Other (m.Tag s (is_among void_tag_names (text_of source (here n))) ∷ ms))

  -- the end is refused at the opening of the tag
  abbrev pub tag_unclosed : List Mode → Next
  tag_unclosed (m.Tag q v ∷ ms) = stop fault.Unclosed q
  tag_unclosed ms = stop fault.BadCharacter g.span.start

  abbrev pub value_quote_by : ℕ → Quote → Bool → Before → List Mode → Next
  value_quote_by s u true b ms = emit k.Quoted (upto s) (go ms before.Other p.Fresh)
  value_quote_by s u false b ms = go ms b (p.Quoted s u)

  abbrev pub value_by : Class → ℕ → Quote → Before → List Mode → Next
  value_by (c.Quote w) s u b ms = value_quote_by s u (is_same_quote w u) b ms
  value_by c.End s u b ms = tag_unclosed ms
  value_by y s u b ms = go ms b (p.Quoted s u)

  abbrev pub popped : Kind → Span → List Mode → Next
  popped kind span [] = stop fault.BadCharacter g.span.start
  popped kind span (z ∷ ms) = emit kind span (go ms before.Other p.Fresh)

  abbrev pub tag_slash_by : Class → ℕ → List Mode → Next
  tag_slash_by (c.Sign sign.Greater) s ms = popped k.TagEnd (upto s) ms
  tag_slash_by y s ms = stop fault.BadCharacter s

  abbrev pub child_text_by : Class → ℕ → Before → List Mode → Next
  child_text_by (c.Sign sign.Tilde) s b ms = go ms b (p.ChildTextSign s g.span.start opener.Tilde)
  child_text_by (c.Sign sign.Dollar) s b ms = go ms b (p.ChildTextSign s g.span.start opener.Dollar)
  child_text_by (c.Sign sign.Less) s b ms = emit k.ChildText (here s) (fresh_by (c.Sign sign.Less) before.Other ms)
  child_text_by c.End s b ms = emit k.ChildText (here s) (fresh_by c.End before.Other ms)
  child_text_by y s b ms = go ms b (p.ChildText s)

  abbrev pub child_text_sign_by : Class → ℕ → ℕ → Opener → Before → List Mode → Next
  child_text_sign_by c.OpenBrace s t a b ms =
      emit k.ChildText (between s t) (opened t a ms)
  child_text_sign_by y s t a b ms = child_text_by y s b ms

  abbrev pub child_sign_by : Class → ℕ → Opener → Before → List Mode → Next
  child_sign_by c.OpenBrace t a b ms = opened t a ms
  child_sign_by y t a b ms = child_text_by y t b ms

  abbrev pub child_less_by : Class → ℕ → Before → List Mode → Next
  child_less_by c.Letter s b ms = go ms b (p.TagName s g.span.start)
  child_less_by (c.Sign sign.Slash) s b ms = go ms b (p.CloseStart s)
  child_less_by y s b ms = stop fault.BadCharacter s

  abbrev pub close_start_by : Class → ℕ → Before → List Mode → Next
  close_start_by c.Letter s b ms = go ms b (p.CloseName s)
  close_start_by c.End s b ms = stop fault.Unclosed s
  close_start_by y s b ms = stop fault.BadCharacter g.span.start

  abbrev pub close_space_by : Class → ℕ → Before → List Mode → Next
  close_space_by c.White s b ms = go ms b (p.CloseSpace s)
  close_space_by c.LineFeed s b ms = go ms b (p.CloseSpace s)
  close_space_by c.CarriageReturn s b ms = go ms b (p.CloseSpace s)
  close_space_by (c.Sign sign.Greater) s b ms = popped k.CloseTag (upto s) ms
  close_space_by c.End s b ms = stop fault.Unclosed s
  close_space_by y s b ms = stop fault.BadCharacter g.span.start

  abbrev pub close_name_by : Class → ℕ → Before → List Mode → Next
  close_name_by y s b ms = if continues_tag y then go ms b (p.CloseName s) else close_space_by y s b ms

  abbrev pub step_by : Part → Class → Before → List Mode → Next
  step_by p.Fresh y b ms = fresh_by y b ms
  step_by (p.Name s) y b ms = if continues_name y then go ms b (p.Name s) else word_by y s b ms
  step_by (p.Zero s) y b ms = number_by y s ms
  step_by (p.Number s) y b ms = if is_digit y then go ms b (p.Number s) else number_by y s ms
  step_by (p.Text t) y b ms = text_by y t b ms
  step_by (p.Escape e) y b ms = escape_by e b ms
  step_by (p.Unicode e) y b ms = unicode_by e b ms
  step_by (p.Unit e n v) y b ms = unit_by e n v b ms
  step_by (p.CodePointStart e) y b ms = code_point_start_by e b ms
  step_by (p.CodePoint e n v) y b ms = code_point_by e n v b ms
  step_by (p.HighSurrogate e) y b ms = high_by e b ms
  step_by (p.LowEscape e) y b ms = low_escape_by e b ms
  step_by (p.LowUnit e n v) y b ms = low_unit_by e n v b ms
  step_by (p.Sign s a) y b ms = sign_by y s a b ms
  step_by (p.SignEquals s t) y b ms = sign_equals_by y s t ms
  step_by p.LineComment y b ms = line_by y b ms
  step_by (p.BlockComment s) y b ms = block_by y s b ms
  step_by (p.BlockStar s) y b ms = star_by y s b ms
  step_by (p.TagName s n) y b ms = tag_name_by y s n b ms
  step_by (p.AttributeName s) y b ms = if continues_attribute y then go ms b (p.AttributeName s) else emit k.AttributeName (here s) (fresh_by y before.Other ms)
  step_by (p.Quoted s u) y b ms = value_by y s u b ms
  step_by (p.TagSlash s) y b ms = tag_slash_by y s ms
  step_by (p.ChildText s) y b ms = child_text_by y s b ms
  step_by (p.ChildTextSign s t a) y b ms = child_text_sign_by y s t a b ms
  step_by (p.ChildSign t a) y b ms = child_sign_by y t a b ms
  step_by (p.ChildLess s) y b ms = child_less_by y s b ms
  step_by (p.CloseStart s) y b ms = close_start_by y s b ms
  step_by (p.CloseName s) y b ms = close_name_by y s b ms
  step_by (p.CloseSpace s) y b ms = close_space_by y s b ms

-- at the end nothing goes on
abbrev pub ends : Next → Outcome
ends (go ms b w) = finished
ends (emit kind span n) = token kind span (ends n)
ends (stop f at) = refused f at
ends done = finished

abbrev pub follows : (List Mode → Before → Part → Outcome) → Next → Outcome
follows f (go ms b w) = f ms b w
follows f (emit kind span n) = token kind span (follows f n)
follows f (stop r at) = refused r at
follows f done = finished

-- what stands for a character at the end of the source
abbrev pub end_mark : List ℕ → SourceChar
end_mark source = record { value = 0; span = between (length source) (length source) }

abbrev pub lexed : List ℕ → Chars → List Mode → Before → Part → Outcome
lexed source [] ms b w = ends (step_by source (end_mark source) w c.End b ms)
lexed source (x ∷ cs) ms b w = follows (lexed source cs) (step_by source x w (class x) b ms)
