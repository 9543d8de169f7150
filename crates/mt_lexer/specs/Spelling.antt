-- How a text is spelled, one case for each row of what each mode reads. Lexes source modes before cs o: in these modes, behind such a token, the rest cs of the source gives the outcome o.
use Rattle.std.specs.Prelude.{◌≡◌, ◌≢◌, ℕ, Bool, true, false, List, [], ◌∷◌, Option, Some, None}
use Rattle.mt_tree.specs.declared.place.Span.{Span}
use Rattle.mt_lexer.specs.declared.character.SourceChar.{SourceChar}
use Rattle.mt_lexer.specs.declared.character.Class.{Class}
use Rattle.mt_lexer.specs.declared.character.Class.TheVariants as c
use Rattle.mt_lexer.specs.declared.character.Sign.{Sign}
use Rattle.mt_lexer.specs.declared.character.Sign.TheVariants as sign
use Rattle.mt_tree.specs.declared.kind.Kind.{Kind}
use Rattle.mt_tree.specs.declared.kind.Kind.TheVariants as k
use Rattle.mt_lexer.specs.declared.mode.Fault.{Fault}
use Rattle.mt_lexer.specs.declared.mode.Fault.TheVariants as fault
use Rattle.mt_lexer.specs.declared.mode.Mode.{Mode}
use Rattle.mt_lexer.specs.declared.mode.Mode.TheVariants as m
use Rattle.mt_lexer.specs.declared.mode.Before.{Before}
use Rattle.mt_lexer.specs.declared.mode.Before.TheVariants as before
use Rattle.mt_lexer.specs.declared.mode.Opener.{Opener}
use Rattle.mt_lexer.specs.declared.character.Quote.{Quote}
use Rattle.mt_lexer.specs.Character.{Chars, class, first, second, place, between, until, through, text_of}
use Rattle.mt_lexer.specs.Sign.{is_space, is_digit, starts_name, continues_name, continues_tag, continues_attribute, spoils_number, in_line, in_block, in_child_text, opener_of, opener_kind, quote_of, closes, is_plain, ends_line, in_value, sign_of, is_single, before_single, is_three, is_two, before_two, allows_tag, is_one, is_stray, begins_nothing, begins_nothing_in_tag, follows_no_less}
use Rattle.mt_lexer.specs.Word.{word_kind, before_word, is_number}
use Rattle.mt_lexer.specs.Escape.{escape}
use Rattle.mt_tree.specs.Tables.{is_among, void_tag_names}

-- the tokens, up to the end or the first refusal with its byte
pub data Outcome : Type 0 where
  finished : Outcome
  token : Kind → Span → Outcome → Outcome
  refused : Fault → ℕ → Outcome

-- the longest run of characters that pass, each tested with the one after it, and what follows the run
pub data Run (passes : Class → Class → Bool) : Chars → Chars → Type 0 where
  run_end : {cs : Chars} → passes (first cs) (second cs) ≡ false → Run passes cs cs
  run_more : {x : SourceChar} {cs rest : Chars} → passes (class x) (first cs) ≡ true → Run passes cs rest → Run passes (x ∷ cs) rest

-- the longest run of characters of these classes
abbrev pub RunOf : (Class → Bool) → Chars → Chars → Type 0
RunOf passes = Run (λ y z. passes y)

-- how a text that is open goes on: it is closed before a byte and a rest, or refused
pub data TextEnd : Type 0 where
  closed : ℕ → Chars → TextEnd
  broken : Fault → ℕ → TextEnd

-- inside a text of code that began at the byte `start`
pub data InText (start : ℕ) (q : Quote) : Chars → TextEnd → Type 0 where
  text_closes : {x : SourceChar} {cs : Chars} → closes q (class x) ≡ true → InText start q (x ∷ cs) (closed x.span.end cs)
  text_plain : {x : SourceChar} {cs : Chars} {r : TextEnd} → is_plain q (class x) ≡ true → InText start q cs r → InText start q (x ∷ cs) r
  text_escape : {x : SourceChar} {cs rest : Chars} {r : TextEnd} (character : ℕ) → class x ≡ c.Backslash → escape cs ≡ Some (character, rest) → InText start q rest r → InText start q (x ∷ cs) r
  text_bad_escape : {x : SourceChar} {cs : Chars} → class x ≡ c.Backslash → escape cs ≡ None → InText start q (x ∷ cs) (broken fault.BadEscape x.span.start)
  text_unclosed : {cs : Chars} → ends_line (first cs) ≡ true → InText start q cs (broken fault.Unclosed start)

-- behind its first digit, a number: 0 stands alone, another has all digits that follow
pub data Digits : Class → Chars → Chars → Type 0 where
  zero_alone : {cs : Chars} → Digits c.Zero cs cs
  more_digits : {cs rest : Chars} → RunOf is_digit cs rest → Digits c.Digit cs rest

-- behind `</`, the name of a tag and white space
pub data CloseName : Chars → Chars → Type 0 where
  close_name : {x : SourceChar} {cs mid rest : Chars} → class x ≡ c.Letter → RunOf continues_tag cs mid → RunOf is_space mid rest → CloseName (x ∷ cs) rest

-- where `<` and a letter open a tag
abbrev pub opens_tag : Mode → Before → Bool
opens_tag (m.Code q) b = allows_tag b
opens_tag (m.Tag q v) b = false
opens_tag (m.Children q) b = true

pub data Lexes (source : List ℕ) : List Mode → Before → Chars → Outcome → Type 0 where
  -- code
  l_done : {b : Before} {ms : List Mode} → Lexes source (m.Code None ∷ ms) b [] finished
  l_open : {q : ℕ} {b : Before} {ms : List Mode} → Lexes source (m.Code (Some q) ∷ ms) b [] (refused fault.Unclosed q)
  l_space : {q : Option ℕ} {b : Before} {ms : List Mode} {x : SourceChar} {cs : Chars} {o : Outcome} → is_space (class x) ≡ true → Lexes source (m.Code q ∷ ms) b cs o → Lexes source (m.Code q ∷ ms) b (x ∷ cs) o
  l_line_comment : {q : Option ℕ} {b : Before} {ms : List Mode} {x y : SourceChar} {cs rest : Chars} {o : Outcome} → class x ≡ (c.Sign sign.Slash) → class y ≡ (c.Sign sign.Slash) → RunOf in_line cs rest
      → Lexes source (m.Code q ∷ ms) b rest o → Lexes source (m.Code q ∷ ms) b (x ∷ y ∷ cs) o
  l_block_comment : {q : Option ℕ} {b : Before} {ms : List Mode} {x y v w : SourceChar} {cs rest : Chars} {o : Outcome} → class x ≡ (c.Sign sign.Slash) → class y ≡ (c.Sign sign.Star) → Run in_block cs (v ∷ w ∷ rest)
      → class v ≡ (c.Sign sign.Star) → class w ≡ (c.Sign sign.Slash) → Lexes source (m.Code q ∷ ms) b rest o → Lexes source (m.Code q ∷ ms) b (x ∷ y ∷ cs) o
  l_block_open : {q : Option ℕ} {b : Before} {ms : List Mode} {x y : SourceChar} {cs : Chars} → class x ≡ (c.Sign sign.Slash) → class y ≡ (c.Sign sign.Star) → Run in_block cs []
      → Lexes source (m.Code q ∷ ms) b (x ∷ y ∷ cs) (refused fault.Unclosed x.span.start)
  l_word : {q : Option ℕ} {b : Before} {ms : List Mode} {x : SourceChar} {cs rest : Chars} {o : Outcome} → starts_name (class x) ≡ true → RunOf continues_name cs rest
      → Lexes source (m.Code q ∷ ms) (before_word b (text_of source (until source x rest))) rest o
      → Lexes source (m.Code q ∷ ms) b (x ∷ cs) (token (word_kind (text_of source (until source x rest))) (until source x rest) o)
  l_number : {q : Option ℕ} {b : Before} {ms : List Mode} {x : SourceChar} {cs rest : Chars} {o : Outcome} → Digits (class x) cs rest → spoils_number (first rest) ≡ false
      → is_number (text_of source (until source x rest)) ≡ true → Lexes source (m.Code q ∷ ms) before.Operand rest o
      → Lexes source (m.Code q ∷ ms) b (x ∷ cs) (token k.Number (until source x rest) o)
  l_number_spoiled : {q : Option ℕ} {b : Before} {ms : List Mode} {x : SourceChar} {cs rest : Chars} → Digits (class x) cs rest → spoils_number (first rest) ≡ true
      → Lexes source (m.Code q ∷ ms) b (x ∷ cs) (refused fault.BadCharacter (place source rest))
  l_number_large : {q : Option ℕ} {b : Before} {ms : List Mode} {x : SourceChar} {cs rest : Chars} → Digits (class x) cs rest → spoils_number (first rest) ≡ false
      → is_number (text_of source (until source x rest)) ≡ false → Lexes source (m.Code q ∷ ms) b (x ∷ cs) (refused fault.NumberTooLarge x.span.start)
  l_text : {q : Option ℕ} {b : Before} {ms : List Mode} {x : SourceChar} {cs rest : Chars} {o : Outcome} {u : Quote} {end : ℕ} → quote_of (class x) ≡ Some u → InText x.span.start u cs (closed end rest)
      → Lexes source (m.Code q ∷ ms) before.Operand rest o → Lexes source (m.Code q ∷ ms) b (x ∷ cs) (token k.Text (between x.span.start end) o)
  l_text_refused : {q : Option ℕ} {b : Before} {ms : List Mode} {x : SourceChar} {cs : Chars} {u : Quote} {f : Fault} {at : ℕ} → quote_of (class x) ≡ Some u → InText x.span.start u cs (broken f at)
      → Lexes source (m.Code q ∷ ms) b (x ∷ cs) (refused f at)
  -- an open brace is one more mode of the same code
  l_brace : {q : Option ℕ} {b : Before} {ms : List Mode} {x : SourceChar} {cs : Chars} {o : Outcome} → class x ≡ c.OpenBrace → Lexes source (m.Code q ∷ m.Code q ∷ ms) before.Other cs o
      → Lexes source (m.Code q ∷ ms) b (x ∷ cs) (token k.Punctuator x.span o)
  l_close : {q : Option ℕ} {b : Before} {z : Mode} {ms : List Mode} {x : SourceChar} {cs : Chars} {o : Outcome} → class x ≡ c.CloseBrace → Lexes source (z ∷ ms) before.Other cs o
      → Lexes source (m.Code q ∷ z ∷ ms) b (x ∷ cs) (token k.Punctuator x.span o)
  l_close_first : {q : Option ℕ} {b : Before} {x : SourceChar} {cs : Chars} {o : Outcome} → class x ≡ c.CloseBrace → Lexes source (m.Code q ∷ []) before.Other cs o
      → Lexes source (m.Code q ∷ []) b (x ∷ cs) (token k.Punctuator x.span o)
  l_single : {q : Option ℕ} {b : Before} {ms : List Mode} {x : SourceChar} {cs : Chars} {o : Outcome} → is_single (class x) ≡ true → Lexes source (m.Code q ∷ ms) (before_single (class x)) cs o
      → Lexes source (m.Code q ∷ ms) b (x ∷ cs) (token k.Punctuator x.span o)
  l_three : {q : Option ℕ} {b : Before} {ms : List Mode} {x y z : SourceChar} {cs : Chars} {o : Outcome} {a : Sign} → sign_of (class x) ≡ Some a → is_three a (class y) (class z) ≡ true
      → Lexes source (m.Code q ∷ ms) before.Other cs o → Lexes source (m.Code q ∷ ms) b (x ∷ y ∷ z ∷ cs) (token k.Punctuator (through x z) o)
  l_two : {q : Option ℕ} {b : Before} {ms : List Mode} {x y : SourceChar} {cs : Chars} {o : Outcome} {a : Sign} → sign_of (class x) ≡ Some a → is_two a (class y) ≡ true
      → Lexes source (m.Code q ∷ ms) (before_two a (class y)) cs o → Lexes source (m.Code q ∷ ms) b (x ∷ y ∷ cs) (token k.Punctuator (through x y) o)
  l_one : {q : Option ℕ} {b : Before} {ms : List Mode} {x : SourceChar} {cs : Chars} {o : Outcome} {a : Sign} → sign_of (class x) ≡ Some a → is_one b a (first cs) (second cs) ≡ true
      → Lexes source (m.Code q ∷ ms) before.Other cs o → Lexes source (m.Code q ∷ ms) b (x ∷ cs) (token k.Punctuator x.span o)
  l_stray : {q : Option ℕ} {b : Before} {ms : List Mode} {x : SourceChar} {cs : Chars} {a : Sign} → sign_of (class x) ≡ Some a → is_stray a (first cs) ≡ true
      → Lexes source (m.Code q ∷ ms) b (x ∷ cs) (refused fault.BadCharacter x.span.start)
  l_bad : {q : Option ℕ} {b : Before} {ms : List Mode} {x : SourceChar} {cs : Chars} → begins_nothing (class x) ≡ true → Lexes source (m.Code q ∷ ms) b (x ∷ cs) (refused fault.BadCharacter x.span.start)
  -- every mode
  l_opener : {b : Before} {z : Mode} {ms : List Mode} {x y : SourceChar} {cs : Chars} {o : Outcome} {a : Opener} → opener_of (class x) ≡ Some a → class y ≡ c.OpenBrace
      → Lexes source (m.Code (Some x.span.start) ∷ z ∷ ms) before.Other cs o → Lexes source (z ∷ ms) b (x ∷ y ∷ cs) (token (opener_kind a) (through x y) o)
  l_tag_open : {b : Before} {z : Mode} {ms : List Mode} {x y : SourceChar} {cs rest : Chars} {o : Outcome} → class x ≡ (c.Sign sign.Less) → class y ≡ c.Letter → opens_tag z b ≡ true → RunOf continues_tag cs rest
      → Lexes source (m.Tag x.span.start (is_among void_tag_names (text_of source (until source y rest))) ∷ z ∷ ms) before.Other rest o → Lexes source (z ∷ ms) b (x ∷ y ∷ cs) (token k.TagOpen (until source x rest) o)
  -- a tag
  g_end : {q : ℕ} {v : Bool} {b : Before} {ms : List Mode} → Lexes source (m.Tag q v ∷ ms) b [] (refused fault.Unclosed q)
  g_space : {q : ℕ} {v : Bool} {b : Before} {ms : List Mode} {x : SourceChar} {cs : Chars} {o : Outcome} → is_space (class x) ≡ true → Lexes source (m.Tag q v ∷ ms) b cs o → Lexes source (m.Tag q v ∷ ms) b (x ∷ cs) o
  g_name : {q : ℕ} {v : Bool} {b : Before} {ms : List Mode} {x : SourceChar} {cs rest : Chars} {o : Outcome} → class x ≡ c.Letter → RunOf continues_attribute cs rest
      → Lexes source (m.Tag q v ∷ ms) before.Other rest o → Lexes source (m.Tag q v ∷ ms) b (x ∷ cs) (token k.AttributeName (until source x rest) o)
  g_equals : {q : ℕ} {v : Bool} {b : Before} {ms : List Mode} {x : SourceChar} {cs : Chars} {o : Outcome} → class x ≡ (c.Sign sign.Equals) → Lexes source (m.Tag q v ∷ ms) before.Other cs o
      → Lexes source (m.Tag q v ∷ ms) b (x ∷ cs) (token k.Punctuator x.span o)
  g_quoted : {q : ℕ} {v : Bool} {b : Before} {ms : List Mode} {x y : SourceChar} {cs rest : Chars} {o : Outcome} {u : Quote} → quote_of (class x) ≡ Some u → RunOf (in_value u) cs (y ∷ rest)
      → Lexes source (m.Tag q v ∷ ms) before.Other rest o → Lexes source (m.Tag q v ∷ ms) b (x ∷ cs) (token k.Quoted (through x y) o)
  g_quoted_open : {q : ℕ} {v : Bool} {b : Before} {ms : List Mode} {x : SourceChar} {cs : Chars} {u : Quote} → quote_of (class x) ≡ Some u → RunOf (in_value u) cs []
      → Lexes source (m.Tag q v ∷ ms) b (x ∷ cs) (refused fault.Unclosed q)
  g_empty : {q : ℕ} {v : Bool} {b : Before} {ms : List Mode} {x y : SourceChar} {cs : Chars} {o : Outcome} → class x ≡ (c.Sign sign.Slash) → class y ≡ (c.Sign sign.Greater) → Lexes source ms before.Other cs o
      → Lexes source (m.Tag q v ∷ ms) b (x ∷ y ∷ cs) (token k.TagEnd (through x y) o)
  g_void : {q : ℕ} {b : Before} {ms : List Mode} {x : SourceChar} {cs : Chars} {o : Outcome} → class x ≡ (c.Sign sign.Greater) → Lexes source ms before.Other cs o
      → Lexes source (m.Tag q true ∷ ms) b (x ∷ cs) (token k.TagEnd x.span o)
  g_children : {q : ℕ} {b : Before} {ms : List Mode} {x : SourceChar} {cs : Chars} {o : Outcome} → class x ≡ (c.Sign sign.Greater) → Lexes source (m.Children q ∷ ms) before.Other cs o
      → Lexes source (m.Tag q false ∷ ms) b (x ∷ cs) (token k.TagEnd x.span o)
  g_bad : {q : ℕ} {v : Bool} {b : Before} {ms : List Mode} {x : SourceChar} {cs : Chars} → begins_nothing_in_tag (class x) (first cs) ≡ true → Lexes source (m.Tag q v ∷ ms) b (x ∷ cs) (refused fault.BadCharacter x.span.start)
  -- children
  h_end : {q : ℕ} {b : Before} {ms : List Mode} → Lexes source (m.Children q ∷ ms) b [] (refused fault.Unclosed q)
  h_text : {q : ℕ} {b : Before} {ms : List Mode} {x : SourceChar} {cs rest : Chars} {o : Outcome} → in_child_text (class x) (first cs) ≡ true → Run in_child_text cs rest
      → Lexes source (m.Children q ∷ ms) before.Other rest o → Lexes source (m.Children q ∷ ms) b (x ∷ cs) (token k.ChildText (until source x rest) o)
  h_close : {q : ℕ} {b : Before} {ms : List Mode} {x y z : SourceChar} {cs rest : Chars} {o : Outcome} → class x ≡ (c.Sign sign.Less) → class y ≡ (c.Sign sign.Slash) → CloseName cs (z ∷ rest) → class z ≡ (c.Sign sign.Greater)
      → Lexes source ms before.Other rest o → Lexes source (m.Children q ∷ ms) b (x ∷ y ∷ cs) (token k.CloseTag (through x z) o)
  h_close_bad : {q : ℕ} {b : Before} {ms : List Mode} {x y z : SourceChar} {cs rest : Chars} → class x ≡ (c.Sign sign.Less) → class y ≡ (c.Sign sign.Slash) → CloseName cs (z ∷ rest) → class z ≢ (c.Sign sign.Greater)
      → Lexes source (m.Children q ∷ ms) b (x ∷ y ∷ cs) (refused fault.BadCharacter z.span.start)
  h_close_unnamed : {q : ℕ} {b : Before} {ms : List Mode} {x y z : SourceChar} {cs : Chars} → class x ≡ (c.Sign sign.Less) → class y ≡ (c.Sign sign.Slash) → class z ≢ c.Letter
      → Lexes source (m.Children q ∷ ms) b (x ∷ y ∷ z ∷ cs) (refused fault.BadCharacter z.span.start)
  h_close_open : {q : ℕ} {b : Before} {ms : List Mode} {x y : SourceChar} {cs : Chars} → class x ≡ (c.Sign sign.Less) → class y ≡ (c.Sign sign.Slash) → CloseName cs []
      → Lexes source (m.Children q ∷ ms) b (x ∷ y ∷ cs) (refused fault.Unclosed x.span.start)
  h_close_end : {q : ℕ} {b : Before} {ms : List Mode} {x y : SourceChar} → class x ≡ (c.Sign sign.Less) → class y ≡ (c.Sign sign.Slash) → Lexes source (m.Children q ∷ ms) b (x ∷ y ∷ []) (refused fault.Unclosed x.span.start)
  h_bad : {q : ℕ} {b : Before} {ms : List Mode} {x : SourceChar} {cs : Chars} → class x ≡ (c.Sign sign.Less) → follows_no_less (first cs) ≡ true → Lexes source (m.Children q ∷ ms) b (x ∷ cs) (refused fault.BadCharacter x.span.start)
