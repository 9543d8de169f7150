-- What the machine does at a character of each class.
use Rattle.std.proofs.Common.{◌≡◌, ◌≢◌, ℕ, Bool, true, false, ◌&&◌, not, List, ◌∷◌, Option, Some, refl, ap}
use Rattle.std.specs.Prelude.{if◌then◌else◌}
use Rattle.mt_tree.specs.declared.place.Span.{Span}
use Rattle.mt_lexer.specs.declared.character.SourceChar.{SourceChar}
use Rattle.mt_lexer.specs.declared.character.Class.{Class}
use Rattle.mt_lexer.specs.declared.character.Class.TheVariants as c
use Rattle.mt_lexer.specs.declared.character.Sign.{Sign}
use Rattle.mt_lexer.specs.declared.character.Sign.TheVariants as sign
use Rattle.mt_tree.specs.declared.kind.Kind.TheVariants as k
use Rattle.mt_lexer.specs.declared.mode.Fault.TheVariants as fault
use Rattle.mt_lexer.specs.declared.mode.Mode.{Mode}
use Rattle.mt_lexer.specs.declared.mode.Mode.TheVariants as m
use Rattle.mt_lexer.specs.declared.mode.Before.{Before}
use Rattle.mt_lexer.specs.declared.mode.Before.TheVariants as before
use Rattle.mt_lexer.specs.declared.mode.Opener.{Opener}
use Rattle.mt_lexer.specs.declared.character.Quote.{Quote}
use Rattle.mt_lexer.specs.declared.character.Quote.TheVariants as quote
use Rattle.mt_lexer.specs.declared.part.OpenText.{OpenText}
use Rattle.mt_lexer.specs.declared.part.Part.TheVariants as p
use Rattle.mt_lexer.specs.Sign.{is_space, is_letter, is_digit, is_slash, is_open_brace, is_equals, is_greater, starts_name, in_line, in_child_text, quote_of, closes, is_plain, ends_line, in_value, sign_of, is_single, before_single, is_two, before_two, allows_tag, is_one, is_stray, begins_nothing, follows_no_less}
use Rattle.mt_lexer.specs.Machine.{go, emit, stop, upto, code_by, tag_by, number_by, step_by, text_by, text_closed, sign_by, equals_by, less_by, alone, joined, value_by, child_text_by, child_less_by, close_start_by, close_space_by, line_by, tag_slash_by}

module _ (source : List ℕ) (x : SourceChar) where
  pub code_space : (y : Class) (q : Option ℕ) (b : Before) (ms : List Mode) → is_space y ≡ true → code_by source x y q b ms ≡ go (m.Code q ∷ ms) b p.Fresh
  code_space c.White q b ms h = refl
  code_space c.LineFeed q b ms h = refl
  code_space c.CarriageReturn q b ms h = refl
  code_space _ q b ms h = absurd cc

  pub code_word : (y : Class) (q : Option ℕ) (b : Before) (ms : List Mode) → starts_name y ≡ true → code_by source x y q b ms ≡ go (m.Code q ∷ ms) b (p.Name x.span.start)
  code_word c.Letter q b ms h = refl
  code_word c.Underscore q b ms h = refl
  code_word c.NameStart q b ms h = refl
  code_word _ q b ms h = absurd cc

  pub code_sign : (y : Class) (a : Sign) (q : Option ℕ) (b : Before) (ms : List Mode) → sign_of y ≡ Some a → code_by source x y q b ms ≡ go (m.Code q ∷ ms) b (p.Sign x.span a)
  code_sign (c.Sign s) a q b ms h = ap (λ (a : Sign). go (m.Code q ∷ ms) b (p.Sign x.span a)) cc
  code_sign _ a q b ms h = absurd cc

  pub code_quote : (y : Class) (u : Quote) (q : Option ℕ) (b : Before) (ms : List Mode) → quote_of y ≡ Some u → code_by source x y q b ms ≡ go (m.Code q ∷ ms) b (p.Text (record { start = x.span.start; quote = u }))
  code_quote (c.Quote w) u q b ms h = ap (λ (u : Quote). go (m.Code q ∷ ms) b (p.Text (record { start = x.span.start; quote = u }))) cc
  code_quote _ u q b ms h = absurd cc

  pub code_single : (y : Class) (q : Option ℕ) (b : Before) (ms : List Mode) → is_single y ≡ true → code_by source x y q b ms ≡ emit k.Punctuator x.span (go (m.Code q ∷ ms) (before_single y) p.Fresh)
  code_single c.Closing q b ms h = refl
  code_single c.Dot q b ms h = refl
  code_single c.Colon q b ms h = refl
  code_single c.Separator q b ms h = refl
  code_single _ q b ms h = absurd cc

  pub code_nothing : (y : Class) (q : Option ℕ) (b : Before) (ms : List Mode) → begins_nothing y ≡ true → code_by source x y q b ms ≡ stop fault.BadCharacter x.span.start
  code_nothing c.NameContinue q b ms h = refl
  code_nothing c.Backslash q b ms h = refl
  code_nothing c.Other q b ms h = refl
  code_nothing _ q b ms h = absurd cc

  pub number_stays : (y : Class) (s : ℕ) (b : Before) (ms : List Mode) → is_digit y ≡ true → step_by source x (p.Number s) y b ms ≡ go ms b (p.Number s)
  number_stays y s b ms h = ap (λ (v : Bool). if v then go ms b (p.Number s) else number_by source x y s ms) h

  pub number_ends : (y : Class) (s : ℕ) (b : Before) (ms : List Mode) → is_digit y ≡ false → step_by source x (p.Number s) y b ms ≡ number_by source x y s ms
  number_ends y s b ms h = ap (λ (v : Bool). if v then go ms b (p.Number s) else number_by source x y s ms) h

  pub text_stays : (y : Class) (s : ℕ) (u : Quote) (b : Before) (ms : List Mode) → is_plain u y ≡ true → text_by source x y (record { start = s; quote = u }) b ms ≡ go ms b (p.Text (record { start = s; quote = u }))
  text_stays (c.Quote quote.Double) s quote.Double b ms h = absurd cc
  text_stays (c.Quote quote.Double) s quote.Single b ms h = refl
  text_stays (c.Quote quote.Single) s quote.Double b ms h = refl
  text_stays (c.Quote quote.Single) s quote.Single b ms h = absurd cc
  text_stays c.Backslash s quote.Double b ms h = absurd cc
  text_stays c.Backslash s quote.Single b ms h = absurd cc
  text_stays c.LineFeed s quote.Double b ms h = absurd cc
  text_stays c.LineFeed s quote.Single b ms h = absurd cc
  text_stays c.CarriageReturn s quote.Double b ms h = absurd cc
  text_stays c.CarriageReturn s quote.Single b ms h = absurd cc
  text_stays c.End s quote.Double b ms h = absurd cc
  text_stays c.End s quote.Single b ms h = absurd cc
  text_stays _ s u b ms h = refl

  pub text_ends : (y : Class) (s : ℕ) (u : Quote) (b : Before) (ms : List Mode) → closes u y ≡ true → text_by source x y (record { start = s; quote = u }) b ms ≡ text_closed source x (record { start = s; quote = u }) ms
  text_ends (c.Quote quote.Double) s quote.Double b ms h = refl
  text_ends (c.Quote quote.Single) s quote.Single b ms h = refl
  text_ends _ s quote.Double b ms h = absurd cc
  text_ends _ s quote.Single b ms h = absurd cc

  pub text_line : (y : Class) (t : OpenText) (b : Before) (ms : List Mode) → ends_line y ≡ true → text_by source x y t b ms ≡ stop fault.Unclosed t.start
  text_line c.LineFeed t b ms h = refl
  text_line c.CarriageReturn t b ms h = refl
  text_line c.End t b ms h = refl
  text_line _ t b ms h = absurd cc

  pub line_stays : (y : Class) (b : Before) (ms : List Mode) → in_line y ≡ true → line_by source x y b ms ≡ go ms b p.LineComment
  line_stays c.LineFeed b ms h = absurd cc
  line_stays c.End b ms h = absurd cc
  line_stays _ b ms h = refl

  pub line_ends : (y : Class) (b : Before) (ms : List Mode) → in_line y ≡ false → step_by source x p.LineComment y b ms ≡ step_by source x p.Fresh y b ms
  line_ends c.LineFeed b ms h = refl
  line_ends c.End b ms h = refl
  line_ends _ b ms h = absurd cc

  pub star_back : (y : Class) (s : ℕ) (b : Before) (ms : List Mode) → is_slash y ≡ false → step_by source x (p.BlockStar s) y b ms ≡ step_by source x (p.BlockComment s) y b ms
  star_back (c.Sign sign.Slash) s b ms h = absurd cc
  star_back _ s b ms h = refl

  pub value_stays : (y : Class) (s : ℕ) (u : Quote) (b : Before) (ms : List Mode) → in_value u y ≡ true → value_by source x y s u b ms ≡ go ms b (p.Quoted s u)
  value_stays (c.Quote quote.Double) s quote.Double b ms h = absurd cc
  value_stays (c.Quote quote.Double) s quote.Single b ms h = refl
  value_stays (c.Quote quote.Single) s quote.Double b ms h = refl
  value_stays (c.Quote quote.Single) s quote.Single b ms h = absurd cc
  value_stays c.End s quote.Double b ms h = absurd cc
  value_stays c.End s quote.Single b ms h = absurd cc
  value_stays _ s u b ms h = refl

  pub value_ends : (y : Class) (s : ℕ) (u : Quote) (b : Before) (ms : List Mode) → y ≢ c.End → in_value u y ≡ false → value_by source x y s u b ms ≡ emit k.Quoted (upto source x s) (go ms before.Other p.Fresh)
  value_ends (c.Quote quote.Double) s quote.Double b ms e h = refl
  value_ends (c.Quote quote.Single) s quote.Single b ms e h = refl
  value_ends c.End s u b ms e h = absurd (e refl)
  value_ends _ s quote.Double b ms e h = absurd cc
  value_ends _ s quote.Single b ms e h = absurd cc

  -- ---- signs

  pub two_joined : (a : Sign) (y : Class) (s : Span) (b : Before) (ms : List Mode) → is_two a y ≡ true → sign_by source x y s a b ms ≡ joined source x s (before_two a y) ms
  two_joined sign.Less (c.Sign sign.Equals) s b ms h = refl
  two_joined sign.Greater (c.Sign sign.Equals) s b ms h = refl
  two_joined sign.Ampersand (c.Sign sign.Ampersand) s b ms h = refl
  two_joined sign.Bar (c.Sign sign.Bar) s b ms h = refl
  two_joined sign.Plus (c.Sign sign.Plus) s b ms h = refl
  two_joined sign.Plus (c.Sign sign.Equals) s b ms h = refl
  two_joined sign.Minus (c.Sign sign.Minus) s b ms h = refl
  two_joined sign.Minus (c.Sign sign.Equals) s b ms h = refl
  two_joined sign.Star (c.Sign sign.Equals) s b ms h = refl
  two_joined sign.Slash (c.Sign sign.Equals) s b ms h = refl
  two_joined sign.Percent (c.Sign sign.Equals) s b ms h = refl
  two_joined _ _ s b ms h = absurd cc

  pub strayed : (a : Sign) (y : Class) (s : Span) (b : Before) (ms : List Mode) → is_stray a y ≡ true → sign_by source x y s a b ms ≡ stop fault.BadCharacter s.start
  strayed sign.Ampersand (c.Sign sign.Ampersand) s b ms h = absurd cc
  strayed sign.Ampersand _ s b ms h = refl
  strayed sign.Bar (c.Sign sign.Bar) s b ms h = absurd cc
  strayed sign.Bar _ s b ms h = refl
  strayed sign.Tilde c.OpenBrace s b ms h = absurd cc
  strayed sign.Tilde _ s b ms h = refl
  strayed sign.Dollar c.OpenBrace s b ms h = absurd cc
  strayed sign.Dollar _ s b ms h = refl
  strayed _ y s b ms h = absurd cc

  pub equals_alone : (y : Class) (s : Span) (b : Before) (ms : List Mode) → is_equals y ≡ false → equals_by source x y s b ms ≡ alone source x s y ms
  equals_alone (c.Sign sign.Equals) s b ms h = absurd cc
  equals_alone _ s b ms h = refl

  pub less_alone : (b : Before) (y : Class) (s : Span) (ms : List Mode) → (not (is_equals y) && not (is_letter y && allows_tag b)) ≡ true → less_by source x y s b ms ≡ alone source x s y ms
  less_alone b (c.Sign sign.Equals) s ms h = absurd cc
  less_alone before.Operand c.Letter s ms h = refl
  less_alone before.Dot c.Letter s ms h = absurd cc
  less_alone before.Other c.Letter s ms h = absurd cc
  less_alone b _ s ms h = refl

  pub child_less_nothing : (y : Class) (s : ℕ) (b : Before) (ms : List Mode) → follows_no_less y ≡ true → child_less_by source x y s b ms ≡ stop fault.BadCharacter s
  child_less_nothing c.Letter s b ms h = absurd cc
  child_less_nothing (c.Sign sign.Slash) s b ms h = absurd cc
  child_less_nothing _ s b ms h = refl

  -- a sign of one character, but for `=` and `!`
  abbrev pub may_be_three : Sign → Bool
  may_be_three sign.Equals = true
  may_be_three sign.Exclamation = true
  may_be_three _ = false

  pub one_alone : (a : Sign) (y z : Class) (s : Span) (b : Before) (ms : List Mode) → may_be_three a ≡ false → is_one b a y z ≡ true → sign_by source x y s a b ms ≡ alone source x s y ms
  one_alone sign.Equals y z s b ms e h = absurd cc
  one_alone sign.Exclamation y z s b ms e h = absurd cc
  one_alone sign.Less y z s b ms e h = less_alone b y s ms h
  one_alone sign.Greater (c.Sign sign.Equals) z s b ms e h = absurd cc
  one_alone sign.Greater _ z s b ms e h = refl
  one_alone sign.Ampersand y z s b ms e h = absurd cc
  one_alone sign.Bar y z s b ms e h = absurd cc
  one_alone sign.Plus (c.Sign sign.Plus) z s b ms e h = absurd cc
  one_alone sign.Plus (c.Sign sign.Equals) z s b ms e h = absurd cc
  one_alone sign.Plus _ z s b ms e h = refl
  one_alone sign.Minus (c.Sign sign.Minus) z s b ms e h = absurd cc
  one_alone sign.Minus (c.Sign sign.Equals) z s b ms e h = absurd cc
  one_alone sign.Minus _ z s b ms e h = refl
  one_alone sign.Star (c.Sign sign.Equals) z s b ms e h = absurd cc
  one_alone sign.Star _ z s b ms e h = refl
  one_alone sign.Slash (c.Sign sign.Equals) z s b ms e h = absurd cc
  one_alone sign.Slash (c.Sign sign.Slash) z s b ms e h = absurd cc
  one_alone sign.Slash (c.Sign sign.Star) z s b ms e h = absurd cc
  one_alone sign.Slash _ z s b ms e h = refl
  one_alone sign.Percent (c.Sign sign.Equals) z s b ms e h = absurd cc
  one_alone sign.Percent _ z s b ms e h = refl
  one_alone sign.Tilde y z s b ms e h = absurd cc
  one_alone sign.Dollar y z s b ms e h = absurd cc

  -- ---- tags

  pub tag_space : (y : Class) (q : ℕ) (v : Bool) (b : Before) (ms : List Mode) → is_space y ≡ true → tag_by source x y q v b ms ≡ go (m.Tag q v ∷ ms) b p.Fresh
  tag_space c.White q v b ms h = refl
  tag_space c.LineFeed q v b ms h = refl
  tag_space c.CarriageReturn q v b ms h = refl
  tag_space _ q v b ms h = absurd cc

  pub tag_quote : (y : Class) (u : Quote) (q : ℕ) (v : Bool) (b : Before) (ms : List Mode) → quote_of y ≡ Some u → tag_by source x y q v b ms ≡ go (m.Tag q v ∷ ms) b (p.Quoted x.span.start u)
  tag_quote (c.Quote w) u q v b ms h = ap (λ (u : Quote). go (m.Tag q v ∷ ms) b (p.Quoted x.span.start u)) cc
  tag_quote _ u q v b ms h = absurd cc

  -- ---- children

  pub child_text_stays : (y : Class) (s : ℕ) (b : Before) (ms : List Mode) → y ≢ (c.Sign sign.Tilde) → y ≢ (c.Sign sign.Dollar) → in_child_text y c.End ≡ true → child_text_by source x y s b ms ≡ go ms b (p.ChildText s)
  child_text_stays (c.Sign sign.Tilde) s b ms f g h = absurd (f refl)
  child_text_stays (c.Sign sign.Dollar) s b ms f g h = absurd (g refl)
  child_text_stays (c.Sign sign.Less) s b ms f g h = absurd cc
  child_text_stays c.End s b ms f g h = absurd cc
  child_text_stays _ s b ms f g h = refl

  pub close_start_bad : (y : Class) (s : ℕ) (b : Before) (ms : List Mode) → y ≢ c.Letter → y ≢ c.End → close_start_by source x y s b ms ≡ stop fault.BadCharacter x.span.start
  close_start_bad c.Letter s b ms f g = absurd (f refl)
  close_start_bad c.End s b ms f g = absurd (g refl)
  close_start_bad _ s b ms f g = refl

  pub close_space_stays : (y : Class) (s : ℕ) (b : Before) (ms : List Mode) → is_space y ≡ true → close_space_by source x y s b ms ≡ go ms b (p.CloseSpace s)
  close_space_stays c.White s b ms h = refl
  close_space_stays c.LineFeed s b ms h = refl
  close_space_stays c.CarriageReturn s b ms h = refl
  close_space_stays _ s b ms h = absurd cc

  pub close_space_bad : (y : Class) (s : ℕ) (b : Before) (ms : List Mode) → is_space y ≡ false → y ≢ (c.Sign sign.Greater) → y ≢ c.End → close_space_by source x y s b ms ≡ stop fault.BadCharacter x.span.start
  close_space_bad c.White s b ms e f g = absurd cc
  close_space_bad c.LineFeed s b ms e f g = absurd cc
  close_space_bad c.CarriageReturn s b ms e f g = absurd cc
  close_space_bad (c.Sign sign.Greater) s b ms e f g = absurd (f refl)
  close_space_bad c.End s b ms e f g = absurd (g refl)
  close_space_bad _ s b ms e f g = refl

  pub child_sign_back : (y : Class) (s at : ℕ) (a : Opener) (b : Before) (ms : List Mode) → is_open_brace y ≡ false
      → step_by source x (p.ChildTextSign s at a) y b ms ≡ step_by source x (p.ChildText s) y b ms
  child_sign_back c.OpenBrace s at a b ms h = absurd cc
  child_sign_back _ s at a b ms h = refl

  pub child_alone : (y : Class) (at : ℕ) (a : Opener) (b : Before) (ms : List Mode) → is_open_brace y ≡ false → step_by source x (p.ChildSign at a) y b ms ≡ step_by source x (p.ChildText at) y b ms
  child_alone c.OpenBrace at a b ms h = absurd cc
  child_alone _ at a b ms h = refl

  pub tag_slash_bad : (y : Class) (s : ℕ) (ms : List Mode) → is_greater y ≡ false → tag_slash_by source x y s ms ≡ stop fault.BadCharacter s
  tag_slash_bad (c.Sign sign.Greater) s ms h = absurd cc
  tag_slash_bad _ s ms h = refl
