-- What the machine reads of each part of a source.
use Rattle.std.proofs.Common.{◌≡◌, ◌≢◌, ℕ, Bool, true, false, ◌&&◌, not, List, [], ◌∷◌, Option, refl, sym, ap, ◌∙◌}
use Rattle.std.specs.Prelude.{cond, nat_lt, if◌then◌else◌}
use Rattle.mt_tree.specs.declared.place.Span.{Span}
use Rattle.mt_lexer.specs.declared.character.SourceChar.{SourceChar}
use Rattle.mt_lexer.specs.declared.character.Class.{Class}
use Rattle.mt_lexer.specs.declared.character.Class.TheVariants as c
use Rattle.mt_lexer.specs.declared.character.Sign.{Sign}
use Rattle.mt_lexer.specs.declared.character.Sign.TheVariants as sign
use Rattle.mt_tree.specs.declared.kind.Kind.TheVariants as k
use Rattle.mt_lexer.specs.declared.mode.Fault.TheVariants as fault
use Rattle.mt_lexer.specs.declared.mode.Mode.{Mode}
use Rattle.mt_lexer.specs.declared.mode.Mode.TheVariants as m
use Rattle.mt_lexer.specs.declared.mode.Before.{Before}
use Rattle.mt_lexer.specs.declared.mode.Before.TheVariants as before
use Rattle.mt_lexer.specs.declared.mode.Opener.{Opener}
use Rattle.mt_lexer.specs.declared.mode.Opener.TheVariants as opener
use Rattle.mt_lexer.specs.declared.character.Quote.{Quote}
use Rattle.mt_lexer.specs.declared.part.OpenText.{OpenText}
use Rattle.mt_lexer.specs.declared.part.OpenEscape.{OpenEscape}
use Rattle.mt_lexer.specs.declared.part.Part.TheVariants as p
use Rattle.mt_lexer.specs.Character.{Chars, class_of, sign_class, ascii_class, wide_class, class, first, second, place, between, through, text_of}
use Rattle.mt_lexer.specs.Sign.{is_space, is_slash, is_equals, is_open_brace, continues_name, continues_tag, continues_attribute, spoils_number, in_line, in_block, in_child_text, in_value, is_three, is_one}
use Rattle.mt_lexer.specs.Word.{word_kind, before_word, is_number}
use Rattle.mt_lexer.specs.Spelling.{Outcome, token, refused, Run, run_end, run_more, RunOf, TextEnd, closed, broken, InText, text_closes, text_plain, text_escape, text_bad_escape, text_unclosed, Digits, zero_alone, more_digits, CloseName, close_name}
use Rattle.mt_lexer.specs.Machine.{go, emit, stop, here, step_by, fresh_by, word_by, number_by, equals_by, sign_equals_by, alone, close_space_by, ends, follows, end_mark, lexed}
use Rattle.mt_lexer.proofs.Unroll.{head, next, unroll, afresh, afresh_at, again, stopped, at_class, run, run_stops}
use Rattle.mt_lexer.proofs.Escapes.{after_escape, escapes}
use Rattle.mt_lexer.proofs.Tables as t
use Rattle.mt_tree.specs.Tables.{is_among, void_tag_names}

abbrev pub is_end : Class → Bool
is_end c.End = true
is_end _ = false

pub chosen : (b : Bool) (y z : Class) → is_end y ≡ false → is_end z ≡ false → is_end (cond b y z) ≡ false
chosen true y z h g = h
chosen false y z h g = g

pub sign_no_end : (x : ℕ) → is_end (sign_class x) ≡ false
sign_no_end x = search chosen depth 60

pub ascii_no_end : (x : ℕ) → is_end (ascii_class x) ≡ false
ascii_no_end x = search (chosen, sign_no_end x) depth 30

pub wide_no_end : (x : ℕ) → is_end (wide_class x) ≡ false
wide_no_end x = search chosen depth 30

-- a character is never the end
pub not_end : (x : ℕ) → class_of x ≢ c.End
not_end x e = let both : false ≡ true = sym (chosen (nat_lt x 128) (ascii_class x) (wide_class x) (ascii_no_end x) (wide_no_end x)) ∙ ap is_end e in cc

module _ (source : List ℕ) where
  -- ---- words and numbers

  pub word_ends : (rest : Chars) (s : ℕ) (ms : List Mode) (b : Before) → continues_name (first rest) ≡ false → lexed source rest ms b (p.Name s)
      ≡ token (word_kind (text_of source (between s (place source rest)))) (between s (place source rest)) (lexed source rest ms (before_word b (text_of source (between s (place source rest)))) p.Fresh)
  word_ends [] s ms b h = refl
  word_ends (x ∷ rest) s ms b h = ap (λ (t : Bool). follows (lexed source rest) (if t then go ms b (p.Name s) else word_by source x (class x) s b ms)) h

  pub words : {cs rest : Chars} → RunOf continues_name cs rest → (s : ℕ) (ms : List Mode) (b : Before) → lexed source cs ms b (p.Name s) ≡ lexed source rest ms b (p.Name s)
  words r s ms b = run source r ms b (p.Name s) (λ x y z h. ap (λ (t : Bool). if t then go ms b (p.Name s) else word_by source x y s b ms) h)

  pub numbers : {y : Class} {cs rest : Chars} → Digits y cs rest → (x : SourceChar) (q : Option ℕ) (ms : List Mode) (b : Before) → class x ≡ y
      → lexed source (x ∷ cs) (m.Code q ∷ ms) b p.Fresh ≡ next source rest (number_by source (head source rest) (first rest) x.span.start (m.Code q ∷ ms))
  numbers (zero_alone {cs}) x q ms b e = at_class source c.Zero x cs (m.Code q ∷ ms) b p.Fresh e ∙ unroll source cs (m.Code q ∷ ms) b (p.Zero x.span.start)
  numbers (more_digits {cs} {rest} r) x q ms b e =
      let s = x.span.start in let ns = m.Code q ∷ ms in
      at_class source c.Digit x cs ns b p.Fresh e ∙ run source r ns b (p.Number s) (λ x y z h. t.number_stays source x y s b ns h)
      ∙ unroll source rest ns b (p.Number s) ∙ ap (next source rest) (t.number_ends source (head source rest) (first rest) s b ns (run_stops r))

  -- what follows the digits decides
  pub number_spoiled : (rest : Chars) (s : ℕ) (ms : List Mode) → spoils_number (first rest) ≡ true → next source rest (number_by source (head source rest) (first rest) s ms) ≡ refused fault.BadCharacter (place source rest)
  number_spoiled [] s ms h = absurd cc
  number_spoiled (x ∷ rest) s ms h = ap (λ (t : Bool). follows (lexed source rest) (if t then stop fault.BadCharacter x.span.start
      else if is_number (text_of source (here source x s)) then emit k.Number (here source x s) (fresh_by source x (class x) before.Operand ms) else stop fault.NumberTooLarge s)) h

  pub number_large : (rest : Chars) (s : ℕ) (ms : List Mode) → spoils_number (first rest) ≡ false → is_number (text_of source (between s (place source rest))) ≡ false
      → next source rest (number_by source (head source rest) (first rest) s ms) ≡ refused fault.NumberTooLarge s
  number_large [] s ms h l = ap (λ (t : Bool). ends (if t then emit k.Number (here source (end_mark source) s) (fresh_by source (end_mark source) c.End before.Operand ms) else stop fault.NumberTooLarge s)) l
  number_large (x ∷ rest) s ms h l =
      ap (λ (t : Bool). follows (lexed source rest) (if t then stop fault.BadCharacter x.span.start
      else if is_number (text_of source (here source x s)) then emit k.Number (here source x s) (fresh_by source x (class x) before.Operand ms) else stop fault.NumberTooLarge s)) h
      ∙ ap (λ (t : Bool). follows (lexed source rest) (if t then emit k.Number (here source x s) (fresh_by source x (class x) before.Operand ms) else stop fault.NumberTooLarge s)) l

  pub number_good : (rest : Chars) (s : ℕ) (ms : List Mode) → spoils_number (first rest) ≡ false → is_number (text_of source (between s (place source rest))) ≡ true
      → next source rest (number_by source (head source rest) (first rest) s ms) ≡ token k.Number (between s (place source rest)) (lexed source rest ms before.Operand p.Fresh)
  number_good [] s ms h l = ap (λ (t : Bool). ends (if t then emit k.Number (here source (end_mark source) s) (fresh_by source (end_mark source) c.End before.Operand ms) else stop fault.NumberTooLarge s)) l
  number_good (x ∷ rest) s ms h l =
      ap (λ (t : Bool). follows (lexed source rest) (if t then stop fault.BadCharacter x.span.start
      else if is_number (text_of source (here source x s)) then emit k.Number (here source x s) (fresh_by source x (class x) before.Operand ms) else stop fault.NumberTooLarge s)) h
      ∙ ap (λ (t : Bool). follows (lexed source rest) (if t then emit k.Number (here source x s) (fresh_by source x (class x) before.Operand ms) else stop fault.NumberTooLarge s)) l

  -- ---- texts and comments

  abbrev pub open_text : ℕ → Quote → OpenText
  open_text s u = record { start = s; quote = u }

  abbrev pub after_text : ℕ → List Mode → TextEnd → Outcome
  after_text s ms (closed end rest) = token k.Text (between s end) (lexed source rest ms before.Operand p.Fresh)
  after_text s ms (broken f at) = refused f at

  pub texts : {s : ℕ} {u : Quote} {cs : Chars} {r : TextEnd} → InText s u cs r → (ms : List Mode) (b : Before) → lexed source cs ms b (p.Text (open_text s u)) ≡ after_text s ms r
  texts {s} {u} (text_closes {x} {cs} h) ms b = ap (follows (lexed source cs)) (t.text_ends source x (class x) s u b ms h)
  texts {s} {u} (text_plain {x} {cs} h d) ms b = ap (follows (lexed source cs)) (t.text_stays source x (class x) s u b ms h) ∙ texts d ms b
  texts {s} {u} (text_escape {x} {cs} {rest} v q h d) ms b =
      let e : OpenEscape = record { text = open_text s u; backslash = x.span.start } in
      at_class source c.Backslash x cs ms b (p.Text (open_text s u)) q ∙ escapes source e ms b cs ∙ ap (after_escape source e ms b) h ∙ texts d ms b
  texts {s} {u} (text_bad_escape {x} {cs} q h) ms b =
      let e : OpenEscape = record { text = open_text s u; backslash = x.span.start } in
      at_class source c.Backslash x cs ms b (p.Text (open_text s u)) q ∙ escapes source e ms b cs ∙ ap (after_escape source e ms b) h
  texts {s} {u} (text_unclosed {cs} h) ms b =
      stopped source cs ms b (p.Text (open_text s u)) fault.Unclosed s (t.text_line source (head source cs) (first cs) (open_text s u) b ms h)

  pub lines : {cs rest : Chars} → RunOf in_line cs rest → (ms : List Mode) (b : Before) → lexed source cs ms b p.LineComment ≡ lexed source rest ms b p.Fresh
  lines {cs} {rest} r ms b =
      run source r ms b p.LineComment (λ x y z h. t.line_stays source x y b ms h) ∙ again source rest ms b p.LineComment p.Fresh (t.line_ends source (head source rest) (first rest) b ms (run_stops r))

  pub not_true : (v : Bool) → not v ≡ true → v ≡ false
  not_true true h = absurd cc
  not_true false h = refl

  pub block_more : (y : Class) (x : SourceChar) (cs : Chars) (s : ℕ) (ms : List Mode) (b : Before) → class x ≡ y → in_block y (first cs) ≡ true
      → lexed source (x ∷ cs) ms b (p.BlockComment s) ≡ lexed source cs ms b (p.BlockComment s)
  block_more c.End x cs s ms b e h = absurd cc
  block_more (c.Sign sign.Star) x cs s ms b e h =
      at_class source (c.Sign sign.Star) x cs ms b (p.BlockComment s) e
      ∙ again source cs ms b (p.BlockStar s) (p.BlockComment s) (t.star_back source (head source cs) (first cs) s b ms (not_true (is_slash (first cs)) h))
  block_more y x cs s ms b e h = at_class source y x cs ms b (p.BlockComment s) e

  pub blocks : {cs rest : Chars} → Run in_block cs rest → (s : ℕ) (ms : List Mode) (b : Before) → lexed source cs ms b (p.BlockComment s) ≡ lexed source rest ms b (p.BlockComment s)
  blocks (run_end h) s ms b = refl
  blocks (run_more {x} {cs} h d) s ms b = block_more (class x) x cs s ms b refl h ∙ blocks d s ms b

  -- ---- signs

  pub both_equals : (y z : Class) → (is_equals y && is_equals z) ≡ true → (y ≡ (c.Sign sign.Equals)) × (z ≡ (c.Sign sign.Equals))
  both_equals (c.Sign sign.Equals) (c.Sign sign.Equals) h = (refl, refl)
  both_equals (c.Sign sign.Equals) _ h = absurd cc
  both_equals _ z h = absurd cc

  pub three : (a : Sign) (x y z : SourceChar) (cs : Chars) (ms : List Mode) (b : Before) → is_three a (class y) (class z) ≡ true
      → lexed source (y ∷ z ∷ cs) ms b (p.Sign x.span a) ≡ token k.Punctuator (through x z) (lexed source cs ms before.Other p.Fresh)
  three sign.Equals x y z cs ms b h =
      let e = both_equals (class y) (class z) h in
      at_class source (c.Sign sign.Equals) y (z ∷ cs) ms b (p.Sign x.span sign.Equals) e.0 ∙ at_class source (c.Sign sign.Equals) z cs ms b (p.SignEquals x.span y.span) e.1
  three sign.Exclamation x y z cs ms b h =
      let e = both_equals (class y) (class z) h in
      at_class source (c.Sign sign.Equals) y (z ∷ cs) ms b (p.Sign x.span sign.Exclamation) e.0 ∙ at_class source (c.Sign sign.Equals) z cs ms b (p.SignEquals x.span y.span) e.1
  three _ x y z cs ms b h = absurd cc

  pub equals_back : (y : Class) (x : SourceChar) (s u : Span) (ms : List Mode) → is_equals y ≡ false → sign_equals_by source x y s u ms ≡ emit k.Punctuator s (alone source x u y ms)
  equals_back (c.Sign sign.Equals) x s u ms h = absurd cc
  equals_back _ x s u ms h = refl

  pub two_equals : (cs : Chars) (s u : Span) (ms : List Mode) (b : Before) → is_equals (first cs) ≡ false
      → lexed source cs ms b (p.SignEquals s u) ≡ token k.Punctuator s (token k.Punctuator u (lexed source cs ms before.Other p.Fresh))
  two_equals [] s u ms b h = refl
  two_equals (x ∷ cs) s u ms b h = ap (follows (lexed source cs)) (equals_back (class x) x s u ms h)

  pub one_equal : (cs : Chars) (s : Span) (ms : List Mode) (b : Before) → is_equals (first cs) ≡ false → lexed source cs ms b (p.Sign s sign.Equals) ≡ token k.Punctuator s (lexed source cs ms before.Other p.Fresh)
  one_equal cs s ms b h = afresh_at source cs ms ms b before.Other (p.Sign s sign.Equals) k.Punctuator s (t.equals_alone source (head source cs) (first cs) s b ms h)

  pub is_equals_true : (y : Class) → is_equals y ≡ true → y ≡ (c.Sign sign.Equals)
  is_equals_true (c.Sign sign.Equals) h = refl
  is_equals_true _ h = absurd cc

  -- `=` or `!` where no two `=` follow
  pub one_equals : (cs : Chars) (a : Sign) (s : Span) (q : Option ℕ) (ms : List Mode) (b : Before)
      → ((x : SourceChar) (y : Class) → step_by source x (p.Sign s a) y b (m.Code q ∷ ms) ≡ equals_by source x y s b (m.Code q ∷ ms)) → (is_equals (first cs) && is_equals (second cs)) ≡ false
      → lexed source cs (m.Code q ∷ ms) b (p.Sign s a) ≡ token k.Punctuator s (lexed source cs (m.Code q ∷ ms) before.Other p.Fresh)
  one_equals [] a s q ms b same h = ap ends (same (end_mark source) c.End)
  one_equals (y ∷ cs) a s q ms b same h = by_test (is_equals (class y)) refl h
    where
      by_test : (v : Bool) → is_equals (class y) ≡ v → (v && is_equals (first cs)) ≡ false
          → lexed source (y ∷ cs) (m.Code q ∷ ms) b (p.Sign s a) ≡ token k.Punctuator s (lexed source (y ∷ cs) (m.Code q ∷ ms) before.Other p.Fresh)
      by_test true e h =
          let is = is_equals_true (class y) e in let ns = m.Code q ∷ ms in
          ap (follows (lexed source cs)) (same y (class y)) ∙ ap (λ (z : Class). follows (lexed source cs) (equals_by source y z s b ns)) is ∙ two_equals cs s y.span ns b h
          ∙ ap (token k.Punctuator s) (sym (at_class source (c.Sign sign.Equals) y cs ns before.Other p.Fresh is ∙ one_equal cs y.span ns before.Other h))
      by_test false e h =
          afresh_at source (y ∷ cs) (m.Code q ∷ ms) (m.Code q ∷ ms) b before.Other (p.Sign s a) k.Punctuator s (same y (class y) ∙ t.equals_alone source y (class y) s b (m.Code q ∷ ms) e)

  pub not_both : (v w : Bool) → (not false && not (v && w)) ≡ true → (v && w) ≡ false
  not_both true true h = absurd cc
  not_both true false h = refl
  not_both false w h = refl

  pub one : (a : Sign) (x : SourceChar) (cs : Chars) (q : Option ℕ) (ms : List Mode) (b : Before) → is_one b a (first cs) (second cs) ≡ true
      → lexed source cs (m.Code q ∷ ms) b (p.Sign x.span a) ≡ token k.Punctuator x.span (lexed source cs (m.Code q ∷ ms) before.Other p.Fresh)
  one sign.Equals x cs q ms b h = one_equals cs sign.Equals x.span q ms b (λ x y. refl) (not_both (is_equals (first cs)) (is_equals (second cs)) h)
  one sign.Exclamation x cs q ms b h = one_equals cs sign.Exclamation x.span q ms b (λ x y. refl) (not_both (is_equals (first cs)) (is_equals (second cs)) h)
  one a x cs q ms b h =
      afresh_at source cs (m.Code q ∷ ms) (m.Code q ∷ ms) b before.Other (p.Sign x.span a) k.Punctuator x.span (t.one_alone source (head source cs) a (first cs) (second cs) x.span b (m.Code q ∷ ms) refl h)

  -- ---- tags and children

  pub tag_name_ends : (rest : Chars) (s n : ℕ) (ms : List Mode) (b : Before) → continues_tag (first rest) ≡ false
      → lexed source rest ms b (p.TagName s n) ≡ token k.TagOpen (between s (place source rest)) (lexed source rest (m.Tag s (is_among void_tag_names (text_of source (between n (place source rest)))) ∷ ms) before.Other p.Fresh)
  tag_name_ends [] s n ms b h = refl
  tag_name_ends (x ∷ rest) s n ms b h =
      ap (λ (v : Bool). follows (lexed source rest) (if v then go ms b (p.TagName s n) else emit k.TagOpen (here source x s) (fresh_by source x (class x) before.Other (m.Tag s (is_among void_tag_names (text_of source (here source x n))) ∷ ms)))) h

  pub tag_names : {cs rest : Chars} → RunOf continues_tag cs rest → (s n : ℕ) (ms : List Mode) (b : Before)
      → lexed source cs ms b (p.TagName s n) ≡ token k.TagOpen (between s (place source rest)) (lexed source rest (m.Tag s (is_among void_tag_names (text_of source (between n (place source rest)))) ∷ ms) before.Other p.Fresh)
  tag_names {cs} {rest} r s n ms b =
      run source r ms b (p.TagName s n)
      (λ x y z h. ap (λ (v : Bool). if v then go ms b (p.TagName s n) else emit k.TagOpen (here source x s) (fresh_by source x y before.Other (m.Tag s (is_among void_tag_names (text_of source (here source x n))) ∷ ms))) h)
      ∙ tag_name_ends rest s n ms b (run_stops r)

  pub attributes : {cs rest : Chars} → RunOf continues_attribute cs rest → (s : ℕ) (ms : List Mode) (b : Before)
      → lexed source cs ms b (p.AttributeName s) ≡ token k.AttributeName (between s (place source rest)) (lexed source rest ms before.Other p.Fresh)
  attributes {cs} {rest} r s ms b =
      run source r ms b (p.AttributeName s) (λ x y z h. ap (λ (v : Bool). if v then go ms b (p.AttributeName s) else emit k.AttributeName (here source x s) (fresh_by source x y before.Other ms)) h)
      ∙ afresh source rest ms ms b before.Other (p.AttributeName s) k.AttributeName s
      (ap (λ (v : Bool). if v then go ms b (p.AttributeName s) else emit k.AttributeName (here source (head source rest) s) (fresh_by source (head source rest) (first rest) before.Other ms)) (run_stops r))

  pub values : {cs rest : Chars} (u : Quote) → RunOf (in_value u) cs rest → (s : ℕ) (ms : List Mode) (b : Before) → lexed source cs ms b (p.Quoted s u) ≡ lexed source rest ms b (p.Quoted s u)
  values {cs} {rest} u r s ms b = run source r ms b (p.Quoted s u) (λ x y z h. t.value_stays source x y s u b ms h)

  -- a `~` or `$` among children that opens nothing
  pub sign_back : (cs : Chars) (s at : ℕ) (a : Opener) (ms : List Mode) (b : Before) → is_open_brace (first cs) ≡ false → lexed source cs ms b (p.ChildTextSign s at a) ≡ lexed source cs ms b (p.ChildText s)
  sign_back cs s at a ms b h = again source cs ms b (p.ChildTextSign s at a) (p.ChildText s) (t.child_sign_back source (head source cs) (first cs) s at a b ms h)

  pub child_more : (y : Class) (x : SourceChar) (cs : Chars) (s : ℕ) (ms : List Mode) (b : Before) → class x ≡ y → in_child_text y (first cs) ≡ true
      → lexed source (x ∷ cs) ms b (p.ChildText s) ≡ lexed source cs ms b (p.ChildText s)
  child_more c.End x cs s ms b e h = absurd cc
  child_more (c.Sign sign.Less) x cs s ms b e h = absurd cc
  child_more (c.Sign sign.Tilde) x cs s ms b e h = at_class source (c.Sign sign.Tilde) x cs ms b (p.ChildText s) e ∙ sign_back cs s x.span.start opener.Tilde ms b (not_true (is_open_brace (first cs)) h)
  child_more (c.Sign sign.Dollar) x cs s ms b e h = at_class source (c.Sign sign.Dollar) x cs ms b (p.ChildText s) e ∙ sign_back cs s x.span.start opener.Dollar ms b (not_true (is_open_brace (first cs)) h)
  child_more y x cs s ms b e h = at_class source y x cs ms b (p.ChildText s) e

  pub child_texts : {cs rest : Chars} → Run in_child_text cs rest → (s : ℕ) (ms : List Mode) (b : Before) → lexed source cs ms b (p.ChildText s) ≡ lexed source rest ms b (p.ChildText s)
  child_texts (run_end h) s ms b = refl
  child_texts (run_more {x} {cs} h d) s ms b = child_more (class x) x cs s ms b refl h ∙ child_texts d s ms b

  pub is_open_brace_true : (y : Class) → is_open_brace y ≡ true → y ≡ c.OpenBrace
  is_open_brace_true c.OpenBrace h = refl
  is_open_brace_true _ h = absurd cc

  -- one that opens code ends the text before it
  pub opens_after : (cs : Chars) (s at : ℕ) (a : Opener) (ms : List Mode) (b : Before) → is_open_brace (first cs) ≡ true
      → lexed source cs ms b (p.ChildTextSign s at a) ≡ token k.ChildText (between s at) (lexed source cs ms before.Other (p.ChildSign at a))
  opens_after [] s at a ms b h = absurd cc
  opens_after (z ∷ cs) s at a ms b h =
      let e = is_open_brace_true (class z) h in
      at_class source c.OpenBrace z cs ms b (p.ChildTextSign s at a) e ∙ ap (token k.ChildText (between s at)) (sym (at_class source c.OpenBrace z cs ms before.Other (p.ChildSign at a) e))

  pub not_false : (v : Bool) → not v ≡ false → v ≡ true
  not_false true h = refl
  not_false false h = absurd cc

  pub child_ends_at : (y : Class) (x : SourceChar) (cs : Chars) (s q : ℕ) (ms : List Mode) (b : Before) → class x ≡ y → in_child_text y (first cs) ≡ false
      → lexed source (x ∷ cs) (m.Children q ∷ ms) b (p.ChildText s) ≡ token k.ChildText (between s x.span.start) (lexed source (x ∷ cs) (m.Children q ∷ ms) before.Other p.Fresh)
  child_ends_at c.End x cs s q ms b e h = absurd (not_end x.value e)
  child_ends_at (c.Sign sign.Less) x cs s q ms b e h =
      let ns = m.Children q ∷ ms in at_class source (c.Sign sign.Less) x cs ns b (p.ChildText s) e ∙ ap (token k.ChildText (between s x.span.start)) (sym (at_class source (c.Sign sign.Less) x cs ns before.Other p.Fresh e))
  child_ends_at (c.Sign sign.Tilde) x cs s q ms b e h =
      let ns = m.Children q ∷ ms in
      at_class source (c.Sign sign.Tilde) x cs ns b (p.ChildText s) e ∙ opens_after cs s x.span.start opener.Tilde ns b (not_false (is_open_brace (first cs)) h)
      ∙ ap (token k.ChildText (between s x.span.start)) (sym (at_class source (c.Sign sign.Tilde) x cs ns before.Other p.Fresh e))
  child_ends_at (c.Sign sign.Dollar) x cs s q ms b e h =
      let ns = m.Children q ∷ ms in
      at_class source (c.Sign sign.Dollar) x cs ns b (p.ChildText s) e ∙ opens_after cs s x.span.start opener.Dollar ns b (not_false (is_open_brace (first cs)) h)
      ∙ ap (token k.ChildText (between s x.span.start)) (sym (at_class source (c.Sign sign.Dollar) x cs ns before.Other p.Fresh e))
  child_ends_at _ x cs s q ms b e h = absurd cc

  -- where a text among children ends
  pub child_ends : (rest : Chars) (s q : ℕ) (ms : List Mode) (b : Before) → in_child_text (first rest) (second rest) ≡ false
      → lexed source rest (m.Children q ∷ ms) b (p.ChildText s) ≡ token k.ChildText (between s (place source rest)) (lexed source rest (m.Children q ∷ ms) before.Other p.Fresh)
  child_ends [] s q ms b h = refl
  child_ends (x ∷ cs) s q ms b h = child_ends_at (class x) x cs s q ms b refl h

  pub child_begins : (y : Class) (x : SourceChar) (cs : Chars) (q : ℕ) (ms : List Mode) (b : Before) → class x ≡ y → in_child_text y (first cs) ≡ true
      → lexed source (x ∷ cs) (m.Children q ∷ ms) b p.Fresh ≡ lexed source cs (m.Children q ∷ ms) b (p.ChildText x.span.start)
  child_begins c.End x cs q ms b e h = absurd cc
  child_begins (c.Sign sign.Less) x cs q ms b e h = absurd cc
  child_begins (c.Sign sign.Tilde) x cs q ms b e h =
      let ns = m.Children q ∷ ms in at_class source (c.Sign sign.Tilde) x cs ns b p.Fresh e
      ∙ again source cs ns b (p.ChildSign x.span.start opener.Tilde) (p.ChildText x.span.start) (t.child_alone source (head source cs) (first cs) x.span.start opener.Tilde b ns (not_true (is_open_brace (first cs)) h))
  child_begins (c.Sign sign.Dollar) x cs q ms b e h =
      let ns = m.Children q ∷ ms in at_class source (c.Sign sign.Dollar) x cs ns b p.Fresh e
      ∙ again source cs ns b (p.ChildSign x.span.start opener.Dollar) (p.ChildText x.span.start) (t.child_alone source (head source cs) (first cs) x.span.start opener.Dollar b ns (not_true (is_open_brace (first cs)) h))
  child_begins y x cs q ms b e h = at_class source y x cs (m.Children q ∷ ms) b p.Fresh e

  -- ---- close tags

  pub close_names : {cs rest : Chars} → CloseName cs rest → (s : ℕ) (ms : List Mode) (b : Before) → lexed source cs ms b (p.CloseStart s) ≡ lexed source rest ms b (p.CloseSpace s)
  close_names (close_name {x} {cs} {mid} {rest} e r w) s ms b =
      at_class source c.Letter x cs ms b (p.CloseStart s) e ∙ run source r ms b (p.CloseName s) (λ x y z h. ap (λ (v : Bool). if v then go ms b (p.CloseName s) else close_space_by source x y s b ms) h)
      ∙ again source mid ms b (p.CloseName s) (p.CloseSpace s)
      (ap (λ (v : Bool). if v then go ms b (p.CloseName s) else close_space_by source (head source mid) (first mid) s b ms) (run_stops r))
      ∙ run source w ms b (p.CloseSpace s) (λ x y z h. t.close_space_stays source x y s b ms h)

  pub close_stops : {cs rest : Chars} → CloseName cs rest → is_space (first rest) ≡ false
  close_stops (close_name e r w) = run_stops w
