-- Every source has an outcome, so what the machine reads is spelled so.
use Rattle.std.proofs.Common.{◌≡◌, ℕ, zero, suc, ◌≤◌, Bool, true, false, ◌&&◌, not, List, [], ◌∷◌, length, Option, Some, None, refl, sym, ap, ◌∙◌, subst, arith}
use Rattle.mt_lexer.specs.declared.character.SourceChar.{SourceChar}
use Rattle.mt_lexer.specs.declared.character.Class.{Class}
use Rattle.mt_lexer.specs.declared.character.Class.TheVariants as c
use Rattle.mt_lexer.specs.declared.character.Sign.{Sign}
use Rattle.mt_lexer.specs.declared.character.Sign.TheVariants as sign
use Rattle.mt_tree.specs.declared.kind.Kind.TheVariants as k
use Rattle.mt_lexer.specs.declared.mode.Fault.TheVariants as fault
use Rattle.mt_lexer.specs.declared.mode.Mode.{Mode}
use Rattle.mt_lexer.specs.declared.mode.Mode.TheVariants as m
use Rattle.mt_lexer.specs.declared.mode.Before.{Before}
use Rattle.mt_lexer.specs.declared.mode.Before.TheVariants as before
use Rattle.mt_lexer.specs.declared.mode.Opener.{Opener}
use Rattle.mt_lexer.specs.declared.mode.Opener.TheVariants as opener
use Rattle.mt_lexer.specs.declared.character.Quote.{Quote}
use Rattle.mt_lexer.specs.declared.character.Quote.TheVariants as quote
use Rattle.mt_lexer.specs.declared.part.Part.TheVariants as p
use Rattle.mt_lexer.specs.Character.{Chars, class, first, second, place, between, until, through, text_of}
use Rattle.mt_lexer.specs.Sign.{is_space, is_digit, is_slash, is_equals, is_open_brace, is_greater, starts_name, continues_name, continues_tag, continues_attribute, spoils_number, in_line, in_block, in_child_text, opener_of, opener_kind, quote_of, in_value, sign_of, is_single, before_single, is_three, is_two, before_two, is_one, is_stray, begins_nothing, begins_nothing_in_tag, follows_no_less, allows_tag}
use Rattle.mt_lexer.specs.Word.{word_kind, before_word, is_number}
use Rattle.mt_lexer.specs.Spelling.{Outcome, finished, token, refused, Run, RunOf, closed, broken, Digits, zero_alone, more_digits, CloseName, close_name, opens_tag, Lexes, l_done, l_open, l_space, l_line_comment, l_block_comment, l_block_open, l_word, l_number, l_number_spoiled, l_number_large, l_text, l_text_refused, l_brace, l_close, l_close_first, l_single, l_three, l_two, l_one, l_stray, l_bad, l_opener, l_tag_open, g_end, g_space, g_name, g_equals, g_quoted, g_quoted_open, g_empty, g_void, g_children, g_bad, h_end, h_text, h_close, h_close_bad, h_close_unnamed, h_close_open, h_close_end, h_bad}
use Rattle.mt_lexer.specs.Machine.{lexed}
use Rattle.mt_lexer.proofs.Unroll.{run_stops}
use Rattle.mt_lexer.proofs.Parts.{not_end}
use Rattle.mt_lexer.proofs.Complete.{complete}
use Rattle.mt_lexer.proofs.Runs.{decide, both_true, not_false, run_has, Texts, text_has}
use Rattle.mt_tree.specs.Tables.{is_among, void_tag_names}

-- ---- every place has an outcome

-- the lowest mode is code
abbrev pub Rooted : List Mode → Type 0
Rooted [] = ⊥
Rooted (m.Code q ∷ []) = Unit {0}
Rooted (m.Tag q v ∷ []) = ⊥
Rooted (m.Children q ∷ []) = ⊥
Rooted (z ∷ y ∷ ms) = Rooted (y ∷ ms)

Rooted-push : (z : Mode) (ms : List Mode) → Rooted ms → Rooted (z ∷ ms)
Rooted-push z [] h = absurd h
Rooted-push (m.Code q) (y ∷ ms) h = h
Rooted-push (m.Tag q v) (y ∷ ms) h = h
Rooted-push (m.Children q) (y ∷ ms) h = h

Rooted-tag : (q : ℕ) (v : Bool) (ms : List Mode) → Rooted (m.Tag q v ∷ ms) → Rooted ms
Rooted-tag q v [] h = h
Rooted-tag q v (y ∷ ms) h = h

Rooted-children : (q : ℕ) (ms : List Mode) → Rooted (m.Children q ∷ ms) → Rooted ms
Rooted-children q [] h = h
Rooted-children q (y ∷ ms) h = h

module _ (source : List ℕ) where
  abbrev Some_outcome : List Mode → Before → Chars → Type 0
  Some_outcome ms b cs = (o : Outcome) × Lexes source ms b cs o

  -- what is shown of every rest that is no longer
  abbrev Later : Chars → Type 0
  Later cs = (ms : List Mode) (b : Before) (rest : Chars) → Rooted ms → length rest ≤ length cs → Some_outcome ms b rest

  module _ (x : SourceChar) (cs : Chars) (b : Before) (later : Later cs) where
    opener_has : (a : Opener) (z : Mode) (ms : List Mode) → opener_of (class x) ≡ Some a → is_open_brace (first cs) ≡ true → Rooted (z ∷ ms) → Some_outcome (z ∷ ms) b (x ∷ cs)
    opener_has a z ms e h r = by_rest cs h (λ rest l. later (m.Code (Some x.span.start) ∷ z ∷ ms) before.Other rest (Rooted-push (m.Code (Some x.span.start)) (z ∷ ms) r) l)
      where
        is_open : (y : Class) → is_open_brace y ≡ true → y ≡ c.OpenBrace
        is_open c.OpenBrace h = refl
        is_open _ h = absurd cc

        by_rest : (cs : Chars) → is_open_brace (first cs) ≡ true → ((rest : Chars) → length rest ≤ length cs → Some_outcome (m.Code (Some x.span.start) ∷ z ∷ ms) before.Other rest) → Some_outcome (z ∷ ms) b (x ∷ cs)
        by_rest [] h next = absurd cc
        by_rest (y ∷ rest) h next = let d = next rest (omega arith) in (token (opener_kind a) (through x y) d.0, l_opener e (is_open (class y) h) d.1)

    tag_has : (z : Mode) (ms : List Mode) → class x ≡ (c.Sign sign.Less) → first cs ≡ c.Letter → opens_tag z b ≡ true → Rooted (z ∷ ms) → Some_outcome (z ∷ ms) b (x ∷ cs)
    tag_has z ms e f h r = by_rest cs f (λ n rest l. later (m.Tag x.span.start n ∷ z ∷ ms) before.Other rest (Rooted-push (m.Tag x.span.start n) (z ∷ ms) r) l)
      where
        by_rest : (cs : Chars) → first cs ≡ c.Letter → ((v : Bool) (rest : Chars) → length rest ≤ length cs → Some_outcome (m.Tag x.span.start v ∷ z ∷ ms) before.Other rest) → Some_outcome (z ∷ ms) b (x ∷ cs)
        by_rest [] f next = absurd cc
        by_rest (y ∷ rest) f next =
            let r = run_has (λ v w. continues_tag v) rest refl in let d = next (is_among void_tag_names (text_of source (until source y r.0))) r.0 (omega (arith, r.2)) in
            (token k.TagOpen (until source x r.0) d.0, l_tag_open e f h r.1 d.1)

    module _ (q : Option ℕ) (ms : List Mode) (root : Rooted (m.Code q ∷ ms)) where
      abbrev Here : Type 0
      Here = Some_outcome (m.Code q ∷ ms) b (x ∷ cs)

      same : (d : Before) (rest : Chars) → length rest ≤ length cs → Some_outcome (m.Code q ∷ ms) d rest
      same d rest l = later (m.Code q ∷ ms) d rest root l

      two_has : (a : Sign) (cs : Chars) → sign_of (class x) ≡ Some a → is_two a (first cs) ≡ true → ((d : Before) (rest : Chars) → length rest ≤ length cs → Some_outcome (m.Code q ∷ ms) d rest) → Some_outcome (m.Code q ∷ ms) b (x ∷ cs)
      two_has a [] e h next = absurd (no_two a h)
        where
          no_two : (a : Sign) → is_two a c.End ≡ true → ⊥
          no_two sign.Less h = cc
          no_two sign.Greater h = cc
          no_two sign.Ampersand h = cc
          no_two sign.Bar h = cc
          no_two sign.Plus h = cc
          no_two sign.Minus h = cc
          no_two sign.Star h = cc
          no_two sign.Slash h = cc
          no_two sign.Percent h = cc
          no_two _ h = cc
      two_has a (y ∷ rest) e h next = let d = next (before_two a (class y)) rest (omega arith) in (token k.Punctuator (through x y) d.0, l_two e h d.1)

      one_has : (a : Sign) → sign_of (class x) ≡ Some a → is_one b a (first cs) (second cs) ≡ true → Here
      one_has a e h = let d = same before.Other cs (omega arith) in (token k.Punctuator x.span d.0, l_one e h d.1)

      two_or_one : (a : Sign) → sign_of (class x) ≡ Some a → (is_two a (first cs) ≡ false → is_one b a (first cs) (second cs) ≡ true) → Here
      two_or_one a e h = decide (is_two a (first cs)) (λ g. two_has a cs e g same) (λ g. one_has a e (h g))

      stray_has : (a : Sign) → sign_of (class x) ≡ Some a → is_stray a (first cs) ≡ true → Here
      stray_has a e h = (refused fault.BadCharacter x.span.start, l_stray e h)

      three_has : (a : Sign) (cs : Chars) → sign_of (class x) ≡ Some a → is_three a (first cs) (second cs) ≡ true → (is_three a (first cs) (second cs) ≡ true → (is_equals (first cs) ≡ true) × (is_equals (second cs) ≡ true))
          → ((d : Before) (rest : Chars) → length rest ≤ length cs → Some_outcome (m.Code q ∷ ms) d rest) → Some_outcome (m.Code q ∷ ms) b (x ∷ cs)
      three_has a [] e h both next = let g = (both h).0 in absurd cc
      three_has a (y ∷ []) e h both next = let g = (both h).1 in absurd cc
      three_has a (y ∷ z ∷ rest) e h both next = let d = next before.Other rest (omega arith) in (token k.Punctuator (through x z) d.0, l_three e h d.1)

      comment_has : (cs : Chars) → class x ≡ (c.Sign sign.Slash) → first cs ≡ (c.Sign sign.Slash) → ((d : Before) (rest : Chars) → length rest ≤ length cs → Some_outcome (m.Code q ∷ ms) d rest) → Some_outcome (m.Code q ∷ ms) b (x ∷ cs)
      comment_has [] e f next = absurd cc
      comment_has (y ∷ rest) e f next = let r = run_has (λ v w. in_line v) rest refl in let d = next b r.0 (omega (arith, r.2)) in (d.0, l_line_comment e f r.1 d.1)

      block_has : (cs : Chars) → class x ≡ (c.Sign sign.Slash) → first cs ≡ (c.Sign sign.Star) → ((d : Before) (rest : Chars) → length rest ≤ length cs → Some_outcome (m.Code q ∷ ms) d rest) → Some_outcome (m.Code q ∷ ms) b (x ∷ cs)
      block_has [] e f next = absurd cc
      block_has (y ∷ body) e f next = let r = run_has in_block body refl in by_rest r.0 r.1 r.2
        where
          by_class : (v : Class) (w : SourceChar) (rest : Chars) → class w ≡ v → in_block v (first rest) ≡ false → Run in_block body (w ∷ rest) → length (w ∷ rest) ≤ length body → Some_outcome (m.Code q ∷ ms) b (x ∷ y ∷ body)
          by_class c.End w rest g h r l = absurd (not_end w.value g)
          by_class (c.Sign sign.Star) w [] g h r l = absurd cc
          by_class (c.Sign sign.Star) w (u ∷ rest) g h r l =
              let d = next b rest (omega arith) in (d.0, l_block_comment e f r g (slash (class u) (not_false (is_slash (class u)) h)) d.1)
            where
              slash : (y : Class) → is_slash y ≡ true → y ≡ (c.Sign sign.Slash)
              slash (c.Sign sign.Slash) h = refl
              slash _ h = absurd cc
          by_class _ w rest g h r l = absurd cc

          by_rest : (rest : Chars) → Run in_block body rest → length rest ≤ length body → Some_outcome (m.Code q ∷ ms) b (x ∷ y ∷ body)
          by_rest [] r l = (refused fault.Unclosed x.span.start, l_block_open e f r)
          by_rest (w ∷ rest) r l = by_class (class w) w rest refl (run_stops r) r l

      slash_has : (v : Class) → class x ≡ (c.Sign sign.Slash) → first cs ≡ v → Here
      slash_has (c.Sign sign.Slash) e f = comment_has cs e f same
      slash_has (c.Sign sign.Star) e f = block_has cs e f same
      slash_has (c.Sign sign.Equals) e f = two_has sign.Slash cs (ap sign_of e) (ap (is_two sign.Slash) f) same
      slash_has v e f = one_has sign.Slash (ap sign_of e) (ap (λ (y : Class). is_one b sign.Slash y (second cs)) f)

      less_has : (v : Class) → class x ≡ (c.Sign sign.Less) → first cs ≡ v → Here
      less_has (c.Sign sign.Equals) e f = two_has sign.Less cs (ap sign_of e) (ap (is_two sign.Less) f) same
      less_has c.Letter e f =
          decide (allows_tag b) (λ h. tag_has (m.Code q) ms e f h root)
          (λ h. one_has sign.Less (ap sign_of e) (ap (λ (y : Class). is_one b sign.Less y (second cs)) f ∙ ap (λ (v : Bool). not false && not (true && v)) h))
      less_has v e f = one_has sign.Less (ap sign_of e) (ap (λ (y : Class). is_one b sign.Less y (second cs)) f)

      equals_has : (a : Sign) → sign_of (class x) ≡ Some a → (is_three a (first cs) (second cs) ≡ (is_equals (first cs) && is_equals (second cs)))
          → (is_three a (first cs) (second cs) ≡ false → is_one b a (first cs) (second cs) ≡ true) → Here
      equals_has a e h g =
          decide (is_three a (first cs) (second cs)) (λ f. three_has a cs e f (λ f. both_true (is_equals (first cs)) (is_equals (second cs)) (sym h ∙ f)) same) (λ f. one_has a e (g f))

      sign_has : (v : Class) (a : Sign) → class x ≡ v → sign_of v ≡ Some a → Here
      sign_has v sign.Equals e h = equals_has sign.Equals (ap sign_of e ∙ h) refl (λ f. ap (λ (v : Bool). not false && not v) f)
      sign_has v sign.Exclamation e h = equals_has sign.Exclamation (ap sign_of e ∙ h) refl (λ f. ap (λ (v : Bool). not false && not v) f)
      sign_has v sign.Greater e h = two_or_one sign.Greater (ap sign_of e ∙ h) (λ f. ap (λ (v : Bool). not v && not false) f)
      sign_has v sign.Plus e h = two_or_one sign.Plus (ap sign_of e ∙ h) (λ f. ap (λ (v : Bool). not v && not false) f)
      sign_has v sign.Minus e h = two_or_one sign.Minus (ap sign_of e ∙ h) (λ f. ap (λ (v : Bool). not v && not false) f)
      sign_has v sign.Star e h = two_or_one sign.Star (ap sign_of e ∙ h) (λ f. ap (λ (v : Bool). not v && not false) f)
      sign_has v sign.Percent e h = two_or_one sign.Percent (ap sign_of e ∙ h) (λ f. ap (λ (v : Bool). not v && not false) f)
      sign_has v sign.Ampersand e h = decide (is_two sign.Ampersand (first cs)) (λ f. two_has sign.Ampersand cs (ap sign_of e ∙ h) f same) (λ f. stray_has sign.Ampersand (ap sign_of e ∙ h) (ap not f))
      sign_has v sign.Bar e h = decide (is_two sign.Bar (first cs)) (λ f. two_has sign.Bar cs (ap sign_of e ∙ h) f same) (λ f. stray_has sign.Bar (ap sign_of e ∙ h) (ap not f))
      sign_has (c.Sign sign.Less) sign.Less e h = less_has (first cs) e refl
      sign_has (c.Sign sign.Slash) sign.Slash e h = slash_has (first cs) e refl
      sign_has (c.Sign sign.Tilde) sign.Tilde e h = decide (is_open_brace (first cs)) (λ f. opener_has opener.Tilde (m.Code q) ms (ap opener_of e) f root) (λ f. stray_has sign.Tilde (ap sign_of e ∙ h) (ap not f))
      sign_has (c.Sign sign.Dollar) sign.Dollar e h = decide (is_open_brace (first cs)) (λ f. opener_has opener.Dollar (m.Code q) ms (ap opener_of e) f root) (λ f. stray_has sign.Dollar (ap sign_of e ∙ h) (ap not f))
      sign_has _ sign.Less e h = absurd cc
      sign_has _ sign.Slash e h = absurd cc
      sign_has _ sign.Tilde e h = absurd cc
      sign_has _ sign.Dollar e h = absurd cc

      number_has : (rest : Chars) → Digits (class x) cs rest → length rest ≤ length cs → Here
      number_has rest d l =
          decide (spoils_number (first rest)) (λ h. (refused fault.BadCharacter (place source rest), l_number_spoiled d h))
          (λ h. decide (is_number (text_of source (until source x rest))) (λ g. let o = same before.Operand rest l in (token k.Number (until source x rest) o.0, l_number d h g o.1))
          (λ g. (refused fault.NumberTooLarge x.span.start, l_number_large d h g)))

      text_of_code : (u : Quote) → quote_of (class x) ≡ Some u → Here
      text_of_code u e = by_end (text_has (length cs) x.span.start u cs (omega arith))
        where
          by_end : Texts x.span.start u cs → Here
          by_end (closed end rest, d, l) = let o = same before.Operand rest l in (token k.Text (between x.span.start end) o.0, l_text e d o.1)
          by_end (broken f at, d, l) = (refused f at, l_text_refused e d)

      word_has : starts_name (class x) ≡ true → Here
      word_has e =
          let r = run_has (λ v w. continues_name v) cs refl in let span = until source x r.0 in let d = same (before_word b (text_of source span)) r.0 r.2 in
          (token (word_kind (text_of source span)) span d.0, l_word e r.1 d.1)

      single_has : is_single (class x) ≡ true → Here
      single_has e = let d = same (before_single (class x)) cs (omega arith) in (token k.Punctuator x.span d.0, l_single e d.1)

      space_has : is_space (class x) ≡ true → Here
      space_has e = let d = same b cs (omega arith) in (d.0, l_space e d.1)

    close_has : (q : Option ℕ) (ms : List Mode) → Rooted (m.Code q ∷ ms) → class x ≡ c.CloseBrace → Some_outcome (m.Code q ∷ ms) b (x ∷ cs)
    close_has q [] r e = let d = later (m.Code q ∷ []) before.Other cs r (omega arith) in (token k.Punctuator x.span d.0, l_close_first e d.1)
    close_has q (z ∷ ms) r e = let d = later (z ∷ ms) before.Other cs r (omega arith) in (token k.Punctuator x.span d.0, l_close e d.1)

    code_has : (v : Class) (q : Option ℕ) (ms : List Mode) → Rooted (m.Code q ∷ ms) → class x ≡ v → Some_outcome (m.Code q ∷ ms) b (x ∷ cs)
    code_has c.End q ms r e = absurd (not_end x.value e)
    code_has c.White q ms r e = space_has q ms r (ap is_space e)
    code_has c.LineFeed q ms r e = space_has q ms r (ap is_space e)
    code_has c.CarriageReturn q ms r e = space_has q ms r (ap is_space e)
    code_has c.Letter q ms r e = word_has q ms r (ap starts_name e)
    code_has c.Underscore q ms r e = word_has q ms r (ap starts_name e)
    code_has c.NameStart q ms r e = word_has q ms r (ap starts_name e)
    code_has c.Zero q ms r e = number_has q ms r cs (subst (λ (y : Class). Digits y cs cs) (sym e) zero_alone) (omega arith)
    code_has c.Digit q ms r e = let d = run_has (λ v w. is_digit v) cs refl in number_has q ms r d.0 (subst (λ (y : Class). Digits y cs d.0) (sym e) (more_digits d.1)) d.2
    code_has (c.Quote u) q ms r e = text_of_code q ms r u (ap quote_of e)
    code_has c.OpenBrace q ms r e = let d = later (m.Code q ∷ m.Code q ∷ ms) before.Other cs (Rooted-push (m.Code q) (m.Code q ∷ ms) r) (omega arith) in (token k.Punctuator x.span d.0, l_brace e d.1)
    code_has c.CloseBrace q ms r e = close_has q ms r e
    code_has c.Closing q ms r e = single_has q ms r (ap is_single e)
    code_has c.Dot q ms r e = single_has q ms r (ap is_single e)
    code_has c.Colon q ms r e = single_has q ms r (ap is_single e)
    code_has c.Separator q ms r e = single_has q ms r (ap is_single e)
    code_has (c.Sign a) q ms r e = sign_has q ms r (c.Sign a) a e refl
    code_has c.NameContinue q ms r e = (refused fault.BadCharacter x.span.start, l_bad (ap begins_nothing e))
    code_has c.Backslash q ms r e = (refused fault.BadCharacter x.span.start, l_bad (ap begins_nothing e))
    code_has c.Other q ms r e = (refused fault.BadCharacter x.span.start, l_bad (ap begins_nothing e))

    module _ (q : ℕ) (v : Bool) (ms : List Mode) (root : Rooted (m.Tag q v ∷ ms)) where
      abbrev InTag : Type 0
      InTag = Some_outcome (m.Tag q v ∷ ms) b (x ∷ cs)

      tag_same : (d : Before) (rest : Chars) → length rest ≤ length cs → Some_outcome (m.Tag q v ∷ ms) d rest
      tag_same d rest l = later (m.Tag q v ∷ ms) d rest root l

      tag_space : is_space (class x) ≡ true → InTag
      tag_space e = let d = tag_same b cs (omega arith) in (d.0, g_space e d.1)

      tag_bad : begins_nothing_in_tag (class x) (first cs) ≡ true → InTag
      tag_bad e = (refused fault.BadCharacter x.span.start, g_bad e)

      value_has : (u : Quote) → quote_of (class x) ≡ Some u → in_value u c.End ≡ false → InTag
      value_has u e h = let r = run_has (λ v w. in_value u v) cs h in by_rest r.0 r.1 r.2
        where
          by_rest : (rest : Chars) → RunOf (in_value u) cs rest → length rest ≤ length cs → InTag
          by_rest [] r l = (refused fault.Unclosed q, g_quoted_open e r)
          by_rest (y ∷ rest) r l = let d = tag_same before.Other rest (omega arith) in (token k.Quoted (through x y) d.0, g_quoted e r d.1)

      empty_has : (cs : Chars) → class x ≡ (c.Sign sign.Slash) → is_greater (first cs) ≡ true → ((rest : Chars) → length rest ≤ length cs → Some_outcome ms before.Other rest) → Some_outcome (m.Tag q v ∷ ms) b (x ∷ cs)
      empty_has [] e f next = absurd cc
      empty_has (y ∷ rest) e f next = let d = next rest (omega arith) in (token k.TagEnd (through x y) d.0, g_empty e (greater (class y) f) d.1)
        where
          greater : (y : Class) → is_greater y ≡ true → y ≡ (c.Sign sign.Greater)
          greater (c.Sign sign.Greater) h = refl
          greater _ h = absurd cc

    tag_end_has : (q : ℕ) (v : Bool) (ms : List Mode) → Rooted (m.Tag q v ∷ ms) → class x ≡ (c.Sign sign.Greater) → Some_outcome (m.Tag q v ∷ ms) b (x ∷ cs)
    tag_end_has q true ms r e = let d = later ms before.Other cs (Rooted-tag q true ms r) (omega arith) in (token k.TagEnd x.span d.0, g_void e d.1)
    tag_end_has q false ms r e =
        let d = later (m.Children q ∷ ms) before.Other cs (Rooted-push (m.Children q) ms (Rooted-tag q false ms r)) (omega arith) in (token k.TagEnd x.span d.0, g_children e d.1)

    tag_mode_has : (y : Class) (q : ℕ) (v : Bool) (ms : List Mode) → Rooted (m.Tag q v ∷ ms) → class x ≡ y → Some_outcome (m.Tag q v ∷ ms) b (x ∷ cs)
    tag_mode_has c.End q v ms r e = absurd (not_end x.value e)
    tag_mode_has c.White q v ms r e = tag_space q v ms r (ap is_space e)
    tag_mode_has c.LineFeed q v ms r e = tag_space q v ms r (ap is_space e)
    tag_mode_has c.CarriageReturn q v ms r e = tag_space q v ms r (ap is_space e)
    tag_mode_has c.Letter q v ms r e =
        let d = run_has (λ v w. continues_attribute v) cs refl in let o = tag_same q v ms r before.Other d.0 d.2 in (token k.AttributeName (until source x d.0) o.0, g_name e d.1 o.1)
    tag_mode_has (c.Sign sign.Equals) q v ms r e = let o = tag_same q v ms r before.Other cs (omega arith) in (token k.Punctuator x.span o.0, g_equals e o.1)
    tag_mode_has (c.Quote quote.Double) q v ms r e = value_has q v ms r quote.Double (ap quote_of e) refl
    tag_mode_has (c.Quote quote.Single) q v ms r e = value_has q v ms r quote.Single (ap quote_of e) refl
    tag_mode_has (c.Sign sign.Greater) q v ms r e = tag_end_has q v ms r e
    tag_mode_has (c.Sign sign.Slash) q v ms r e =
        decide (is_greater (first cs)) (λ f. empty_has q v ms r cs e f (λ rest l. later ms before.Other rest (Rooted-tag q v ms r) l))
        (λ f. tag_bad q v ms r (ap (λ (y : Class). begins_nothing_in_tag y (first cs)) e ∙ ap not f))
    tag_mode_has (c.Sign sign.Tilde) q v ms r e =
        decide (is_open_brace (first cs)) (λ f. opener_has opener.Tilde (m.Tag q v) ms (ap opener_of e) f r) (λ f. tag_bad q v ms r (ap (λ (y : Class). begins_nothing_in_tag y (first cs)) e ∙ ap not f))
    tag_mode_has (c.Sign sign.Dollar) q v ms r e =
        decide (is_open_brace (first cs)) (λ f. opener_has opener.Dollar (m.Tag q v) ms (ap opener_of e) f r) (λ f. tag_bad q v ms r (ap (λ (y : Class). begins_nothing_in_tag y (first cs)) e ∙ ap not f))
    tag_mode_has y q v ms r e = tag_bad q v ms r (ap (λ (y : Class). begins_nothing_in_tag y (first cs)) e)

    module _ (q : ℕ) (ms : List Mode) (root : Rooted (m.Children q ∷ ms)) where
      abbrev Inside : Type 0
      Inside = Some_outcome (m.Children q ∷ ms) b (x ∷ cs)

      child_text_has : in_child_text (class x) (first cs) ≡ true → Inside
      child_text_has e =
          let r = run_has in_child_text cs refl in let d = later (m.Children q ∷ ms) before.Other r.0 root r.2 in (token k.ChildText (until source x r.0) d.0, h_text e r.1 d.1)

      named_has : (y z : SourceChar) (cs : Chars) → class x ≡ (c.Sign sign.Less) → class y ≡ (c.Sign sign.Slash) → class z ≡ c.Letter → ((rest : Chars) → length rest ≤ length cs → Some_outcome ms before.Other rest)
          → Some_outcome (m.Children q ∷ ms) b (x ∷ y ∷ z ∷ cs)
      named_has y z cs e f g next =
          let r = run_has (λ v w. continues_tag v) cs refl in let w = run_has (λ v w. is_space v) r.0 refl in by_rest w.0 (close_name g r.1 w.1) (omega (arith, r.2, w.2))
        where
          by_class : (v : Class) (u : SourceChar) (rest : Chars) → class u ≡ v → CloseName (z ∷ cs) (u ∷ rest) → length (u ∷ rest) ≤ length cs → Some_outcome (m.Children q ∷ ms) b (x ∷ y ∷ z ∷ cs)
          by_class (c.Sign sign.Greater) u rest h d l = let o = next rest (omega arith) in (token k.CloseTag (through x u) o.0, h_close e f d h o.1)
          by_class v u rest h d l = (refused fault.BadCharacter u.span.start, h_close_bad e f d (λ i. let g : v ≡ (c.Sign sign.Greater) = sym h ∙ i in absurd cc))

          by_rest : (rest : Chars) → CloseName (z ∷ cs) rest → length rest ≤ length cs → Some_outcome (m.Children q ∷ ms) b (x ∷ y ∷ z ∷ cs)
          by_rest [] d l = (refused fault.Unclosed x.span.start, h_close_open e f d)
          by_rest (u ∷ rest) d l = by_class (class u) u rest refl d l

      close_tag_has : (cs : Chars) → class x ≡ (c.Sign sign.Less) → first cs ≡ (c.Sign sign.Slash) → ((rest : Chars) → length rest ≤ length cs → Some_outcome ms before.Other rest) → Some_outcome (m.Children q ∷ ms) b (x ∷ cs)
      close_tag_has [] e f next = absurd cc
      close_tag_has (y ∷ []) e f next = (refused fault.Unclosed x.span.start, h_close_end e f)
      close_tag_has (y ∷ z ∷ cs) e f next = by_class (class z) refl
        where
          by_class : (v : Class) → class z ≡ v → Some_outcome (m.Children q ∷ ms) b (x ∷ y ∷ z ∷ cs)
          by_class c.Letter h = named_has y z cs e f h (λ rest l. next rest (omega arith))
          by_class v h = (refused fault.BadCharacter z.span.start, h_close_unnamed e f (λ i. let g : v ≡ c.Letter = sym h ∙ i in absurd cc))

      child_less_has : (v : Class) → class x ≡ (c.Sign sign.Less) → first cs ≡ v → Inside
      child_less_has c.Letter e f = tag_has (m.Children q) ms e f refl root
      child_less_has (c.Sign sign.Slash) e f = close_tag_has cs e f (λ rest l. later ms before.Other rest (Rooted-children q ms root) l)
      child_less_has v e f = (refused fault.BadCharacter x.span.start, h_bad e (ap follows_no_less f))

    children_has : (y : Class) (q : ℕ) (ms : List Mode) → Rooted (m.Children q ∷ ms) → class x ≡ y → Some_outcome (m.Children q ∷ ms) b (x ∷ cs)
    children_has c.End q ms r e = absurd (not_end x.value e)
    children_has (c.Sign sign.Less) q ms r e = child_less_has q ms r (first cs) e refl
    children_has (c.Sign sign.Tilde) q ms r e =
        decide (is_open_brace (first cs)) (λ f. opener_has opener.Tilde (m.Children q) ms (ap opener_of e) f r) (λ f. child_text_has q ms r (ap (λ (y : Class). in_child_text y (first cs)) e ∙ ap not f))
    children_has (c.Sign sign.Dollar) q ms r e =
        decide (is_open_brace (first cs)) (λ f. opener_has opener.Dollar (m.Children q) ms (ap opener_of e) f r) (λ f. child_text_has q ms r (ap (λ (y : Class). in_child_text y (first cs)) e ∙ ap not f))
    children_has y q ms r e = child_text_has q ms r (ap (λ (y : Class). in_child_text y (first cs)) e)

  end_has : (ms : List Mode) (b : Before) → Rooted ms → Some_outcome ms b []
  end_has [] b r = absurd r
  end_has (m.Code None ∷ ms) b r = (finished, l_done)
  end_has (m.Code (Some q) ∷ ms) b r = (refused fault.Unclosed q, l_open)
  end_has (m.Tag q v ∷ ms) b r = (refused fault.Unclosed q, g_end)
  end_has (m.Children q ∷ ms) b r = (refused fault.Unclosed q, h_end)

  total : (fuel : ℕ) (ms : List Mode) (b : Before) (cs : Chars) → Rooted ms → length cs ≤ fuel → Some_outcome ms b cs
  total fuel ms b [] r l = end_has ms b r
  total zero ms b (x ∷ cs) r l = absurd (omega arith)
  total (suc fuel) [] b (x ∷ cs) r l = absurd r
  total (suc fuel) (m.Code q ∷ ms) b (x ∷ cs) r l = code_has x cs b (λ ms b rest r h. total fuel ms b rest r (omega arith)) (class x) q ms r refl
  total (suc fuel) (m.Tag q v ∷ ms) b (x ∷ cs) r l = tag_mode_has x cs b (λ ms b rest r h. total fuel ms b rest r (omega arith)) (class x) q v ms r refl
  total (suc fuel) (m.Children q ∷ ms) b (x ∷ cs) r l = children_has x cs b (λ ms b rest r h. total fuel ms b rest r (omega arith)) (class x) q ms r refl

  -- what the machine reads is what the text spells
  pub sound : (ms : List Mode) (b : Before) (cs : Chars) → Rooted ms → Lexes source ms b cs (lexed source cs ms b p.Fresh)
  sound ms b cs r = let d = total (length cs) ms b cs r (omega arith) in subst (λ (o : Outcome). Lexes source ms b cs o) (sym (complete source d.1)) d.1
