-- What is spelled so is read so.
use Rattle.std.proofs.Common.{◌≡◌, ℕ, Bool, true, false, List, [], ◌∷◌, Some, refl, sym, ap, ◌∙◌}
use Rattle.mt_lexer.specs.declared.character.SourceChar.{SourceChar}
use Rattle.mt_lexer.specs.declared.character.Class.{Class}
use Rattle.mt_lexer.specs.declared.character.Class.TheVariants as c
use Rattle.mt_lexer.specs.declared.character.Sign.TheVariants as sign
use Rattle.mt_tree.specs.declared.kind.Kind.TheVariants as k
use Rattle.mt_lexer.specs.declared.mode.Fault.TheVariants as fault
use Rattle.mt_lexer.specs.declared.mode.Mode.{Mode}
use Rattle.mt_lexer.specs.declared.mode.Mode.TheVariants as m
use Rattle.mt_lexer.specs.declared.mode.Before.{Before}
use Rattle.mt_lexer.specs.declared.mode.Before.TheVariants as before
use Rattle.mt_lexer.specs.declared.mode.Opener.{Opener}
use Rattle.mt_lexer.specs.declared.mode.Opener.TheVariants as opener
use Rattle.mt_lexer.specs.declared.character.Quote.TheVariants as quote
use Rattle.mt_lexer.specs.declared.part.Part.TheVariants as p
use Rattle.mt_lexer.specs.Character.{Chars, class, first, between, until, through, text_of}
use Rattle.mt_lexer.specs.Sign.{is_greater, continues_tag, opener_of, opener_kind, begins_nothing_in_tag}
use Rattle.mt_lexer.specs.Word.{word_kind}
use Rattle.mt_lexer.specs.Spelling.{Outcome, token, refused, RunOf, opens_tag, Lexes, l_done, l_open, l_space, l_line_comment, l_block_comment, l_block_open, l_word, l_number, l_number_spoiled, l_number_large, l_text, l_text_refused, l_brace, l_close, l_close_first, l_single, l_three, l_two, l_one, l_stray, l_bad, l_opener, l_tag_open, g_end, g_space, g_name, g_equals, g_quoted, g_quoted_open, g_empty, g_void, g_children, g_bad, h_end, h_text, h_close, h_close_bad, h_close_unnamed, h_close_open, h_close_end, h_bad}
use Rattle.mt_lexer.specs.Machine.{letter_by, follows, lexed}
use Rattle.mt_lexer.proofs.Unroll.{head, stopped, at_class, run_stops}
use Rattle.mt_lexer.proofs.Tables as t
use Rattle.mt_lexer.proofs.Parts.{not_end, word_ends, words, numbers, number_spoiled, number_large, number_good, texts, lines, not_true, blocks, three, one, tag_names, attributes, values, child_texts, child_ends, child_begins, close_names, close_stops}
use Rattle.mt_tree.specs.Tables.{is_among, void_tag_names}

module _ (source : List ℕ) where
  -- ---- what every mode reads

  opener_at : (v : Class) (x y : SourceChar) (cs : Chars) (z : Mode) (ms : List Mode) (b : Before) (a : Opener) → class x ≡ v → opener_of v ≡ Some a → class y ≡ c.OpenBrace
      → lexed source (x ∷ y ∷ cs) (z ∷ ms) b p.Fresh ≡ token (opener_kind a) (through x y) (lexed source cs (m.Code (Some x.span.start) ∷ z ∷ ms) before.Other p.Fresh)
  opener_at (c.Sign sign.Tilde) x y cs z ms b a e h f = let is : opener.Tilde ≡ a = cc in by_mode z ∙ ap (λ (a : Opener). token (opener_kind a) (through x y) (lexed source cs (m.Code (Some x.span.start) ∷ z ∷ ms) before.Other p.Fresh)) is
    where
      by_mode : (z : Mode) → lexed source (x ∷ y ∷ cs) (z ∷ ms) b p.Fresh ≡ token k.TildeOpen (through x y) (lexed source cs (m.Code (Some x.span.start) ∷ z ∷ ms) before.Other p.Fresh)
      by_mode (m.Code q) = at_class source (c.Sign sign.Tilde) x (y ∷ cs) (m.Code q ∷ ms) b p.Fresh e ∙ at_class source c.OpenBrace y cs (m.Code q ∷ ms) b (p.Sign x.span sign.Tilde) f
      by_mode (m.Tag q v) = at_class source (c.Sign sign.Tilde) x (y ∷ cs) (m.Tag q v ∷ ms) b p.Fresh e ∙ at_class source c.OpenBrace y cs (m.Tag q v ∷ ms) b (p.Sign x.span sign.Tilde) f
      by_mode (m.Children q) = at_class source (c.Sign sign.Tilde) x (y ∷ cs) (m.Children q ∷ ms) b p.Fresh e ∙ at_class source c.OpenBrace y cs (m.Children q ∷ ms) b (p.ChildSign x.span.start opener.Tilde) f
  opener_at (c.Sign sign.Dollar) x y cs z ms b a e h f = let is : opener.Dollar ≡ a = cc in by_mode z ∙ ap (λ (a : Opener). token (opener_kind a) (through x y) (lexed source cs (m.Code (Some x.span.start) ∷ z ∷ ms) before.Other p.Fresh)) is
    where
      by_mode : (z : Mode) → lexed source (x ∷ y ∷ cs) (z ∷ ms) b p.Fresh ≡ token k.DollarOpen (through x y) (lexed source cs (m.Code (Some x.span.start) ∷ z ∷ ms) before.Other p.Fresh)
      by_mode (m.Code q) = at_class source (c.Sign sign.Dollar) x (y ∷ cs) (m.Code q ∷ ms) b p.Fresh e ∙ at_class source c.OpenBrace y cs (m.Code q ∷ ms) b (p.Sign x.span sign.Dollar) f
      by_mode (m.Tag q v) = at_class source (c.Sign sign.Dollar) x (y ∷ cs) (m.Tag q v ∷ ms) b p.Fresh e ∙ at_class source c.OpenBrace y cs (m.Tag q v ∷ ms) b (p.Sign x.span sign.Dollar) f
      by_mode (m.Children q) = at_class source (c.Sign sign.Dollar) x (y ∷ cs) (m.Children q ∷ ms) b p.Fresh e ∙ at_class source c.OpenBrace y cs (m.Children q ∷ ms) b (p.ChildSign x.span.start opener.Dollar) f
  opener_at _ x y cs z ms b a e h f = absurd cc

  tag_opens : (x y : SourceChar) (cs rest : Chars) (z : Mode) (ms : List Mode) (b : Before) → class x ≡ (c.Sign sign.Less) → class y ≡ c.Letter → opens_tag z b ≡ true → RunOf continues_tag cs rest
      → lexed source (x ∷ y ∷ cs) (z ∷ ms) b p.Fresh ≡ token k.TagOpen (until source x rest) (lexed source rest (m.Tag x.span.start (is_among void_tag_names (text_of source (until source y rest))) ∷ z ∷ ms) before.Other p.Fresh)
  tag_opens x y cs rest (m.Code q) ms b e f h r =
      let ns = m.Code q ∷ ms in
      at_class source (c.Sign sign.Less) x (y ∷ cs) ns b p.Fresh e ∙ at_class source c.Letter y cs ns b (p.Sign x.span sign.Less) f
      ∙ ap (λ (v : Bool). follows (lexed source cs) (letter_by source y v x.span b ns)) h ∙ tag_names source r x.span.start y.span.start ns b
  tag_opens x y cs rest (m.Tag q v) ms b e f h r = absurd cc
  tag_opens x y cs rest (m.Children q) ms b e f h r =
      let ns = m.Children q ∷ ms in
      at_class source (c.Sign sign.Less) x (y ∷ cs) ns b p.Fresh e ∙ at_class source c.Letter y cs ns b (p.ChildLess x.span.start) f ∙ tag_names source r x.span.start y.span.start ns b

  tag_nothing : (v : Class) (x : SourceChar) (cs : Chars) (q : ℕ) (w : Bool) (ms : List Mode) (b : Before) → class x ≡ v → begins_nothing_in_tag v (first cs) ≡ true
      → lexed source (x ∷ cs) (m.Tag q w ∷ ms) b p.Fresh ≡ refused fault.BadCharacter x.span.start
  tag_nothing c.End x cs q w ms b e h = absurd cc
  tag_nothing c.White x cs q w ms b e h = absurd cc
  tag_nothing c.LineFeed x cs q w ms b e h = absurd cc
  tag_nothing c.CarriageReturn x cs q w ms b e h = absurd cc
  tag_nothing c.Letter x cs q w ms b e h = absurd cc
  tag_nothing (c.Sign sign.Equals) x cs q w ms b e h = absurd cc
  tag_nothing (c.Quote quote.Double) x cs q w ms b e h = absurd cc
  tag_nothing (c.Quote quote.Single) x cs q w ms b e h = absurd cc
  tag_nothing (c.Sign sign.Greater) x cs q w ms b e h = absurd cc
  tag_nothing (c.Sign sign.Slash) x cs q w ms b e h =
      let ns = m.Tag q w ∷ ms in at_class source (c.Sign sign.Slash) x cs ns b p.Fresh e
      ∙ stopped source cs ns b (p.TagSlash x.span.start) fault.BadCharacter x.span.start (t.tag_slash_bad source (head source cs) (first cs) x.span.start ns (not_true source (is_greater (first cs)) h))
  tag_nothing (c.Sign sign.Tilde) x cs q w ms b e h =
      let ns = m.Tag q w ∷ ms in at_class source (c.Sign sign.Tilde) x cs ns b p.Fresh e
      ∙ stopped source cs ns b (p.Sign x.span sign.Tilde) fault.BadCharacter x.span.start (t.strayed source (head source cs) sign.Tilde (first cs) x.span b ns h)
  tag_nothing (c.Sign sign.Dollar) x cs q w ms b e h =
      let ns = m.Tag q w ∷ ms in at_class source (c.Sign sign.Dollar) x cs ns b p.Fresh e
      ∙ stopped source cs ns b (p.Sign x.span sign.Dollar) fault.BadCharacter x.span.start (t.strayed source (head source cs) sign.Dollar (first cs) x.span b ns h)
  tag_nothing v x cs q w ms b e h = at_class source v x cs (m.Tag q w ∷ ms) b p.Fresh e

  -- what has a spelling is read, with these tokens or this refusal
  pub complete : {ms : List Mode} {b : Before} {cs : Chars} {o : Outcome} → Lexes source ms b cs o → lexed source cs ms b p.Fresh ≡ o
  complete l_done = refl
  complete l_open = refl
  complete (l_space {q} {b} {ms} {x} {cs} h d) = ap (follows (lexed source cs)) (t.code_space source x (class x) q b ms h) ∙ complete d
  complete (l_line_comment {q} {b} {ms} {x} {y} {cs} e f r d) =
      let ns = m.Code q ∷ ms in at_class source (c.Sign sign.Slash) x (y ∷ cs) ns b p.Fresh e ∙ at_class source (c.Sign sign.Slash) y cs ns b (p.Sign x.span sign.Slash) f ∙ lines source r ns b ∙ complete d
  complete (l_block_comment {q} {b} {ms} {x} {y} {v} {w} {cs} {rest} e f r g h d) =
      let ns = m.Code q ∷ ms in let s = x.span.start in
      at_class source (c.Sign sign.Slash) x (y ∷ cs) ns b p.Fresh e ∙ at_class source (c.Sign sign.Star) y cs ns b (p.Sign x.span sign.Slash) f ∙ blocks source r s ns b
      ∙ at_class source (c.Sign sign.Star) v (w ∷ rest) ns b (p.BlockComment s) g ∙ at_class source (c.Sign sign.Slash) w rest ns b (p.BlockStar s) h ∙ complete d
  complete (l_block_open {q} {b} {ms} {x} {y} {cs} e f r) =
      let ns = m.Code q ∷ ms in at_class source (c.Sign sign.Slash) x (y ∷ cs) ns b p.Fresh e ∙ at_class source (c.Sign sign.Star) y cs ns b (p.Sign x.span sign.Slash) f ∙ blocks source r x.span.start ns b
  complete (l_word {q} {b} {ms} {x} {cs} {rest} h r d) =
      let ns = m.Code q ∷ ms in
      ap (follows (lexed source cs)) (t.code_word source x (class x) q b ms h) ∙ words source r x.span.start ns b ∙ word_ends source rest x.span.start ns b (run_stops r)
      ∙ ap (token (word_kind (text_of source (until source x rest))) (until source x rest)) (complete d)
  complete (l_number {q} {b} {ms} {x} {cs} {rest} r h l d) =
      numbers source r x q ms b refl ∙ number_good source rest x.span.start (m.Code q ∷ ms) h l ∙ ap (token k.Number (until source x rest)) (complete d)
  complete (l_number_spoiled {q} {b} {ms} {x} {cs} {rest} r h) = numbers source r x q ms b refl ∙ number_spoiled source rest x.span.start (m.Code q ∷ ms) h
  complete (l_number_large {q} {b} {ms} {x} {cs} {rest} r h l) = numbers source r x q ms b refl ∙ number_large source rest x.span.start (m.Code q ∷ ms) h l
  complete (l_text {q} {b} {ms} {x} {cs} {rest} {u = u} {end} h r d) =
      ap (follows (lexed source cs)) (t.code_quote source x (class x) u q b ms h) ∙ texts source r (m.Code q ∷ ms) b ∙ ap (token k.Text (between x.span.start end)) (complete d)
  complete (l_text_refused {q} {b} {ms} {x} {cs} {u = u} h r) = ap (follows (lexed source cs)) (t.code_quote source x (class x) u q b ms h) ∙ texts source r (m.Code q ∷ ms) b
  complete (l_brace {q} {b} {ms} {x} {cs} e d) = at_class source c.OpenBrace x cs (m.Code q ∷ ms) b p.Fresh e ∙ ap (token k.Punctuator x.span) (complete d)
  complete (l_close {q} {b} {z} {ms} {x} {cs} e d) = at_class source c.CloseBrace x cs (m.Code q ∷ z ∷ ms) b p.Fresh e ∙ ap (token k.Punctuator x.span) (complete d)
  complete (l_close_first {q} {b} {x} {cs} e d) = at_class source c.CloseBrace x cs (m.Code q ∷ []) b p.Fresh e ∙ ap (token k.Punctuator x.span) (complete d)
  complete (l_single {q} {b} {ms} {x} {cs} h d) = ap (follows (lexed source cs)) (t.code_single source x (class x) q b ms h) ∙ ap (token k.Punctuator x.span) (complete d)
  complete (l_three {q} {b} {ms} {x} {y} {z} {cs} {a = a} h e d) =
      ap (follows (lexed source (y ∷ z ∷ cs))) (t.code_sign source x (class x) a q b ms h) ∙ three source a x y z cs (m.Code q ∷ ms) b e ∙ ap (token k.Punctuator (through x z)) (complete d)
  complete (l_two {q} {b} {ms} {x} {y} {cs} {a = a} h e d) =
      ap (follows (lexed source (y ∷ cs))) (t.code_sign source x (class x) a q b ms h) ∙ ap (follows (lexed source cs)) (t.two_joined source y a (class y) x.span b (m.Code q ∷ ms) e)
      ∙ ap (token k.Punctuator (through x y)) (complete d)
  complete (l_one {q} {b} {ms} {x} {cs} {a = a} h e d) =
      ap (follows (lexed source cs)) (t.code_sign source x (class x) a q b ms h) ∙ one source a x cs q ms b e ∙ ap (token k.Punctuator x.span) (complete d)
  complete (l_stray {q} {b} {ms} {x} {cs} {a = a} h e) =
      ap (follows (lexed source cs)) (t.code_sign source x (class x) a q b ms h)
      ∙ stopped source cs (m.Code q ∷ ms) b (p.Sign x.span a) fault.BadCharacter x.span.start (t.strayed source (head source cs) a (first cs) x.span b (m.Code q ∷ ms) e)
  complete (l_bad {q} {b} {ms} {x} {cs} h) = ap (follows (lexed source cs)) (t.code_nothing source x (class x) q b ms h)
  complete (l_opener {b} {z} {ms} {x} {y} {cs} {a = a} h e d) = opener_at (class x) x y cs z ms b a refl h e ∙ ap (token (opener_kind a) (through x y)) (complete d)
  complete (l_tag_open {b} {z} {ms} {x} {y} {cs} {rest} e f h r d) = tag_opens x y cs rest z ms b e f h r ∙ ap (token k.TagOpen (until source x rest)) (complete d)
  complete g_end = refl
  complete (g_space {q} {v} {b} {ms} {x} {cs} h d) = ap (follows (lexed source cs)) (t.tag_space source x (class x) q v b ms h) ∙ complete d
  complete (g_name {q} {v} {b} {ms} {x} {cs} {rest} e r d) =
      at_class source c.Letter x cs (m.Tag q v ∷ ms) b p.Fresh e ∙ attributes source r x.span.start (m.Tag q v ∷ ms) b ∙ ap (token k.AttributeName (until source x rest)) (complete d)
  complete (g_equals {q} {v} {b} {ms} {x} {cs} e d) = at_class source (c.Sign sign.Equals) x cs (m.Tag q v ∷ ms) b p.Fresh e ∙ ap (token k.Punctuator x.span) (complete d)
  complete (g_quoted {q} {v} {b} {ms} {x} {y} {cs} {rest} {u = u} h r d) =
      let ns = m.Tag q v ∷ ms in let s = x.span.start in
      ap (follows (lexed source cs)) (t.tag_quote source x (class x) u q v b ms h) ∙ values source u r s ns b
      ∙ ap (follows (lexed source rest)) (t.value_ends source y (class y) s u b ns (not_end y.value) (run_stops r)) ∙ ap (token k.Quoted (through x y)) (complete d)
  complete (g_quoted_open {q} {v} {b} {ms} {x} {cs} {u} h r) = ap (follows (lexed source cs)) (t.tag_quote source x (class x) u q v b ms h) ∙ values source u r x.span.start (m.Tag q v ∷ ms) b
  complete (g_empty {q} {v} {b} {ms} {x} {y} {cs} e f d) =
      let ns = m.Tag q v ∷ ms in at_class source (c.Sign sign.Slash) x (y ∷ cs) ns b p.Fresh e ∙ at_class source (c.Sign sign.Greater) y cs ns b (p.TagSlash x.span.start) f ∙ ap (token k.TagEnd (through x y)) (complete d)
  complete (g_void {q} {b} {ms} {x} {cs} e d) = at_class source (c.Sign sign.Greater) x cs (m.Tag q true ∷ ms) b p.Fresh e ∙ ap (token k.TagEnd x.span) (complete d)
  complete (g_children {q} {b} {ms} {x} {cs} e d) = at_class source (c.Sign sign.Greater) x cs (m.Tag q false ∷ ms) b p.Fresh e ∙ ap (token k.TagEnd x.span) (complete d)
  complete (g_bad {q} {v} {b} {ms} {x} {cs} h) = tag_nothing (class x) x cs q v ms b refl h
  complete h_end = refl
  complete (h_text {q} {b} {ms} {x} {cs} {rest} h r d) =
      let ns = m.Children q ∷ ms in
      child_begins source (class x) x cs q ms b refl h ∙ child_texts source r x.span.start ns b ∙ child_ends source rest x.span.start q ms b (run_stops r) ∙ ap (token k.ChildText (until source x rest)) (complete d)
  complete (h_close {q} {b} {ms} {x} {y} {z} {cs} {rest} e f r g d) =
      let ns = m.Children q ∷ ms in let s = x.span.start in
      at_class source (c.Sign sign.Less) x (y ∷ cs) ns b p.Fresh e ∙ at_class source (c.Sign sign.Slash) y cs ns b (p.ChildLess s) f ∙ close_names source r s ns b ∙ at_class source (c.Sign sign.Greater) z rest ns b (p.CloseSpace s) g
      ∙ ap (token k.CloseTag (through x z)) (complete d)
  complete (h_close_bad {q} {b} {ms} {x} {y} {z} {cs} {rest} e f r g) =
      let ns = m.Children q ∷ ms in let s = x.span.start in
      at_class source (c.Sign sign.Less) x (y ∷ cs) ns b p.Fresh e ∙ at_class source (c.Sign sign.Slash) y cs ns b (p.ChildLess s) f ∙ close_names source r s ns b
      ∙ ap (follows (lexed source rest)) (t.close_space_bad source z (class z) s b ns (close_stops source r) g (not_end z.value))
  complete (h_close_unnamed {q} {b} {ms} {x} {y} {z} {cs} e f g) =
      let ns = m.Children q ∷ ms in let s = x.span.start in
      at_class source (c.Sign sign.Less) x (y ∷ z ∷ cs) ns b p.Fresh e ∙ at_class source (c.Sign sign.Slash) y (z ∷ cs) ns b (p.ChildLess s) f
      ∙ ap (follows (lexed source cs)) (t.close_start_bad source z (class z) s b ns g (not_end z.value))
  complete (h_close_open {q} {b} {ms} {x} {y} {cs} e f r) =
      let ns = m.Children q ∷ ms in let s = x.span.start in
      at_class source (c.Sign sign.Less) x (y ∷ cs) ns b p.Fresh e ∙ at_class source (c.Sign sign.Slash) y cs ns b (p.ChildLess s) f ∙ close_names source r s ns b
  complete (h_close_end {q} {b} {ms} {x} {y} e f) =
      let ns = m.Children q ∷ ms in at_class source (c.Sign sign.Less) x (y ∷ []) ns b p.Fresh e ∙ at_class source (c.Sign sign.Slash) y [] ns b (p.ChildLess x.span.start) f
  complete (h_bad {q} {b} {ms} {x} {cs} e h) =
      let ns = m.Children q ∷ ms in at_class source (c.Sign sign.Less) x cs ns b p.Fresh e
      ∙ stopped source cs ns b (p.ChildLess x.span.start) fault.BadCharacter x.span.start (t.child_less_nothing source (head source cs) (first cs) x.span.start b ns h)

  -- a text has one source outcome
  pub one_outcome : {ms : List Mode} {b : Before} {cs : Chars} {o w : Outcome} → Lexes source ms b cs o → Lexes source ms b cs w → o ≡ w
  one_outcome d e = sym (complete d) ∙ complete e
