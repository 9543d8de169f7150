-- The texts of a source's tokens fit their kinds, and no text of an element stands directly behind another.
use Rattle.std.proofs.Common.{◌≡◌, ℕ, Bool, true, false, List, [], ◌∷◌, ◌++◌, drop, map, Option, None, Some, sym, ap, ◌∙◌, subst}
use Rattle.std.specs.Str.{all_scalars}
use Rattle.std.proofs.lemmas.Bool.{both_ways, and_from}
use lib.Utf8.{encode, encodes}
use Rattle.unicode_ident.specs.Ident.{is_xid_continue}
use Rattle.mt_lexer.specs.declared.character.SourceChar.{SourceChar}
use Rattle.mt_lexer.specs.declared.character.Class.{Class}
use Rattle.mt_lexer.specs.declared.character.Class.TheVariants as c
use Rattle.mt_lexer.specs.declared.character.Quote.{Quote}
use Rattle.mt_lexer.specs.declared.character.Sign.TheVariants as sign
use Rattle.mt_lexer.specs.declared.mode.Before.{Before}
use Rattle.mt_lexer.specs.declared.mode.Mode.{Mode}
use Rattle.mt_lexer.specs.declared.mode.Mode.TheVariants as m
use Rattle.mt_lexer.specs.declared.mode.Opener.{Opener}
use Rattle.mt_lexer.specs.declared.mode.Opener.TheVariants as opener
use Rattle.mt_tree.specs.declared.kind.Kind.TheVariants as k
use Rattle.mt_lexer.specs.Character.{Chars, class, first, second, text_of, until}
use Rattle.mt_lexer.specs.Escape.{escape}
use Rattle.mt_lexer.specs.Sign.{continues_attribute, continues_name, continues_tag, in_child_text, is_letter, opener_kind, starts_name}
use Rattle.mt_lexer.specs.Spelling.{Outcome, Run, RunOf, run_end, run_more, TextEnd, closed, broken, InText, text_closes, text_plain, text_escape, text_bad_escape, text_unclosed, Digits, zero_alone, more_digits, CloseName, close_name, Lexes, l_done, l_open, l_space, l_line_comment, l_block_comment, l_block_open, l_word, l_number, l_number_spoiled, l_number_large, l_text, l_text_refused, l_brace, l_close, l_close_first, l_single, l_three, l_two, l_one, l_stray, l_bad, l_opener, l_tag_open, g_end, g_space, g_name, g_equals, g_quoted, g_quoted_open, g_empty, g_void, g_children, g_bad, h_end, h_text, h_close, h_close_bad, h_close_unnamed, h_close_open, h_close_end, h_bad}
use Rattle.mt_lexer.specs.Verdict.{marks_in}
use Rattle.mt_lexer.specs.Word.{word_kind}
use Rattle.mt_grammar.specs.Token.{Tokens, tag_bytes}
use Rattle.mt_parser_marks.specs.Tokens.{token_in}
use Rattle.mt_parser_marks.specs.Values.{decoded}
use Rattle.mt_parser_marks.proofs.Readable.{Bounded}
use Rattle.mt_parser_marks.proofs.Suffixes.{Ends, all, past, onward, Left, escape_left}
use Rattle.mt_parser.proofs.Classes.{attribute_character, continues, is_attribute_character, is_tag_character, less, letter, starts, tag_character}
use Rattle.mt_parser.proofs.Fits.{TagFits, TextFits}
use Rattle.mt_parser.proofs.Fronts.{AreScalars, bounded_end, decodes, front, front_passes, front_scalars, run_ends, text_from}
use Rattle.mt_parser.proofs.Openings.{run_opens_none, text_fits}
use Rattle.mt_parser.proofs.Terminals.{AllFit, KindFits, NoTextNext}
use Rattle.mt_parser.proofs.Words.{attribute_is, tag_fits, word_fits, word_is_no_text}

-- ---- what follows stands further on

run_stops : {passes : Class → Class → Bool} {cs rest : Chars} → Run passes cs rest → passes (first rest) (second rest) ≡ false
run_stops (run_end h) = h
run_stops (run_more h d) = run_stops d

digits_end : {y : Class} {cs rest : Chars} → Digits y cs rest → Ends cs rest
digits_end zero_alone = all
digits_end (more_digits r) = run_ends r

name_ends : {cs rest : Chars} → CloseName cs rest → Ends cs rest
name_ends (close_name e r w) = past (onward (run_ends r) (run_ends w))

escape_ends : (cs : Chars) → Left (escape cs) cs
escape_ends [] = tt
escape_ends (x ∷ cs) = before (escape (x ∷ cs)) (escape_left x cs)
  where
    before : (o : Option (ℕ × Chars)) → Left o cs → Left o (x ∷ cs)
    before None h = tt
    before (Some r) h = past h

abbrev TextEnds : TextEnd → Chars → Type 0
TextEnds (closed end rest) cs = Ends cs rest
TextEnds (broken f at) cs = Unit {0}

text_past : (r : TextEnd) (cs mid : Chars) → Ends cs mid → TextEnds r mid → TextEnds r cs
text_past (closed end rest) cs mid e g = onward e g
text_past (broken f at) cs mid e g = tt

text_ends : {s : ℕ} {u : Quote} {cs : Chars} {r : TextEnd} → InText s u cs r → TextEnds r cs
text_ends (text_closes h) = past all
text_ends (text_plain {x} {cs} {r} h d) = text_past r (x ∷ cs) cs (past all) (text_ends d)
text_ends (text_escape {x} {cs} {rest} {r} v q h d) = text_past r (x ∷ cs) rest (past (subst (λ w. Left w cs) h (escape_ends cs))) (text_ends d)
text_ends (text_bad_escape q h) = tt
text_ends (text_unclosed h) = tt

scalars_end : {cs rest : Chars} → Ends cs rest → AreScalars cs → AreScalars rest
scalars_end all h = h
scalars_end (past d) h = scalars_end d h.1

-- ---- tokens

opener_fits : (a : Opener) (text : List ℕ) → KindFits (opener_kind a) text
opener_fits opener.Tilde text = tt
opener_fits opener.Dollar text = tt

opener_is_no_text : (a : Opener) → opener_kind a ≡ k.ChildText → ⊥
opener_is_no_text opener.Tilde e = cc
opener_is_no_text opener.Dollar e = cc

-- in the children of an element
abbrev InChildren : List Mode → Type 0
InChildren (m.Children q ∷ ms) = Unit {0}
InChildren ms = ⊥

module _ (source : List ℕ) where
  -- the tokens of an outcome
  abbrev pub spelled_in : Outcome → Tokens
  spelled_in o = map (token_in source) (marks_in o)

  abbrev pub Given : Chars → Type 0
  Given cs = Bounded source cs × AreScalars cs

  given_end : {cs rest : Chars} → Ends cs rest → Given cs → Given rest
  given_end e g = (bounded_end source e g.0, scalars_end e g.1)

  -- where no text goes on, none comes next
  no_text : {ms : List Mode} {b : Before} {cs : Chars} {o : Outcome} → Lexes source ms b cs o → InChildren ms → in_child_text (first cs) (second cs) ≡ false → NoTextNext (spelled_in o)
  no_text (l_opener {a = a} h e d) i n = opener_is_no_text a
  no_text (l_tag_open e f h r d) i n = λ is. cc
  no_text h_end i n = tt
  no_text (h_text {x = x} {cs} h r d) i n = absurd (both_ways (in_child_text (class x) (first cs)) n h)
  no_text (h_close e f r g d) i n = λ is. cc
  no_text (h_close_bad e f r g) i n = tt
  no_text (h_close_unnamed e f g) i n = tt
  no_text (h_close_open e f r) i n = tt
  no_text (h_close_end e f) i n = tt
  no_text (h_bad e h) i n = tt
  no_text _ i n = absurd i

  abbrev FitsFrom : Outcome → Chars → Type 0
  FitsFrom o cs = Given cs → AllFit (spelled_in o)

  -- the text of a character and a run behind it, and its characters
  run_scalars : {passes : Class → Class → Bool} (x : SourceChar) {cs rest : Chars} (r : Run passes cs rest) → Given (x ∷ cs) → all_scalars (x.value ∷ front r) ≡ true
  run_scalars x r g = and_from _ (all_scalars (front r)) g.1.0 (front_scalars r g.1.1)

  word : (x : SourceChar) {cs rest : Chars} → starts_name (class x) ≡ true → (r : RunOf continues_name cs rest) → Given (x ∷ cs)
      → KindFits (word_kind (text_of source (until source x rest))) (text_of source (until source x rest))
  word x {cs} {rest} h r g =
      word_fits (text_of source (until source x rest)) x.value (front r) (text_from source x r g.0) (starts x.value h) (front_passes is_xid_continue continues r) (run_scalars x r g)

  tag : (x y : SourceChar) {cs rest : Chars} → class x ≡ c.Sign sign.Less → class y ≡ c.Letter → (r : RunOf continues_tag cs rest) → Given (x ∷ y ∷ cs) → TagFits (tag_bytes (drop 1 (text_of source (until source x rest))))
  unfolding encode
  tag x y {cs} {rest} e f r g =
      let behind : Run (λ z w. continues_tag z) (y ∷ cs) rest = run_more (ap (λ z. continues_tag z) f) r in
      let bytes : text_of source (until source x rest) ≡ 60 ∷ encodes (y.value ∷ front r) = text_from source x behind g.0 ∙ ap (λ v. encode v ++ encodes (y.value ∷ front r)) (less x.value e) in
      subst (λ l. TagFits (tag_bytes (drop 1 l))) (sym bytes)
      (tag_fits y.value (front r) (letter y.value (ap is_letter f)) (front_passes is_tag_character tag_character r) (run_scalars y r (g.0.1, g.1.1)))

  attribute : (x : SourceChar) {cs rest : Chars} → class x ≡ c.Letter → (r : RunOf continues_attribute cs rest) → Given (x ∷ cs) → KindFits k.AttributeName (text_of source (until source x rest))
  attribute x {cs} {rest} e r g =
      attribute_is (text_of source (until source x rest)) x.value (front r) (text_from source x r g.0) (letter x.value (ap is_letter e)) (front_passes is_attribute_character attribute_character r) (run_scalars x r g)

  child_text : (x : SourceChar) {cs rest : Chars} → in_child_text (class x) (first cs) ≡ true → (r : Run in_child_text cs rest) → Given (x ∷ cs) → TextFits (text_of source (until source x rest))
  child_text x {cs} {rest} h r g =
      let text = text_of source (until source x rest) in
      text_fits text x.value (front r) (ap decoded (text_from source x r g.0) ∙ decodes (x.value ∷ front r) (run_scalars x r g)) (run_opens_none (run_more {x = x} h r))

  pub lexed : {ms : List Mode} {b : Before} {cs : Chars} {o : Outcome} → Lexes source ms b cs o → FitsFrom o cs
  lexed l_done = λ g. tt
  lexed l_open = λ g. tt
  lexed (l_space h d) = λ g. lexed d (given_end (past all) g)
  lexed (l_line_comment e f r d) = λ g. lexed d (given_end (past (past (run_ends r))) g)
  lexed (l_block_comment {v = v} {w} e f r g h d) = λ g. lexed d (given_end (past (past (onward (run_ends r) (past {x = v} (past {x = w} all))))) g)
  lexed (l_block_open e f r) = λ g. tt
  lexed (l_word {x = x} {cs} {rest} {o} h r d) = λ g. (word x h r g, (λ is. absurd (word_is_no_text (text_of source (until source x rest)) is)), lexed d (given_end (past (run_ends r)) g))
  lexed (l_number {x = x} {cs} {rest} {o} r h l d) = λ g. (tt, (λ is. absurd cc), lexed d (given_end (past (digits_end r)) g))
  lexed (l_number_spoiled r h) = λ g. tt
  lexed (l_number_large r h l) = λ g. tt
  lexed (l_text {o = o} h r d) = λ g. (tt, (λ is. absurd cc), lexed d (given_end (past (text_ends r)) g))
  lexed (l_text_refused h r) = λ g. tt
  lexed (l_brace e d) = λ g. (tt, (λ is. absurd cc), lexed d (given_end (past all) g))
  lexed (l_close e d) = λ g. (tt, (λ is. absurd cc), lexed d (given_end (past all) g))
  lexed (l_close_first e d) = λ g. (tt, (λ is. absurd cc), lexed d (given_end (past all) g))
  lexed (l_single h d) = λ g. (tt, (λ is. absurd cc), lexed d (given_end (past all) g))
  lexed (l_three h e d) = λ g. (tt, (λ is. absurd cc), lexed d (given_end (past (past (past all))) g))
  lexed (l_two h e d) = λ g. (tt, (λ is. absurd cc), lexed d (given_end (past (past all)) g))
  lexed (l_one h e d) = λ g. (tt, (λ is. absurd cc), lexed d (given_end (past all) g))
  lexed (l_stray h e) = λ g. tt
  lexed (l_bad h) = λ g. tt
  lexed (l_opener {a = a} h e d) = λ g. (opener_fits a _, (λ is. absurd (opener_is_no_text a is)), lexed d (given_end (past (past all)) g))
  lexed (l_tag_open {x = x} {y} {cs} {rest} e f h r d) = λ g. (tag x y e f r g, (λ is. absurd cc), lexed d (given_end (past (past (run_ends r))) g))
  lexed g_end = λ g. tt
  lexed (g_space h d) = λ g. lexed d (given_end (past all) g)
  lexed (g_name {x = x} {cs} {rest} e r d) = λ g. (attribute x e r g, (λ is. absurd cc), lexed d (given_end (past (run_ends r)) g))
  lexed (g_equals e d) = λ g. (tt, (λ is. absurd cc), lexed d (given_end (past all) g))
  lexed (g_quoted {y = y} h r d) = λ g. (tt, (λ is. absurd cc), lexed d (given_end (past (onward (run_ends r) (past {x = y} all))) g))
  lexed (g_quoted_open h r) = λ g. tt
  lexed (g_empty e f d) = λ g. (tt, (λ is. absurd cc), lexed d (given_end (past (past all)) g))
  lexed (g_void e d) = λ g. (tt, (λ is. absurd cc), lexed d (given_end (past all) g))
  lexed (g_children e d) = λ g. (tt, (λ is. absurd cc), lexed d (given_end (past all) g))
  lexed (g_bad h) = λ g. tt
  lexed h_end = λ g. tt
  lexed (h_text {x = x} {cs} {rest} h r d) = λ g. (child_text x h r g, (λ is. no_text d tt (run_stops r)), lexed d (given_end (past (run_ends r)) g))
  lexed (h_close {z = z} e f r q d) = λ g. (tt, (λ is. absurd cc), lexed d (given_end (past (past (onward (name_ends r) (past {x = z} all)))) g))
  lexed (h_close_bad e f r g) = λ g. tt
  lexed (h_close_unnamed e f g) = λ g. tt
  lexed (h_close_open e f r) = λ g. tt
  lexed (h_close_end e f) = λ g. tt
  lexed (h_bad e h) = λ g. tt
