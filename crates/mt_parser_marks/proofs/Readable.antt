-- The texts of a source's tokens are cut where characters begin and end.
use Rattle.std.proofs.Common.{◌≡◌, ℕ, suc, ◌+◌, ◌-◌, ◌<◌, ◌≤◌, Bool, true, false, ◌&&◌, List, [], ◌∷◌, ◌++◌, length, take, drop, Option, Some, None, refl, sym, ap, ◌∙◌, subst, length-drop, arith}
use Rattle.std.specs.Prelude.{nat_le, if◌then◌else◌}
use Rattle.std.specs.Str.{IsUtf8, IsCharBoundary, all_ascii_digits}
use Rattle.std.proofs.lemmas.Bool.{and_from}
use Rattle.std.proofs.lemmas.Bool.Decides.{nat_tests}
use Rattle.std.proofs.lemmas.Str.{length-encode, encode_ascii, IsUtf8-past_char, IsCharBoundary-end, IsCharBoundary-from_drop, IsCharBoundary-past_char, drop_past_char}
use lib.Utf8.{encode, encodes}
use Rattle.mt_lexer.specs.declared.character.SourceChar.{SourceChar}
use Rattle.mt_lexer.specs.declared.character.Class.{Class}
use Rattle.mt_lexer.specs.declared.character.Quote.{Quote}
use Rattle.mt_lexer.specs.declared.mode.Before.{Before}
use Rattle.mt_lexer.specs.declared.mode.Mode.{Mode}
use Rattle.mt_lexer.specs.declared.mode.Opener.{Opener}
use Rattle.mt_lexer.specs.declared.mode.Opener.TheVariants as opener
use Rattle.mt_tree.specs.declared.kind.Kind.{Kind}
use Rattle.mt_tree.specs.declared.kind.Kind.TheVariants as k
use Rattle.mt_lexer.specs.Character.{Chars, characters_from, class, place, text_of}
use Rattle.mt_lexer.specs.Escape.{escape}
use Rattle.mt_lexer.specs.Sign.{is_digit, opener_kind}
use Rattle.mt_lexer.specs.Spelling.{Outcome, Run, RunOf, run_end, run_more, TextEnd, closed, broken, InText, text_closes, text_plain, text_escape, text_bad_escape, text_unclosed, Digits, zero_alone, more_digits, CloseName, close_name, Lexes, l_done, l_open, l_space, l_line_comment, l_block_comment, l_block_open, l_word, l_number, l_number_spoiled, l_number_large, l_text, l_text_refused, l_brace, l_close, l_close_first, l_single, l_three, l_two, l_one, l_stray, l_bad, l_opener, l_tag_open, g_end, g_space, g_name, g_equals, g_quoted, g_quoted_open, g_empty, g_void, g_children, g_bad, h_end, h_text, h_close, h_close_bad, h_close_unnamed, h_close_open, h_close_end, h_bad}
use Rattle.mt_lexer.specs.Tokens.{Mark}
use Rattle.mt_lexer.specs.Verdict.{marks_in}
use Rattle.mt_lexer.specs.Word.{word_kind}
use Rattle.mt_parser_marks.specs.Readable.{FitsKind}
use Rattle.mt_parser_marks.proofs.Digits.{digit-is}
use Rattle.mt_parser_marks.proofs.Suffixes.{Ends, all, past, onward, Left, escape_left}
use Rattle.mt_tree.specs.Tables.{is_among}
use Rattle.mt_tree.specs.Words.{reserved_words}

-- ---- what follows a run stands further on

run_ends : {passes : Class → Class → Bool} {cs rest : Chars} → Run passes cs rest → Ends cs rest
run_ends (run_end h) = all
run_ends (run_more h d) = past (run_ends d)

digits_end : {y : Class} {cs rest : Chars} → Digits y cs rest → Ends cs rest
digits_end zero_alone = all
digits_end (more_digits r) = run_ends r

name_ends : {cs rest : Chars} → CloseName cs rest → Ends cs rest
name_ends (close_name e r w) = past (onward (run_ends r) (run_ends w))

escape_ends : (cs : Chars) → Left (escape cs) cs
escape_ends [] = tt
escape_ends (x ∷ cs) = before (escape (x ∷ cs)) (escape_left x cs)
  where
    before : (o : Option (ℕ × Chars)) → Left o cs → Left o (x ∷ cs)
    before None h = tt
    before (Some r) h = past h

word_fits : (word text : List ℕ) → FitsKind (word_kind word) text
word_fits word text = chosen (is_among reserved_words word)
  where
    chosen : (t : Bool) → FitsKind (if t then k.Reserved else k.Name) text
    chosen true = tt
    chosen false = tt

opener_fits : (a : Opener) (text : List ℕ) → FitsKind (opener_kind a) text
opener_fits opener.Tilde text = tt
opener_fits opener.Dollar text = tt

module _ (source : List ℕ) where
  -- where a character begins and ends the source may be cut, and it lies between
  pub record Lies (x : SourceChar) (at : ℕ) : Type 0 where
    pub begins : IsCharBoundary source x.span.start
    pub ends : IsCharBoundary source x.span.end
    pub length : x.span.end ≡ x.span.start + length (encode x.value)
    pub spelled : drop x.span.start source ≡ encode x.value ++ drop x.span.end source
    pub next : at ≡ x.span.end

  abbrev pub Bounded : Chars → Type 0
  Bounded [] = Unit {0}
  Bounded (x ∷ cs) = Lies x (place source cs) × Bounded cs

  bounded_end : {cs rest : Chars} → Ends cs rest → Bounded cs → Bounded rest
  bounded_end all h = h
  bounded_end (past d) h = bounded_end d h.1

  place_bound : (cs : Chars) → Bounded cs → IsCharBoundary source (place source cs)
  place_bound [] h = IsCharBoundary-end source
  place_bound (x ∷ cs) h = h.0.begins

  place_on : {cs rest : Chars} → Ends cs rest → Bounded cs → place source cs ≤ place source rest
  place_on all h = omega arith
  place_on (past d) h = omega (arith, place_on d h.1, h.0.length, h.0.next)

  -- the bytes from the one character to the other
  abbrev part : ℕ → ℕ → List ℕ
  part start end = text_of source (record { start = start; end = end })

  none : (at : ℕ) → all_ascii_digits (part at at) ≡ true
  none at = let e : at - at ≡ 0 = omega arith in ap (λ (n : ℕ). all_ascii_digits (take n (drop at source))) e

  -- a digit, and the digits behind it
  digit_more : (x : SourceChar) (cs rest : Chars) → is_digit (class x) ≡ true → Ends cs rest → Bounded (x ∷ cs)
      → all_ascii_digits (part (place source cs) (place source rest)) ≡ true → all_ascii_digits (part x.span.start (place source rest)) ≡ true
  digit_more x cs rest d e h later =
      let start = x.span.start in let end = place source rest in let next = place source cs in
      let range = digit-is x.value d in
      let small : x.value < 128 = grind (arith, nat_tests) in
      let one : encode x.value ≡ x.value ∷ [] = encode_ascii x.value small in
      let n = ap length one in let l = h.0.length in let m = h.0.next in let on = place_on e h.1 in
      let count : end - start ≡ suc (end - next) = omega arith in
      let bytes : drop start source ≡ x.value ∷ drop next source = h.0.spelled ∙ ap (λ (bs : List ℕ). bs ++ drop x.span.end source) one ∙ ap (λ (k : ℕ). x.value ∷ drop k source) (sym h.0.next) in
      let whole : part start end ≡ x.value ∷ part next end = ap (λ (k : ℕ). take k (drop start source)) count ∙ ap (λ (bs : List ℕ). take (suc (end - next)) bs) bytes in
      ap all_ascii_digits whole ∙ and_from (nat_le 48 x.value && nat_le x.value 57) (all_ascii_digits (part next end)) range later

  run_digits : {cs rest : Chars} → RunOf is_digit cs rest → Bounded cs → all_ascii_digits (part (place source cs) (place source rest)) ≡ true
  run_digits (run_end {cs} t) h = none (place source cs)
  run_digits (run_more {x} {cs} {rest} t d) h = digit_more x cs rest t (run_ends d) h (run_digits d h.1)

  behind_digit : {y : Class} {cs rest : Chars} → Digits y cs rest → Bounded cs → all_ascii_digits (part (place source cs) (place source rest)) ≡ true
  behind_digit (zero_alone {cs}) h = none (place source cs)
  behind_digit (more_digits r) h = run_digits r h

  first_digit : {y : Class} {cs rest : Chars} → Digits y cs rest → is_digit y ≡ true
  first_digit zero_alone = refl
  first_digit (more_digits r) = refl

  number_digits : (x : SourceChar) (cs rest : Chars) → Digits (class x) cs rest → Bounded (x ∷ cs) → all_ascii_digits (part x.span.start (place source rest)) ≡ true
  number_digits x cs rest r h = digit_more x cs rest (first_digit r) (digits_end r) h (behind_digit r h.1)

  -- each token begins and ends so, and its text fits its kind
  abbrev pub Cut : List Mark → Type 0
  Cut [] = Unit {0}
  Cut (t ∷ ts) = IsCharBoundary source t.span.start × IsCharBoundary source t.span.end × FitsKind t.kind (text_of source t.span) × Cut ts

  abbrev CutFrom : List Mark → Chars → Type 0
  CutFrom ts cs = Bounded cs → Cut ts

  abbrev TextCut : TextEnd → Chars → Type 0
  TextCut (closed end rest) cs = Bounded cs → IsCharBoundary source end × Bounded rest
  TextCut (broken f at) cs = Unit {0}

  text_past : (r : TextEnd) (cs mid : Chars) → Ends cs mid → TextCut r mid → TextCut r cs
  text_past (closed end rest) cs mid e g = λ h. g (bounded_end e h)
  text_past (broken f at) cs mid e g = tt

  text_cut : {s : ℕ} {u : Quote} {cs : Chars} {r : TextEnd} → InText s u cs r → TextCut r cs
  text_cut (text_closes {x} {cs} h) = λ g. (g.0.ends, g.1)
  text_cut (text_plain {x} {cs} {r} h d) = text_past r (x ∷ cs) cs (past all) (text_cut d)
  text_cut (text_escape {x} {cs} {rest} {r} v q h d) =
      text_past r (x ∷ cs) rest (past (subst (λ (w : Option (ℕ × Chars)). Left w cs) h (escape_ends cs))) (text_cut d)
  text_cut (text_bad_escape q h) = tt
  text_cut (text_unclosed h) = tt

  -- up to the rest
  ran : (kind : Kind) (x : SourceChar) (cs rest : Chars) (ts : List Mark) → ((text : List ℕ) → FitsKind kind text) → Ends (x ∷ cs) rest → CutFrom ts rest → Bounded (x ∷ cs)
      → IsCharBoundary source x.span.start × IsCharBoundary source (place source rest) × FitsKind kind (text_of source (record { start = x.span.start; end = place source rest })) × Cut ts
  ran kind x cs rest ts fits e g h =
      let b = bounded_end e h in (h.0.begins, place_bound rest b, fits (text_of source (record { start = x.span.start; end = place source rest })), g b)

  -- up to the end of a character
  joined : (kind : Kind) (x z : SourceChar) (cs rest : Chars) (ts : List Mark) → ((text : List ℕ) → FitsKind kind text) → Ends (x ∷ cs) (z ∷ rest) → CutFrom ts rest → Bounded (x ∷ cs)
      → IsCharBoundary source x.span.start × IsCharBoundary source z.span.end × FitsKind kind (text_of source (record { start = x.span.start; end = z.span.end })) × Cut ts
  joined kind x z cs rest ts fits e g h =
      let b = bounded_end e h in (h.0.begins, b.0.ends, fits (text_of source (record { start = x.span.start; end = z.span.end })), g b.1)

  skipped : (cs rest : Chars) (ts : List Mark) → Ends cs rest → CutFrom ts rest → CutFrom ts cs
  skipped cs rest ts e g h = g (bounded_end e h)

  pub cut : {ms : List Mode} {b : Before} {cs : Chars} {o : Outcome} → Lexes source ms b cs o → CutFrom (marks_in o) cs
  cut l_done = λ h. tt
  cut l_open = λ h. tt
  cut (l_space {x = x} {cs} {o} h d) = skipped (x ∷ cs) cs (marks_in o) (past all) (cut d)
  cut (l_line_comment {x = x} {y} {cs} {rest} {o} e f r d) = skipped (x ∷ y ∷ cs) rest (marks_in o) (past (past (run_ends r))) (cut d)
  cut (l_block_comment {x = x} {y} {v} {w} {cs} {rest} {o} e f r g h d) = skipped (x ∷ y ∷ cs) rest (marks_in o) (past (past (onward (run_ends r) (past {x = v} (past {x = w} all))))) (cut d)
  cut (l_block_open e f r) = λ h. tt
  cut (l_word {x = x} {cs} {rest} {o} h r d) =
      ran (word_kind (text_of source (record { start = x.span.start; end = place source rest }))) x cs rest (marks_in o) (word_fits (text_of source (record { start = x.span.start; end = place source rest }))) (past (run_ends r)) (cut d)
  cut (l_number {x = x} {cs} {rest} {o} r h l d) = λ g. let b = bounded_end (digits_end r) g.1 in (g.0.begins, place_bound rest b, (number_digits x cs rest r g, l), cut d b)
  cut (l_number_spoiled r h) = λ h. tt
  cut (l_number_large r h l) = λ h. tt
  cut (l_text {x = x} {cs} {rest} {o} {u} {end} h r d) = λ g. let a = text_cut r g.1 in (g.0.begins, a.0, tt, cut d a.1)
  cut (l_text_refused h r) = λ h. tt
  cut (l_brace {x = x} {cs} {o} e d) = joined k.Punctuator x x cs cs (marks_in o) (λ text. tt) all (cut d)
  cut (l_close {x = x} {cs} {o} e d) = joined k.Punctuator x x cs cs (marks_in o) (λ text. tt) all (cut d)
  cut (l_close_first {x = x} {cs} {o} e d) = joined k.Punctuator x x cs cs (marks_in o) (λ text. tt) all (cut d)
  cut (l_single {x = x} {cs} {o} h d) = joined k.Punctuator x x cs cs (marks_in o) (λ text. tt) all (cut d)
  cut (l_three {x = x} {y} {z} {cs} {o} h e d) = joined k.Punctuator x z (y ∷ z ∷ cs) cs (marks_in o) (λ text. tt) (past (past all)) (cut d)
  cut (l_two {x = x} {y} {cs} {o} h e d) = joined k.Punctuator x y (y ∷ cs) cs (marks_in o) (λ text. tt) (past all) (cut d)
  cut (l_one {x = x} {cs} {o} h e d) = joined k.Punctuator x x cs cs (marks_in o) (λ text. tt) all (cut d)
  cut (l_stray h e) = λ h. tt
  cut (l_bad h) = λ h. tt
  cut (l_opener {x = x} {y} {cs} {o} {a} h e d) = joined (opener_kind a) x y (y ∷ cs) cs (marks_in o) (opener_fits a) (past all) (cut d)
  cut (l_tag_open {x = x} {y} {cs} {rest} {o} e f h r d) = ran k.TagOpen x (y ∷ cs) rest (marks_in o) (λ text. tt) (past (past (run_ends r))) (cut d)
  cut g_end = λ h. tt
  cut (g_space {x = x} {cs} {o} h d) = skipped (x ∷ cs) cs (marks_in o) (past all) (cut d)
  cut (g_name {x = x} {cs} {rest} {o} e r d) = ran k.AttributeName x cs rest (marks_in o) (λ text. tt) (past (run_ends r)) (cut d)
  cut (g_equals {x = x} {cs} {o} e d) = joined k.Punctuator x x cs cs (marks_in o) (λ text. tt) all (cut d)
  cut (g_quoted {x = x} {y} {cs} {rest} {o} h r d) = joined k.Quoted x y cs rest (marks_in o) (λ text. tt) (past (run_ends r)) (cut d)
  cut (g_quoted_open h r) = λ h. tt
  cut (g_empty {x = x} {y} {cs} {o} e f d) = joined k.TagEnd x y (y ∷ cs) cs (marks_in o) (λ text. tt) (past all) (cut d)
  cut (g_void {x = x} {cs} {o} e d) = joined k.TagEnd x x cs cs (marks_in o) (λ text. tt) all (cut d)
  cut (g_children {x = x} {cs} {o} e d) = joined k.TagEnd x x cs cs (marks_in o) (λ text. tt) all (cut d)
  cut (g_bad h) = λ h. tt
  cut h_end = λ h. tt
  cut (h_text {x = x} {cs} {rest} {o} h r d) = ran k.ChildText x cs rest (marks_in o) (λ text. tt) (past (run_ends r)) (cut d)
  cut (h_close {x = x} {y} {z} {cs} {rest} {o} e f r g d) = joined k.CloseTag x z (y ∷ cs) rest (marks_in o) (λ text. tt) (past (past (name_ends r))) (cut d)
  cut (h_close_bad e f r g) = λ h. tt
  cut (h_close_unnamed e f g) = λ h. tt
  cut (h_close_open e f r) = λ h. tt
  cut (h_close_end e f) = λ h. tt
  cut (h_bad e h) = λ h. tt

  -- the characters of a source
  starts : (at : ℕ) (xs : List ℕ) → drop at source ≡ encodes xs → at ≤ length source → place source (characters_from at xs) ≡ at
  starts at [] e h = let n = ap length e in omega (arith, length-drop at source)
  starts at (x ∷ xs) e h = refl

  pub bounded : (at : ℕ) (xs : List ℕ) → at ≤ length source → IsUtf8 (drop at source) → drop at source ≡ encodes xs → Bounded (characters_from at xs)
  bounded at [] h u e = tt
  bounded at (x ∷ xs) h u e =
      let n = length-encode x in let after = at + length (encode x) in
      let end : IsCharBoundary source after = subst (λ (n : ℕ). IsCharBoundary source (at + n)) (sym n) (IsCharBoundary-past_char source (encodes xs) at x h u e) in
      let rest : drop after source ≡ encodes xs = ap (λ (n : ℕ). drop (at + n) source) n ∙ drop_past_char source (encodes xs) at x e in (
        record {
          begins = IsCharBoundary-from_drop source at h u;
          ends = end;
          length = refl;
          spelled = e ∙ ap (λ (bs : List ℕ). encode x ++ bs) (sym rest);
          next = starts after xs rest end.0;
        },
        bounded after xs end.0 (subst IsUtf8 (sym rest) (IsUtf8-past_char (drop at source) (encodes xs) x u e)) rest,
      )
