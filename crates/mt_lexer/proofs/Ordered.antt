-- The tokens of a source stand in order.
use Rattle.std.proofs.Common.{◌≡◌, ℕ, zero, suc, ◌+◌, ◌≤◌, Bool, true, false, List, [], ◌∷◌, length, Option, Some, None, refl, subst, length-append, arith}
use Rattle.std.specs.Prelude.{nat_eq, if◌then◌else◌}
use Rattle.std.specs.Char.{encode_utf8}
use Rattle.std.specs.Str.{encode_utf8_all}
use Rattle.mt_lexer.specs.declared.character.SourceChar.{SourceChar}
use Rattle.mt_lexer.specs.declared.character.Class.{Class}
use Rattle.mt_lexer.specs.declared.character.Quote.{Quote}
use Rattle.mt_lexer.specs.declared.mode.Mode.{Mode}
use Rattle.mt_lexer.specs.declared.mode.Before.{Before}
use Rattle.mt_lexer.specs.Character.{Chars, characters_from, place}
use Rattle.mt_lexer.specs.Escape.{is_simple_escape, simple_escape, is_hex, hex_more, is_high, is_low, is_character, digits, code_point, in_braces, low_digits, second_unit, paired, pair_of, of_unit, unicode, escape}
use Rattle.mt_lexer.specs.Order.{InOrder}
use Rattle.mt_lexer.specs.Spelling.{Outcome, Run, run_end, run_more, TextEnd, closed, broken, InText, text_closes, text_plain, text_escape, text_bad_escape, text_unclosed, Digits, zero_alone, more_digits, CloseName, close_name, Lexes, l_done, l_open, l_space, l_line_comment, l_block_comment, l_block_open, l_word, l_number, l_number_spoiled, l_number_large, l_text, l_text_refused, l_brace, l_close, l_close_first, l_single, l_three, l_two, l_one, l_stray, l_bad, l_opener, l_tag_open, g_end, g_space, g_name, g_equals, g_quoted, g_quoted_open, g_empty, g_void, g_children, g_bad, h_end, h_text, h_close, h_close_bad, h_close_unnamed, h_close_open, h_close_end, h_bad}
use Rattle.mt_lexer.specs.Tokens.{Mark}
use Rattle.mt_lexer.specs.Verdict.{marks_in}

module _ (source : List ℕ) where
  -- each character ends where the next one begins, or before it
  abbrev pub Chained : Chars → Type 0
  Chained [] = Unit {0}
  Chained (x ∷ cs) = (x.span.start ≤ x.span.end) × (x.span.end ≤ place source cs) × Chained cs

  -- the rest stands behind the characters
  abbrev Behind : Chars → Chars → Type 0
  Behind cs rest = Chained cs → (place source cs ≤ place source rest) × Chained rest

  same : (cs : Chars) → Behind cs cs
  same cs h = (omega arith, h)

  past : (x : SourceChar) (cs rest : Chars) → Behind cs rest → Behind (x ∷ cs) rest
  past x cs rest g h = let r = g h.2 in (omega (arith, h.0, h.1, r.0), r.1)

  onward : (cs mid rest : Chars) → Behind cs mid → Behind mid rest → Behind cs rest
  onward cs mid rest f g h = let a = f h in let b = g a.1 in (omega (arith, a.0, b.0), b.1)

  run_behind : {passes : Class → Class → Bool} {cs rest : Chars} → Run passes cs rest → Behind cs rest
  run_behind (run_end {cs} h) = same cs
  run_behind (run_more {x} {cs} {rest} h d) = past x cs rest (run_behind d)

  -- ---- escapes

  abbrev Left : Option (ℕ × Chars) → Chars → Type 0
  Left None cs = Unit {0}
  Left (Some r) cs = Behind cs r.1

  pick : (t : Bool) (u v : Option (ℕ × Chars)) (cs : Chars) → Left u cs → Left v cs → Left (if t then u else v) cs
  pick true u v cs h g = h
  pick false u v cs h g = g

  before : (x : SourceChar) (cs : Chars) (u : Option (ℕ × Chars)) → Left u cs → Left u (x ∷ cs)
  before x cs None h = tt
  before x cs (Some r) h = past x cs r.1 h

  digits_left : (n v : ℕ) (cs : Chars) → Left (digits n v cs) cs
  digits_left zero v cs = same cs
  digits_left (suc n) v [] = tt
  digits_left (suc n) v (x ∷ cs) = let u = digits n (hex_more v x.value) cs in pick (is_hex x.value) u None (x ∷ cs) (before x cs u (digits_left n (hex_more v x.value) cs)) tt

  scalar_left : (v : ℕ) (x : SourceChar) (cs : Chars) → Left (if is_character v then Some (v, cs) else None) (x ∷ cs)
  scalar_left v x cs = pick (is_character v) (Some (v, cs)) None (x ∷ cs) (past x cs cs (same cs)) tt

  code_point_left : (n v : ℕ) (cs : Chars) → Left (code_point n v cs) cs
  code_point_left zero v [] = tt
  code_point_left (suc n) v [] = tt
  code_point_left zero v (x ∷ cs) = pick (nat_eq x.value 125) (if is_character v then Some (v, cs) else None) None (x ∷ cs) (scalar_left v x cs) tt
  code_point_left (suc n) v (x ∷ cs) =
      let u = code_point n (hex_more v x.value) cs in
      pick (nat_eq x.value 125) (if is_character v then Some (v, cs) else None) (if is_hex x.value then u else None) (x ∷ cs) (scalar_left v x cs)
      (pick (is_hex x.value) u None (x ∷ cs) (before x cs u (code_point_left n (hex_more v x.value) cs)) tt)

  low_digits_left : (cs : Chars) → Left (low_digits cs) cs
  low_digits_left [] = tt
  low_digits_left (x ∷ cs) = let u = digits 4 0 cs in pick (nat_eq x.value 117) u None (x ∷ cs) (before x cs u (digits_left 4 0 cs)) tt

  second_left : (cs : Chars) → Left (second_unit cs) cs
  second_left [] = tt
  second_left (x ∷ cs) = let u = low_digits cs in pick (nat_eq x.value 92) u None (x ∷ cs) (before x cs u (low_digits_left cs)) tt

  paired_left : (high : ℕ) (u : Option (ℕ × Chars)) (cs : Chars) → Left u cs → Left (paired high u) cs
  paired_left high None cs h = tt
  paired_left high (Some u) cs h = pick (is_low u.0) (Some (pair_of high u.0, u.1)) None cs h tt

  behind_left : (cs mid : Chars) (u : Option (ℕ × Chars)) → Behind cs mid → Left u mid → Left u cs
  behind_left cs mid None h g = tt
  behind_left cs mid (Some r) h g = onward cs mid r.1 h g

  unit_left : (u : Option (ℕ × Chars)) (cs : Chars) → Left u cs → Left (of_unit u) cs
  unit_left None cs h = tt
  unit_left (Some u) cs h =
      let v = paired u.0 (second_unit u.1) in
      pick (is_high u.0) v (if is_low u.0 then None else Some u) cs (behind_left cs u.1 v h (paired_left u.0 (second_unit u.1) u.1 (second_left u.1))) (pick (is_low u.0) None (Some u) cs tt h)

  braces_left : (cs : Chars) → Left (in_braces cs) cs
  braces_left [] = tt
  braces_left (x ∷ cs) = let u = code_point 5 (hex_more 0 x.value) cs in pick (is_hex x.value) u None (x ∷ cs) (before x cs u (code_point_left 5 (hex_more 0 x.value) cs)) tt

  unicode_left : (cs : Chars) → Left (unicode cs) cs
  unicode_left [] = tt
  unicode_left (x ∷ cs) =
      let u = in_braces cs in let v = of_unit (digits 4 0 (x ∷ cs)) in
      pick (nat_eq x.value 123) u v (x ∷ cs) (before x cs u (braces_left cs)) (unit_left (digits 4 0 (x ∷ cs)) (x ∷ cs) (digits_left 4 0 (x ∷ cs)))

  escape_left : (cs : Chars) → Left (escape cs) cs
  escape_left [] = tt
  escape_left (x ∷ cs) =
      let u = unicode cs in let v : Option (ℕ × Chars) = Some (simple_escape x.value, cs) in
      pick (is_simple_escape x.value) v (if nat_eq x.value 117 then u else None) (x ∷ cs) (past x cs cs (same cs)) (pick (nat_eq x.value 117) u None (x ∷ cs) (before x cs u (unicode_left cs)) tt)

  -- ---- texts, numbers and close tags

  abbrev EndsBehind : TextEnd → Chars → Type 0
  EndsBehind (closed end rest) cs = Chained cs → (place source cs ≤ end) × (end ≤ place source rest) × Chained rest
  EndsBehind (broken f at) cs = Unit {0}

  end_past : (r : TextEnd) (cs mid : Chars) → Behind cs mid → EndsBehind r mid → EndsBehind r cs
  end_past (closed end rest) cs mid f g = λ h. let a = f h in let b = g a.1 in (omega (arith, a.0, b.0), b.1, b.2)
  end_past (broken q at) cs mid f g = tt

  text_behind : {s : ℕ} {u : Quote} {cs : Chars} {r : TextEnd} → InText s u cs r → EndsBehind r cs
  text_behind (text_closes {x} {cs} h) = λ h. h
  text_behind (text_plain {x} {cs} {r} h d) = end_past r (x ∷ cs) cs (past x cs cs (same cs)) (text_behind d)
  text_behind (text_escape {x} {cs} {rest} {r} v q h d) =
      end_past r (x ∷ cs) rest (past x cs rest (subst (λ (w : Option (ℕ × Chars)). Left w cs) h (escape_left cs))) (text_behind d)
  text_behind (text_bad_escape q h) = tt
  text_behind (text_unclosed h) = tt

  digits_behind : {y : Class} {cs rest : Chars} → Digits y cs rest → Behind cs rest
  digits_behind (zero_alone {cs}) = same cs
  digits_behind (more_digits r) = run_behind r

  close_behind : {cs rest : Chars} → CloseName cs rest → Behind cs rest
  close_behind (close_name {x} {cs} {mid} {rest} e r w) = past x cs rest (onward cs mid rest (run_behind r) (run_behind w))

  -- ---- outcomes

  abbrev OnwardFrom : List Mark → Chars → Type 0
  OnwardFrom ts cs = Chained cs → InOrder (place source cs) ts (length source)

  place_le : (cs : Chars) → OnwardFrom [] cs
  place_le [] h = omega arith
  place_le (x ∷ cs) h = let a = place_le cs h.2 in omega (arith, a, h.0, h.1)

  lower : (low at top : ℕ) (ts : List Mark) → low ≤ at → InOrder at ts top → InOrder low ts top
  lower low at top [] l h = omega arith
  lower low at top (t ∷ ts) l h = (omega (arith, h.0), h.1, h.2)

  -- nothing is emitted
  skipped : (cs rest : Chars) (ts : List Mark) → Behind cs rest → OnwardFrom ts rest → OnwardFrom ts cs
  skipped cs rest ts f g h = let a = f h in lower (place source cs) (place source rest) (length source) ts a.0 (g a.1)

  -- a token up to the rest
  ran : (x : SourceChar) (cs rest : Chars) (ts : List Mark) → Behind (x ∷ cs) rest → OnwardFrom ts rest → Chained (x ∷ cs)
      → (x.span.start ≤ x.span.start) × (x.span.start ≤ place source rest) × InOrder (place source rest) ts (length source)
  ran x cs rest ts f g h = let a = f h in (omega arith, a.0, g a.1)

  -- a token up to the end of a character
  joined : (x z : SourceChar) (cs rest : Chars) (ts : List Mark) → Behind (x ∷ cs) (z ∷ rest) → OnwardFrom ts rest → Chained (x ∷ cs)
      → (x.span.start ≤ x.span.start) × (x.span.start ≤ z.span.end) × InOrder z.span.end ts (length source)
  joined x z cs rest ts f g h = let a = f h in (omega arith, omega (arith, a.0, a.1.0), lower z.span.end (place source rest) (length source) ts a.1.1 (g a.1.2))

  next : (x : SourceChar) (cs : Chars) → Behind (x ∷ cs) cs
  next x cs = past x cs cs (same cs)

  pub ordered : {ms : List Mode} {b : Before} {cs : Chars} {o : Outcome} → Lexes source ms b cs o → OnwardFrom (marks_in o) cs
  ordered l_done = place_le []
  ordered l_open = place_le []
  ordered (l_space {x = x} {cs} {o} h d) = skipped (x ∷ cs) cs (marks_in o) (next x cs) (ordered d)
  ordered (l_line_comment {x = x} {y} {cs} {rest} {o} e f r d) = skipped (x ∷ y ∷ cs) rest (marks_in o) (past x (y ∷ cs) rest (past y cs rest (run_behind r))) (ordered d)
  ordered (l_block_comment {x = x} {y} {v} {w} {cs} {rest} {o} e f r g h d) =
      skipped (x ∷ y ∷ cs) rest (marks_in o) (past x (y ∷ cs) rest (past y cs rest (onward cs (v ∷ w ∷ rest) rest (run_behind r) (past v (w ∷ rest) rest (next w rest))))) (ordered d)
  ordered (l_block_open {x = x} {y} {cs} e f r) = place_le (x ∷ y ∷ cs)
  ordered (l_word {x = x} {cs} {rest} {o} h r d) = ran x cs rest (marks_in o) (past x cs rest (run_behind r)) (ordered d)
  ordered (l_number {x = x} {cs} {rest} {o} r h l d) = ran x cs rest (marks_in o) (past x cs rest (digits_behind r)) (ordered d)
  ordered (l_number_spoiled {x = x} {cs} r h) = place_le (x ∷ cs)
  ordered (l_number_large {x = x} {cs} r h l) = place_le (x ∷ cs)
  ordered (l_text {x = x} {cs} {rest} {o} {u} {end} h r d) = λ g. let a = text_behind r g.2 in
      (omega arith, omega (arith, g.0, g.1, a.0), lower end (place source rest) (length source) (marks_in o) a.1 (ordered d a.2))
  ordered (l_text_refused {x = x} {cs} h r) = place_le (x ∷ cs)
  ordered (l_brace {x = x} {cs} {o} e d) = joined x x cs cs (marks_in o) (same (x ∷ cs)) (ordered d)
  ordered (l_close {x = x} {cs} {o} e d) = joined x x cs cs (marks_in o) (same (x ∷ cs)) (ordered d)
  ordered (l_close_first {x = x} {cs} {o} e d) = joined x x cs cs (marks_in o) (same (x ∷ cs)) (ordered d)
  ordered (l_single {x = x} {cs} {o} h d) = joined x x cs cs (marks_in o) (same (x ∷ cs)) (ordered d)
  ordered (l_three {x = x} {y} {z} {cs} {o} h e d) = joined x z (y ∷ z ∷ cs) cs (marks_in o) (past x (y ∷ z ∷ cs) (z ∷ cs) (next y (z ∷ cs))) (ordered d)
  ordered (l_two {x = x} {y} {cs} {o} h e d) = joined x y (y ∷ cs) cs (marks_in o) (next x (y ∷ cs)) (ordered d)
  ordered (l_one {x = x} {cs} {o} h e d) = joined x x cs cs (marks_in o) (same (x ∷ cs)) (ordered d)
  ordered (l_stray {x = x} {cs} h e) = place_le (x ∷ cs)
  ordered (l_bad {x = x} {cs} h) = place_le (x ∷ cs)
  ordered (l_opener {x = x} {y} {cs} {o} h e d) = joined x y (y ∷ cs) cs (marks_in o) (next x (y ∷ cs)) (ordered d)
  ordered (l_tag_open {x = x} {y} {cs} {rest} {o} e f h r d) = ran x (y ∷ cs) rest (marks_in o) (past x (y ∷ cs) rest (past y cs rest (run_behind r))) (ordered d)
  ordered g_end = place_le []
  ordered (g_space {x = x} {cs} {o} h d) = skipped (x ∷ cs) cs (marks_in o) (next x cs) (ordered d)
  ordered (g_name {x = x} {cs} {rest} {o} e r d) = ran x cs rest (marks_in o) (past x cs rest (run_behind r)) (ordered d)
  ordered (g_equals {x = x} {cs} {o} e d) = joined x x cs cs (marks_in o) (same (x ∷ cs)) (ordered d)
  ordered (g_quoted {x = x} {y} {cs} {rest} {o} h r d) = joined x y cs rest (marks_in o) (past x cs (y ∷ rest) (run_behind r)) (ordered d)
  ordered (g_quoted_open {x = x} {cs} h r) = place_le (x ∷ cs)
  ordered (g_empty {x = x} {y} {cs} {o} e f d) = joined x y (y ∷ cs) cs (marks_in o) (next x (y ∷ cs)) (ordered d)
  ordered (g_void {x = x} {cs} {o} e d) = joined x x cs cs (marks_in o) (same (x ∷ cs)) (ordered d)
  ordered (g_children {x = x} {cs} {o} e d) = joined x x cs cs (marks_in o) (same (x ∷ cs)) (ordered d)
  ordered (g_bad {x = x} {cs} h) = place_le (x ∷ cs)
  ordered h_end = place_le []
  ordered (h_text {x = x} {cs} {rest} {o} h r d) = ran x cs rest (marks_in o) (past x cs rest (run_behind r)) (ordered d)
  ordered (h_close {x = x} {y} {z} {cs} {rest} {o} e f r g d) =
      joined x z (y ∷ cs) rest (marks_in o) (past x (y ∷ cs) (z ∷ rest) (past y cs (z ∷ rest) (close_behind r))) (ordered d)
  ordered (h_close_bad {x = x} {y} {z} {cs} e f r g) = place_le (x ∷ y ∷ cs)
  ordered (h_close_unnamed {x = x} {y} {z} {cs} e f g) = place_le (x ∷ y ∷ z ∷ cs)
  ordered (h_close_open {x = x} {y} {cs} e f r) = place_le (x ∷ y ∷ cs)
  ordered (h_close_end {x = x} {y} e f) = place_le (x ∷ y ∷ [])
  ordered (h_bad {x = x} {cs} e h) = place_le (x ∷ cs)

  -- the characters of a source are chained
  pub chained : (at : ℕ) (xs : List ℕ) → at + length (encode_utf8_all xs) ≡ length source → (Chained (characters_from at xs)) × (place source (characters_from at xs) ≡ at)
  chained at [] h = (tt, omega arith)
  chained at (x ∷ xs) h =
      let n = length (encode_utf8 x) in let k = length-append (encode_utf8 x) (encode_utf8_all xs) in
      let r = chained (at + n) xs (omega (arith, h, k)) in ((omega arith, omega (arith, r.1), r.0), refl)
