-- What the machine reads behind a backslash.
use Rattle.std.proofs.Common.{◌≡◌, ℕ, zero, suc, Bool, true, false, List, [], ◌∷◌, Option, Some, None, refl, ◌∙◌}
use Rattle.std.specs.Prelude.{nat_eq, if◌then◌else◌}
use Rattle.mt_lexer.specs.declared.character.SourceChar.{SourceChar}
use Rattle.mt_lexer.specs.declared.mode.Fault.TheVariants as fault
use Rattle.mt_lexer.specs.declared.mode.Mode.{Mode}
use Rattle.mt_lexer.specs.declared.mode.Before.{Before}
use Rattle.mt_lexer.specs.declared.part.OpenEscape.{OpenEscape}
use Rattle.mt_lexer.specs.declared.part.Part.TheVariants as p
use Rattle.mt_lexer.specs.Character.{Chars}
use Rattle.mt_lexer.specs.Escape.{is_simple_escape, simple_escape, is_hex, hex_more, is_high, is_low, is_character, digits, code_point, in_braces, low_digits, second_unit, paired, pair_of, of_unit, unicode, escape}
use Rattle.mt_lexer.specs.Spelling.{Outcome, refused}
use Rattle.mt_lexer.specs.Machine.{Next, go, stop, unit_done, unit_more, unit_by, low_more, follows, end_mark, lexed}

module _ (source : List ℕ) (e : OpenEscape) (ms : List Mode) (b : Before) where
  abbrev bad : Outcome
  bad = refused fault.BadEscape e.backslash

  abbrev pub after_escape : Option (ℕ × Chars) → Outcome
  after_escape None = refused fault.BadEscape e.backslash
  after_escape (Some r) = lexed source r.1 ms b (p.Text e.text)

  abbrev after_low : Option (ℕ × Chars) → Outcome
  after_low None = bad
  after_low (Some u) = if is_low u.0 then lexed source u.1 ms b (p.Text e.text) else bad

  abbrev after_unit : Option (ℕ × Chars) → Outcome
  after_unit None = bad
  after_unit (Some u) = follows (lexed source u.1) (unit_done source (end_mark source) e u.0 b ms)

  low_units : (n v : ℕ) (cs : Chars) → lexed source cs ms b (p.LowUnit e n v) ≡ after_low (digits (suc n) v cs)
  low_units n v [] = refl
  low_units n v (x ∷ cs) = by_hex (is_hex x.value) n (λ m. low_units m (hex_more v x.value) cs)
    where
      chosen : (t : Bool) → follows (lexed source cs) (if t then go ms b (p.Text e.text) else stop fault.BadEscape e.backslash) ≡ (if t then lexed source cs ms b (p.Text e.text) else bad)
      chosen true = refl
      chosen false = refl

      by_hex : (t : Bool) (n : ℕ) → ((m : ℕ) → lexed source cs ms b (p.LowUnit e m (hex_more v x.value)) ≡ after_low (digits (suc m) (hex_more v x.value) cs))
          → follows (lexed source cs) (if t then low_more source x e n (hex_more v x.value) b ms else stop fault.BadEscape e.backslash)
          ≡ after_low (if t then digits n (hex_more v x.value) cs else None)
      by_hex false n later = refl
      by_hex true zero later = chosen (is_low (hex_more v x.value))
      by_hex true (suc n) later = later n

  pairs : (high : ℕ) (u : Option (ℕ × Chars)) → after_low u ≡ after_escape (paired high u)
  pairs high None = refl
  pairs high (Some u) = chosen (is_low u.0)
    where
      chosen : (t : Bool) → (if t then lexed source u.1 ms b (p.Text e.text) else bad) ≡ after_escape (if t then Some (pair_of high u.0, u.1) else None)
      chosen true = refl
      chosen false = refl

  low_escapes : (high : ℕ) (cs : Chars) → lexed source cs ms b (p.LowEscape e) ≡ after_escape (paired high (low_digits cs))
  low_escapes high [] = refl
  low_escapes high (x ∷ cs) = chosen (nat_eq x.value 117)
    where
      chosen : (t : Bool) → follows (lexed source cs) (if t then go ms b (p.LowUnit e 3 0) else stop fault.BadEscape e.backslash) ≡ after_escape (paired high (if t then digits 4 0 cs else None))
      chosen true = low_units 3 0 cs ∙ pairs high (digits 4 0 cs)
      chosen false = refl

  highs : (high : ℕ) (cs : Chars) → lexed source cs ms b (p.HighSurrogate e) ≡ after_escape (paired high (second_unit cs))
  highs high [] = refl
  highs high (x ∷ cs) = chosen (nat_eq x.value 92)
    where
      chosen : (t : Bool) → follows (lexed source cs) (if t then go ms b (p.LowEscape e) else stop fault.BadEscape e.backslash) ≡ after_escape (paired high (if t then low_digits cs else None))
      chosen true = low_escapes high cs
      chosen false = refl

  units_done : (u : Option (ℕ × Chars)) → after_unit u ≡ after_escape (of_unit u)
  units_done None = refl
  units_done (Some u) = chosen (is_high u.0) (is_low u.0)
    where
      chosen : (t s : Bool) → follows (lexed source u.1) (if t then go ms b (p.HighSurrogate e) else if s then stop fault.BadEscape e.backslash else go ms b (p.Text e.text))
          ≡ after_escape (if t then paired u.0 (second_unit u.1) else if s then None else Some u)
      chosen true s = highs u.0 u.1
      chosen false true = refl
      chosen false false = refl

  units : (n v : ℕ) (cs : Chars) → lexed source cs ms b (p.Unit e n v) ≡ after_unit (digits (suc n) v cs)
  units n v [] = refl
  units n v (x ∷ cs) = by_hex (is_hex x.value) n (λ m. units m (hex_more v x.value) cs)
    where
      by_hex : (t : Bool) (n : ℕ) → ((m : ℕ) → lexed source cs ms b (p.Unit e m (hex_more v x.value)) ≡ after_unit (digits (suc m) (hex_more v x.value) cs))
          → follows (lexed source cs) (if t then unit_more source x e n (hex_more v x.value) b ms else stop fault.BadEscape e.backslash)
          ≡ after_unit (if t then digits n (hex_more v x.value) cs else None)
      by_hex false n later = refl
      by_hex true zero later = refl
      by_hex true (suc n) later = later n

  abbrev machine_more : SourceChar → Chars → ℕ → ℕ → Bool → Next
  machine_more x cs v zero h = stop fault.BadEscape e.backslash
  machine_more x cs v (suc n) h = if h then go ms b (p.CodePoint e n (hex_more v x.value)) else stop fault.BadEscape e.backslash

  abbrev defined_more : SourceChar → Chars → ℕ → ℕ → Bool → Option (ℕ × Chars)
  defined_more x cs v zero h = None
  defined_more x cs v (suc n) h = if h then code_point n (hex_more v x.value) cs else None

  scalar_done : (v : ℕ) (cs : Chars) (t : Bool) → follows (lexed source cs) (if t then go ms b (p.Text e.text) else stop fault.BadEscape e.backslash) ≡ after_escape (if t then Some (v, cs) else None)
  scalar_done v cs true = refl
  scalar_done v cs false = refl

  by_brace : (x : SourceChar) (cs : Chars) (v n : ℕ) (t h : Bool) → ((m : ℕ) → lexed source cs ms b (p.CodePoint e m (hex_more v x.value)) ≡ after_escape (code_point m (hex_more v x.value) cs))
      → follows (lexed source cs) (if t then (if is_character v then go ms b (p.Text e.text) else stop fault.BadEscape e.backslash) else machine_more x cs v n h)
      ≡ after_escape (if t then (if is_character v then Some (v, cs) else None) else defined_more x cs v n h)
  by_brace x cs v n true h later = scalar_done v cs (is_character v)
  by_brace x cs v zero false h later = refl
  by_brace x cs v (suc n) false true later = later n
  by_brace x cs v (suc n) false false later = refl

  code_points : (n v : ℕ) (cs : Chars) → lexed source cs ms b (p.CodePoint e n v) ≡ after_escape (code_point n v cs)
  code_points zero v [] = refl
  code_points (suc n) v [] = refl
  code_points zero v (x ∷ cs) = by_brace x cs v zero (nat_eq x.value 125) (is_hex x.value) (λ m. code_points m (hex_more v x.value) cs)
  code_points (suc n) v (x ∷ cs) = by_brace x cs v (suc n) (nat_eq x.value 125) (is_hex x.value) (λ m. code_points m (hex_more v x.value) cs)

  braces : (cs : Chars) → lexed source cs ms b (p.CodePointStart e) ≡ after_escape (in_braces cs)
  braces [] = refl
  braces (x ∷ cs) = chosen (is_hex x.value)
    where
      chosen : (t : Bool) → follows (lexed source cs) (if t then go ms b (p.CodePoint e 5 (hex_more 0 x.value)) else stop fault.BadEscape e.backslash)
          ≡ after_escape (if t then code_point 5 (hex_more 0 x.value) cs else None)
      chosen true = code_points 5 (hex_more 0 x.value) cs
      chosen false = refl

  unicodes : (cs : Chars) → lexed source cs ms b (p.Unicode e) ≡ after_escape (unicode cs)
  unicodes [] = refl
  unicodes (x ∷ cs) = chosen (nat_eq x.value 123) (units 3 0 (x ∷ cs) ∙ units_done (digits 4 0 (x ∷ cs)))
    where
      chosen : (t : Bool) → lexed source (x ∷ cs) ms b (p.Unit e 3 0) ≡ after_escape (of_unit (digits 4 0 (x ∷ cs)))
          → follows (lexed source cs) (if t then go ms b (p.CodePointStart e) else unit_by source x e 3 0 b ms) ≡ after_escape (if t then in_braces cs else of_unit (digits 4 0 (x ∷ cs)))
      chosen true h = braces cs
      chosen false h = h

  pub escapes : (cs : Chars) → lexed source cs ms b (p.Escape e) ≡ after_escape (escape cs)
  escapes [] = refl
  escapes (x ∷ cs) = chosen (is_simple_escape x.value) (nat_eq x.value 117)
    where
      chosen : (t s : Bool) → follows (lexed source cs) (if t then go ms b (p.Text e.text) else if s then go ms b (p.Unicode e) else stop fault.BadEscape e.backslash)
          ≡ after_escape (if t then Some (simple_escape x.value, cs) else if s then unicode cs else None)
      chosen true s = refl
      chosen false true = unicodes cs
      chosen false false = refl
