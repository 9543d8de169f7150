-- Every source has its runs, texts and escapes, and they leave no more than there was.
use Rattle.std.proofs.Common.{◌≡◌, ℕ, zero, suc, ◌≤◌, Bool, true, false, ◌&&◌, not, [], ◌∷◌, length, Option, Some, None, refl, ap, arith}
use Rattle.std.specs.Prelude.{nat_eq, if◌then◌else◌}
use Rattle.mt_lexer.specs.declared.character.SourceChar.{SourceChar}
use Rattle.mt_lexer.specs.declared.character.Class.{Class}
use Rattle.mt_lexer.specs.declared.character.Class.TheVariants as c
use Rattle.mt_lexer.specs.declared.mode.Fault.TheVariants as fault
use Rattle.mt_lexer.specs.declared.character.Quote.{Quote}
use Rattle.mt_lexer.specs.declared.character.Quote.TheVariants as quote
use Rattle.mt_lexer.specs.Character.{Chars, class, first}
use Rattle.mt_lexer.specs.Sign.{closes, is_plain, ends_line}
use Rattle.mt_lexer.specs.Escape.{is_simple_escape, simple_escape, is_hex, hex_more, is_high, is_low, is_character, digits, code_point, in_braces, low_digits, second_unit, paired, pair_of, of_unit, unicode, escape}
use Rattle.mt_lexer.specs.Spelling.{Run, run_end, run_more, TextEnd, closed, broken, InText, text_closes, text_plain, text_escape, text_bad_escape, text_unclosed}
use Rattle.mt_lexer.proofs.Parts.{not_end}

-- a test that holds or doesn't
pub decide : (b : Bool) {P : Type 0} → (b ≡ true → P) → (b ≡ false → P) → P
decide true h g = h refl
decide false h g = g refl

pub both_true : (v w : Bool) → (v && w) ≡ true → (v ≡ true) × (w ≡ true)
both_true true true h = (refl, refl)
both_true true false h = absurd cc
both_true false w h = absurd cc

pub not_false : (v : Bool) → not v ≡ false → v ≡ true
not_false true h = refl
not_false false h = absurd cc

-- ---- what an escape leaves is no longer

abbrev pub Shorter : Option (ℕ × Chars) → ℕ → Type 0
Shorter None n = Unit {0}
Shorter (Some r) n = length r.1 ≤ n

pub pick : (t : Bool) (u v : Option (ℕ × Chars)) (n : ℕ) → Shorter u n → Shorter v n → Shorter (if t then u else v) n
pick true u v n h g = h
pick false u v n h g = g

pub longer : (u : Option (ℕ × Chars)) (n l : ℕ) → n ≤ l → Shorter u n → Shorter u l
longer None n l h g = tt
longer (Some r) n l h g = omega arith

pub digits_shorter : (n v : ℕ) (cs : Chars) → Shorter (digits n v cs) (length cs)
digits_shorter zero v cs = omega arith
digits_shorter (suc n) v [] = tt
digits_shorter (suc n) v (x ∷ cs) =
    let u = digits n (hex_more v x.value) cs in pick (is_hex x.value) u None (length (x ∷ cs)) (longer u (length cs) (length (x ∷ cs)) (omega arith) (digits_shorter n (hex_more v x.value) cs)) tt

pub scalar_shorter : (v : ℕ) (cs : Chars) (n : ℕ) → length cs ≤ n → Shorter (if is_character v then Some (v, cs) else None) n
scalar_shorter v cs n h = pick (is_character v) (Some (v, cs)) None n h tt

pub code_point_shorter : (n v : ℕ) (cs : Chars) → Shorter (code_point n v cs) (length cs)
code_point_shorter zero v [] = tt
code_point_shorter (suc n) v [] = tt
code_point_shorter zero v (x ∷ cs) = pick (nat_eq x.value 125) (if is_character v then Some (v, cs) else None) None (length (x ∷ cs)) (scalar_shorter v cs (length (x ∷ cs)) (omega arith)) tt
code_point_shorter (suc n) v (x ∷ cs) =
    let u = code_point n (hex_more v x.value) cs in let l = length (x ∷ cs) in
    pick (nat_eq x.value 125) (if is_character v then Some (v, cs) else None) (if is_hex x.value then u else None) l (scalar_shorter v cs l (omega arith))
    (pick (is_hex x.value) u None l (longer u (length cs) l (omega arith) (code_point_shorter n (hex_more v x.value) cs)) tt)

pub low_digits_shorter : (cs : Chars) → Shorter (low_digits cs) (length cs)
low_digits_shorter [] = tt
low_digits_shorter (x ∷ cs) = let u = digits 4 0 cs in pick (nat_eq x.value 117) u None (length (x ∷ cs)) (longer u (length cs) (length (x ∷ cs)) (omega arith) (digits_shorter 4 0 cs)) tt

pub second_shorter : (cs : Chars) → Shorter (second_unit cs) (length cs)
second_shorter [] = tt
second_shorter (x ∷ cs) = let u = low_digits cs in pick (nat_eq x.value 92) u None (length (x ∷ cs)) (longer u (length cs) (length (x ∷ cs)) (omega arith) (low_digits_shorter cs)) tt

pub paired_shorter : (high : ℕ) (u : Option (ℕ × Chars)) (n : ℕ) → Shorter u n → Shorter (paired high u) n
paired_shorter high None n h = tt
paired_shorter high (Some u) n h = pick (is_low u.0) (Some (pair_of high u.0, u.1)) None n h tt

pub unit_shorter : (u : Option (ℕ × Chars)) (n : ℕ) → Shorter u n → Shorter (of_unit u) n
unit_shorter None n h = tt
unit_shorter (Some u) n h =
    let v = paired u.0 (second_unit u.1) in
    pick (is_high u.0) v (if is_low u.0 then None else Some u) n (longer v (length u.1) n h (paired_shorter u.0 (second_unit u.1) (length u.1) (second_shorter u.1))) (pick (is_low u.0) None (Some u) n tt h)

pub braces_shorter : (cs : Chars) → Shorter (in_braces cs) (length cs)
braces_shorter [] = tt
braces_shorter (x ∷ cs) =
    let u = code_point 5 (hex_more 0 x.value) cs in pick (is_hex x.value) u None (length (x ∷ cs)) (longer u (length cs) (length (x ∷ cs)) (omega arith) (code_point_shorter 5 (hex_more 0 x.value) cs)) tt

pub unicode_shorter : (cs : Chars) → Shorter (unicode cs) (length cs)
unicode_shorter [] = tt
unicode_shorter (x ∷ cs) =
    let l = length (x ∷ cs) in let u = in_braces cs in let v = of_unit (digits 4 0 (x ∷ cs)) in
    pick (nat_eq x.value 123) u v l (longer u (length cs) l (omega arith) (braces_shorter cs)) (unit_shorter (digits 4 0 (x ∷ cs)) l (digits_shorter 4 0 (x ∷ cs)))

pub escape_shorter : (cs : Chars) → Shorter (escape cs) (length cs)
escape_shorter [] = tt
escape_shorter (x ∷ cs) =
    let l = length (x ∷ cs) in let u = unicode cs in let v : Option (ℕ × Chars) = Some (simple_escape x.value, cs) in
    pick (is_simple_escape x.value) v (if nat_eq x.value 117 then u else None) l (omega arith) (pick (nat_eq x.value 117) u None l (longer u (length cs) l (omega arith) (unicode_shorter cs)) tt)

-- ---- runs and texts

abbrev pub Runs : (Class → Class → Bool) → Chars → Type 0
Runs passes cs = (rest : Chars) × Run passes cs rest × (length rest ≤ length cs)

pub run_has : (passes : Class → Class → Bool) (cs : Chars) → passes c.End c.End ≡ false → Runs passes cs
run_has passes [] e = ([], run_end e, omega arith)
run_has passes (x ∷ cs) e = let r = run_has passes cs e in decide (passes (class x) (first cs)) (λ h. (r.0, run_more h r.1, omega (arith, r.2))) (λ h. (x ∷ cs, run_end h, omega arith))

abbrev pub Within : TextEnd → ℕ → Type 0
Within (closed end rest) n = length rest ≤ n
Within (broken f at) n = Unit {0}

pub within : (r : TextEnd) (n l : ℕ) → n ≤ l → Within r n → Within r l
within (closed end rest) n l h g = omega arith
within (broken f at) n l h g = tt

abbrev pub Texts : ℕ → Quote → Chars → Type 0
Texts s u cs = (r : TextEnd) × InText s u cs r × Within r (length cs)

-- neither the end nor an ordinary character
pub text_by : (y : Class) (s : ℕ) (u : Quote) (x : SourceChar) (cs : Chars) → class x ≡ y → closes u y ≡ false → is_plain u y ≡ false → ((rest : Chars) → length rest ≤ length cs → Texts s u rest) → Texts s u (x ∷ cs)
text_by c.Backslash s u x cs e f g later = by_escape (escape cs) refl (escape_shorter cs)
  where
    by_escape : (w : Option (ℕ × Chars)) → escape cs ≡ w → Shorter w (length cs) → Texts s u (x ∷ cs)
    by_escape None h l = (broken fault.BadEscape x.span.start, text_bad_escape e h, tt)
    by_escape (Some r) h l = let d = later r.1 l in (d.0, text_escape r.0 e h d.1, within d.0 (length r.1) (length (x ∷ cs)) (omega arith) d.2)
text_by c.LineFeed s u x cs e f g later = (broken fault.Unclosed s, text_unclosed (ap ends_line e), tt)
text_by c.CarriageReturn s u x cs e f g later = (broken fault.Unclosed s, text_unclosed (ap ends_line e), tt)
text_by c.End s u x cs e f g later = absurd (not_end x.value e)
text_by (c.Quote quote.Double) s quote.Double x cs e f g later = absurd cc
text_by (c.Quote quote.Double) s quote.Single x cs e f g later = absurd cc
text_by (c.Quote quote.Single) s quote.Double x cs e f g later = absurd cc
text_by (c.Quote quote.Single) s quote.Single x cs e f g later = absurd cc
text_by _ s quote.Double x cs e f g later = absurd cc
text_by _ s quote.Single x cs e f g later = absurd cc

pub text_has : (fuel s : ℕ) (u : Quote) (cs : Chars) → length cs ≤ fuel → Texts s u cs
text_has fuel s u [] l = (broken fault.Unclosed s, text_unclosed refl, tt)
text_has zero s u (x ∷ cs) l = absurd (omega arith)
text_has (suc fuel) s u (x ∷ cs) l =
    decide (closes u (class x)) (λ h. (closed x.span.end cs, text_closes h, omega arith))
    (λ f. decide (is_plain u (class x)) (λ h. let d = text_has fuel s u cs (omega arith) in (d.0, text_plain h d.1, within d.0 (length cs) (length (x ∷ cs)) (omega arith) d.2))
    (λ g. text_by (class x) s u x cs refl f g (λ rest h. text_has fuel s u rest (omega arith))))
