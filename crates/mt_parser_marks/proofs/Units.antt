-- A value has no more units of UTF-16 than its text has bytes.
use Rattle.std.proofs.Common.{◌≡◌, ℕ, zero, suc, ◌-◌, ◌≤◌, Bool, true, false, List, [], ◌∷◌, length, take, drop, Result, Ok, Err, IfOk, refl, sym, ap, subst, length-append, arith}
use Rattle.std.specs.Prelude.{if◌then◌else◌}
use Rattle.std.specs.Str.{chars, is_utf8}
use Rattle.std.proofs.lemmas.Str.{encodes-chars, length-encode, IsUtf8-from_is_utf8}
use lib.Utf8.{encode, encodes}
use Rattle.mt_tree.specs.declared.fault.NoMemory.{NoMemory}
use Rattle.mt_tree.specs.Text.{units_of}
use Rattle.mt_parser_marks.specs.Values.{decoded, inside, next_in_text, next_in_value, text_of, quoted_of, child_text_of}
use Rattle.mt_parser_marks.proofs.Spelled.{units-spelled}
use Rattle.mt_parser_marks.proofs.Lengths.{units_in-le, text-weighs, value-weighs}

drop_bytes : (n : ℕ) (cs : List ℕ) → length (encodes (drop n cs)) ≤ length (encodes cs)
drop_bytes zero cs = omega arith
drop_bytes (suc n) [] = omega arith
drop_bytes (suc n) (c ∷ cs) = omega (arith, drop_bytes n cs, length-append (encode c) (encodes cs))

take_bytes : (n : ℕ) (cs : List ℕ) → length (encodes (take n cs)) ≤ length (encodes cs)
take_bytes zero cs = omega arith
take_bytes (suc n) [] = omega arith
take_bytes (suc n) (c ∷ cs) = omega (arith, take_bytes n cs, length-append (encode c) (encodes cs), length-append (encode c) (encodes (take n cs)))

inside_bytes : (cs : List ℕ) → length (encodes (inside cs)) ≤ length (encodes cs)
inside_bytes cs = omega (arith, take_bytes (length (drop 1 cs) - 1) (drop 1 cs), drop_bytes 1 cs)

decoded_bytes : (text : List ℕ) → length (encodes (decoded text)) ≤ length text
unfolding decoded
decoded_bytes text = chosen (is_utf8 text) refl
  where
    chosen : (t : Bool) → is_utf8 text ≡ t → length (encodes (if t then chars text else [])) ≤ length text
    chosen true e = let k = ap length (encodes-chars text (IsUtf8-from_is_utf8 text e)) in omega arith
    chosen false e = omega arith

units_of-le : (cs : List ℕ) → units_of cs ≤ length (encodes cs)
units_of-le [] = omega arith
units_of-le (c ∷ cs) = omega (arith, units_of-le cs, units_in-le c, length-encode c, length-append (encode c) (encodes cs))

pub name-units : (text : List ℕ) → units_of (decoded text) ≤ length text
name-units text = omega (arith, units_of-le (decoded text), decoded_bytes text)

pub text-units : (text : List ℕ) → units_of (text_of text) ≤ length text
unfolding text_of
text-units text = omega (arith, units-spelled next_in_text text-weighs (inside (decoded text)), inside_bytes (decoded text), decoded_bytes text)

pub quoted-units : (text : List ℕ) → units_of (quoted_of text) ≤ length text
unfolding quoted_of
quoted-units text = omega (arith, units-spelled next_in_value value-weighs (inside (decoded text)), inside_bytes (decoded text), decoded_bytes text)

pub child_text-units : (text : List ℕ) → units_of (child_text_of text) ≤ length text
unfolding child_text_of
child_text-units text = omega (arith, units-spelled next_in_value value-weighs (decoded text), decoded_bytes text)

pub short : (r : Result (List ℕ) NoMemory) (v : List ℕ) (n : ℕ) → units_of v ≤ n → IfOk r (λ made. made ≡ v) → IfOk r (λ made. units_of made ≤ n)
short (Ok made) v n h e = subst (λ (cs : List ℕ). units_of cs ≤ n) (sym e) h
short (Err refused) v n h e = tt
