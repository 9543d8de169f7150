-- What is read off a text is no longer than what spells it.
use Rattle.std.proofs.Common.{◌≡◌, ℕ, ◌+◌, ◌≤◌, Bool, true, false, eqb, List, [], ◌∷◌, length, Option, Some, None, refl, ap, length-append, arith}
use Rattle.std.specs.Prelude.{unwrap_or, if◌then◌else◌}
use Rattle.std.specs.Char.{len_utf8}
use Rattle.std.proofs.lemmas.Bool.{eqb-true}
use Rattle.std.proofs.lemmas.Bool.Decides.{nat_tests}
use Rattle.std.proofs.lemmas.Str.{length-encode, len_utf8_bounds}
use lib.Utf8.{encode, encodes}
use Rattle.mt_tree.specs.Text.{units_in}
use Rattle.mt_parser_marks.specs.declared.spelling.Spelling.{Spelling}
use Rattle.mt_parser_marks.specs.declared.spelling.Spelling.TheVariants as spelling
use Rattle.mt_parser_marks.specs.Values.{references, named, next_in_text, next_in_value}
use Rattle.mt_parser_marks.specs.Reading.{next_by}
use Rattle.mt_parser_marks.proofs.Suffixes.{Ends, all, past, Follows, escape_at, escape_follows, named_follows}
use Rattle.mt_parser_marks.proofs.Spelled.{Shrinks, Weighs}

shorter : {xs rest : List ℕ} → Ends xs rest → length rest ≤ length xs
shorter all = omega arith
shorter (past d) = omega (arith, shorter d)

lighter : {cs rest : List ℕ} → Ends cs rest → length (encodes rest) ≤ length (encodes cs)
lighter all = omega arith
lighter (past {x} {xs} d) = omega (arith, lighter d, length-append (encode x) (encodes xs))

pub units_in-le : (c : ℕ) → units_in c ≤ len_utf8 c
units_in-le c = grind (arith, nat_tests)

units_in-two : (c : ℕ) → units_in c ≤ 2
units_in-two c = grind (arith, nat_tests)

-- what the sign k and what is behind it spell, and any other character is itself
abbrev sign_next : ℕ → (List ℕ → Option (ℕ × List ℕ)) → ℕ → List ℕ → ℕ × List ℕ
sign_next k o c cs = if eqb c k then unwrap_or (o cs) (k, cs) else (c, cs)

shrink : (t : Bool) (c k : ℕ) (o : Option (ℕ × List ℕ)) (cs : List ℕ) → Follows o cs → length (if t then unwrap_or o (k, cs) else (c, cs)).1 ≤ length cs
shrink false c k o cs h = omega arith
shrink true c k None cs h = omega arith
shrink true c k (Some r) [] h = absurd h
shrink true c k (Some r) (x ∷ cs) h = omega (arith, shorter h)

weigh : (t : Bool) (c k : ℕ) (o : Option (ℕ × List ℕ)) (cs : List ℕ) → Follows o cs → (t ≡ true → c ≡ k)
    → units_in (if t then unwrap_or o (k, cs) else (c, cs)).0 + length (encodes (if t then unwrap_or o (k, cs) else (c, cs)).1) ≤ length (encode c) + length (encodes cs)
weigh false c k o cs h e = omega (arith, units_in-le c, length-encode c)
weigh true c k None cs h e = let f = ap encode (e refl) in let g = ap length f in omega (arith, units_in-le k, length-encode k)
weigh true c k (Some r) [] h e = absurd h
weigh true c k (Some r) (x ∷ cs) h e =
    omega (arith, units_in-two r.0, lighter h, length-encode c, len_utf8_bounds c, length-encode x, len_utf8_bounds x, length-append (encode x) (encodes cs))

sign-shrinks : (k : ℕ) (o : List ℕ → Option (ℕ × List ℕ)) → ((cs : List ℕ) → Follows (o cs) cs) → Shrinks (sign_next k o)
sign-shrinks k o h c cs = shrink (eqb c k) c k (o cs) cs (h cs)

sign-weighs : (k : ℕ) (o : List ℕ → Option (ℕ × List ℕ)) → ((cs : List ℕ) → Follows (o cs) cs) → Weighs (sign_next k o)
sign-weighs k o h c cs = weigh (eqb c k) c k (o cs) cs (h cs) (eqb-true c k)

pub next-shrinks : (s : Spelling) → Shrinks (next_by s)
next-shrinks spelling.Escapes = sign-shrinks 92 escape_at escape_follows
next-shrinks spelling.References = sign-shrinks 38 (named references) (λ cs. named_follows references cs tt)

pub text-weighs : Weighs next_in_text
text-weighs = sign-weighs 92 escape_at escape_follows

pub value-weighs : Weighs next_in_value
value-weighs = sign-weighs 38 (named references) (λ cs. named_follows references cs tt)
