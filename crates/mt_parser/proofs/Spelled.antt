-- What the texts of tokens spell: characters alone, whole numbers below 2 to the 53rd, and no opening of a dollar or a tilde that the text itself doesn't have.
use Rattle.std.proofs.Common.{◌≡◌, ℕ, zero, suc, ◌-◌, ◌^◌, Bool, true, false, eqb, List, [], ◌∷◌, length, take, drop, Option, None, Some, refl, subst, arith}
use Rattle.std.specs.Prelude.{nat_eq, if◌then◌else◌, min, option_map, unwrap_or}
use Rattle.std.specs.Option.{option_or}
use Rattle.std.specs.Str.{all_scalars, chars, is_utf8}
use Rattle.std.specs.Char.{IsScalar}
use Rattle.std.proofs.lemmas.Bool.{and_from, and_parts, eqb-true, lt-ltb}
use Rattle.std.proofs.lemmas.Bool.Decides.{nat_tests}
use Rattle.std.proofs.lemmas.Str.{scalars-chars, IsUtf8-from_is_utf8}
use Rattle.mt_lexer.specs.Character.{Chars}
use Rattle.mt_lexer.specs.Escape.{escape, is_simple_escape, simple_escape, unicode}
use Rattle.mt_lexer.specs.Word as word
use Rattle.mt_parser_marks.specs.Values.{behind, child_text_of, decoded, inside, named, next_in_text, next_in_value, number_of, quoted_of, references, spelled_within, text_of, unplaced, values}
use Rattle.mt_parser_marks.proofs.Scalars.{Spells, unicode-spells}
use Rattle.mt_parser_marks.proofs.Suffixes.{Ends, all, past, Follows, Further, escape_at, escape_follows, named_follows}
use Rattle.mt_syntax.specs.Shape.{is_number}
use Rattle.mt_tree.specs.Limits.{number_limit}

-- ---- characters

pub decoded_scalars : (text : List ℕ) → all_scalars (decoded text) ≡ true
unfolding decoded
decoded_scalars text = chosen (is_utf8 text) refl
  where
    chosen : (t : Bool) → is_utf8 text ≡ t → all_scalars (if t then chars text else []) ≡ true
    chosen true e = scalars-chars text (IsUtf8-from_is_utf8 text e)
    chosen false e = refl

-- a text of characters has no other ones in its parts
ends_scalars : {cs rest : List ℕ} → Ends cs rest → all_scalars cs ≡ true → all_scalars rest ≡ true
ends_scalars all h = h
ends_scalars (past {x} {xs} d) h = ends_scalars d (and_parts _ (all_scalars xs) h).1

drop_scalars : (n : ℕ) (cs : List ℕ) → all_scalars cs ≡ true → all_scalars (drop n cs) ≡ true
drop_scalars zero cs h = h
drop_scalars (suc n) [] h = refl
drop_scalars (suc n) (c ∷ cs) h = drop_scalars n cs (and_parts _ (all_scalars cs) h).1

take_scalars : (n : ℕ) (cs : List ℕ) → all_scalars cs ≡ true → all_scalars (take n cs) ≡ true
take_scalars zero cs h = refl
take_scalars (suc n) [] h = refl
take_scalars (suc n) (c ∷ cs) h = let p = and_parts _ (all_scalars cs) h in and_from _ (all_scalars (take n cs)) p.0 (take_scalars n cs p.1)

inside_scalars : (cs : List ℕ) → all_scalars cs ≡ true → all_scalars (inside cs) ≡ true
inside_scalars cs h = take_scalars (length (drop 1 cs) - 1) (drop 1 cs) (drop_scalars 1 cs h)

-- what is read off characters is a character, and characters are left
abbrev Reads : (ℕ → List ℕ → ℕ × List ℕ) → Type 0
Reads next = (c : ℕ) (cs : List ℕ) → IsScalar c → all_scalars cs ≡ true → IsScalar (next c cs).0 × (all_scalars (next c cs).1 ≡ true)

within_scalars : (next : ℕ → List ℕ → ℕ × List ℕ) → Reads next → (n : ℕ) (cs : List ℕ) → all_scalars cs ≡ true → all_scalars (spelled_within n next cs) ≡ true
within_scalars next r zero cs h = refl
within_scalars next r (suc n) [] h = refl
within_scalars next r (suc n) (c ∷ cs) h =
    let p = and_parts _ (all_scalars cs) h in let q = r c cs p.0 p.1 in and_from _ (all_scalars (spelled_within n next (next c cs).1)) q.0 (within_scalars next r n (next c cs).1 q.1)

-- what a sign and what is behind it spell, and any other character is itself
abbrev At : Option (ℕ × List ℕ) → Type 0
At None = Unit {0}
At (Some r) = IsScalar r.0

sign_reads : (k : ℕ) (o : List ℕ → Option (ℕ × List ℕ)) → ((cs : List ℕ) → Follows (o cs) cs) → ((cs : List ℕ) → all_scalars cs ≡ true → At (o cs)) → Reads (λ c cs. if eqb c k then unwrap_or (o cs) (k, cs) else (c, cs))
sign_reads k o follows at c cs h g = chosen (eqb c k) refl (o cs) (follows cs) (at cs g)
  where
    chosen : (t : Bool) → eqb c k ≡ t → (r : Option (ℕ × List ℕ)) → Follows r cs → At r
        → IsScalar (if t then unwrap_or r (k, cs) else (c, cs)).0 × (all_scalars (if t then unwrap_or r (k, cs) else (c, cs)).1 ≡ true)
    chosen false e r f a = (h, g)
    chosen true e None f a = (subst IsScalar (eqb-true c k e) h, g)
    chosen true e (Some r) f a = (a, left cs r.1 f g)
      where
        left : (cs rest : List ℕ) → Further cs rest → all_scalars cs ≡ true → all_scalars rest ≡ true
        left [] rest f g = absurd f
        left (c ∷ cs) rest f g = ends_scalars f (and_parts _ (all_scalars cs) g).1

simple_scalar : (x : ℕ) → is_simple_escape x ≡ true → IsScalar (simple_escape x)
simple_scalar x h = grind (arith, nat_tests)

escape_scalar : (cs : Chars) → Spells (escape cs)
escape_scalar [] = tt
escape_scalar (x ∷ cs) = chosen (is_simple_escape x.value) refl (nat_eq x.value 117)
  where
    chosen : (t : Bool) → is_simple_escape x.value ≡ t → (u : Bool) → Spells (if t then Some (simple_escape x.value, cs) else (if u then unicode cs else None))
    chosen true e u = simple_scalar x.value e
    chosen false e true = unicode-spells cs
    chosen false e false = tt

escape_at_scalar : (cs : List ℕ) → At (escape_at cs)
escape_at_scalar cs = given (escape (unplaced cs)) (escape_scalar (unplaced cs))
  where
    given : (o : Option (ℕ × Chars)) → Spells o → At (option_map (λ (r : ℕ × Chars). (r.0, values r.1)) o)
    given None h = tt
    given (Some r) h = h

abbrev NamesScalars : List (List ℕ × ℕ) → Type 0
NamesScalars [] = Unit {0}
NamesScalars (row ∷ rows) = IsScalar row.1 × NamesScalars rows

named_scalar : (rows : List (List ℕ × ℕ)) (cs : List ℕ) → NamesScalars rows → At (named rows cs)
named_scalar [] cs h = tt
named_scalar (row ∷ rows) cs h = given (behind row.0 cs) (named_scalar rows cs h.1)
  where
    given : (o : Option (List ℕ)) → At (named rows cs) → At (option_or (option_map (λ (rest : List ℕ). (row.1, rest)) o) (named rows cs))
    given None a = a
    given (Some rest) a = h.0

text_reads : Reads next_in_text
text_reads = sign_reads 92 escape_at escape_follows (λ cs h. escape_at_scalar cs)

value_reads : Reads next_in_value
value_reads = sign_reads 38 (named references) (λ cs. named_follows references cs tt) (λ cs h. named_scalar references cs (refl, (refl, (refl, (refl, tt)))))

pub text_scalars : (text : List ℕ) → all_scalars (text_of text) ≡ true
unfolding text_of
text_scalars text = let cs = inside (decoded text) in within_scalars next_in_text text_reads (length cs) cs (inside_scalars (decoded text) (decoded_scalars text))

pub quoted_scalars : (text : List ℕ) → all_scalars (quoted_of text) ≡ true
unfolding quoted_of
quoted_scalars text = let cs = inside (decoded text) in within_scalars next_in_value value_reads (length cs) cs (inside_scalars (decoded text) (decoded_scalars text))

pub child_text_scalars : (text : List ℕ) → all_scalars (child_text_of text) ≡ true
unfolding child_text_of
child_text_scalars text = let cs = decoded text in within_scalars next_in_value value_reads (length cs) cs (decoded_scalars text)

-- ---- numbers

pub number_is : (digits : List ℕ) → is_number (number_of digits) ≡ true
unfolding number_of
number_is digits = let n = min (word.number_of digits) number_limit in lt-ltb n (2 ^ 53) (omega arith)
