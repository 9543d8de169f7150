-- A text of an element opens neither a dollar nor a tilde, also once its references are read.
use Rattle.std.proofs.Common.{◌≡◌, ℕ, zero, suc, Bool, true, false, not, ◌&&◌, List, [], ◌∷◌, length, Option, None, Some, refl, sym, ap, ◌∙◌}
use Rattle.std.specs.Prelude.{◌==◌, if◌then◌else◌, option_map, unwrap_or}
use Rattle.std.specs.Option.{option_or}
use Rattle.std.proofs.lemmas.Bool.{and_right, both_ways, not-true, and_from, and_parts}
use Rattle.mt_lexer.specs.Character.{Chars}
use Rattle.mt_lexer.specs.Sign.{in_child_text}
use Rattle.mt_lexer.specs.Spelling.{Run, run_end, run_more}
use Rattle.mt_syntax.specs.Shape.{is_some_item, opens_none, opens_with}
use Rattle.mt_parser_marks.specs.Values.{behind, child_text_of, decoded, named, next_in_value, references, referred, spelled_within}
use Rattle.mt_parser_marks.proofs.Suffixes.{Ends, all, past, Follows, named_follows}
use Rattle.mt_parser.proofs.Classes.{opens_neither}
use Rattle.mt_parser.proofs.Fits.{TextFits}
use Rattle.mt_parser.proofs.Fronts.{front}

-- the list begins with this one
abbrev begins : ℕ → List ℕ → Bool
begins b [] = false
begins b (c ∷ cs) = c == b

opens_is : (a b c : ℕ) (cs : List ℕ) → opens_with a b (c ∷ cs) ≡ ((c == a) && begins b cs)
opens_is a b c [] = sym (and_right (c == a) false refl)
opens_is a b c (d ∷ cs) = refl

-- a list with one more in front
more : (c : ℕ) (cs : List ℕ) → ((c == 36) && begins 123 cs) ≡ false → ((c == 126) && begins 123 cs) ≡ false → opens_none cs ≡ true → opens_none (c ∷ cs) ≡ true
more c cs f g h =
    and_from (not (opens_with 36 123 (c ∷ cs)) && not (opens_with 126 123 (c ∷ cs))) (opens_none cs)
    (and_from (not (opens_with 36 123 (c ∷ cs))) (not (opens_with 126 123 (c ∷ cs))) (ap not (opens_is 36 123 c cs ∙ f)) (ap not (opens_is 126 123 c cs ∙ g))) h

-- and without the one in front
record Parts (c : ℕ) (cs : List ℕ) : Type 0 where
  dollar : ((c == 36) && begins 123 cs) ≡ false
  tilde : ((c == 126) && begins 123 cs) ≡ false
  later : opens_none cs ≡ true

parts_of : (c : ℕ) (cs : List ℕ) → opens_none (c ∷ cs) ≡ true → Parts c cs
parts_of c cs h =
    let a = and_parts (not (opens_with 36 123 (c ∷ cs)) && not (opens_with 126 123 (c ∷ cs))) (opens_none cs) h in
    let b = and_parts (not (opens_with 36 123 (c ∷ cs))) (not (opens_with 126 123 (c ∷ cs))) a.0 in
    record { dollar = sym (opens_is 36 123 c cs) ∙ not-true (opens_with 36 123 (c ∷ cs)) b.0; tilde = sym (opens_is 126 123 c cs) ∙ not-true (opens_with 126 123 (c ∷ cs)) b.1; later = a.1 }

-- ---- the text as it stands

pub run_opens_none : {cs rest : Chars} (r : Run in_child_text cs rest) → opens_none (front r) ≡ true
run_opens_none (run_end h) = refl
run_opens_none (run_more {x} h (run_end g)) = more x.value [] (and_right (x.value == 36) false refl) (and_right (x.value == 126) false refl) refl
run_opens_none (run_more {x} h (run_more {x = y} g d)) =
    let neither = opens_neither x.value y.value h in more x.value (front (run_more {x = y} g d)) neither.0 neither.1 (run_opens_none (run_more {x = y} g d))

ends_opens_none : {cs rest : List ℕ} → Ends cs rest → opens_none cs ≡ true → opens_none rest ≡ true
ends_opens_none all h = h
ends_opens_none (past {x} {xs} d) h = ends_opens_none d (parts_of x xs h).later

-- ---- with its references read

-- what a reference names opens nothing, and is not what opens behind a dollar or a tilde
record IsQuiet (v : ℕ) : Type 0 where
  dollar : (v == 36) ≡ false
  tilde : (v == 126) ≡ false
  brace : (v == 123) ≡ false

abbrev At : Option (ℕ × List ℕ) → Type 0
At None = Unit {0}
At (Some r) = IsQuiet r.0

abbrev AllQuiet : List (List ℕ × ℕ) → Type 0
AllQuiet [] = Unit {0}
AllQuiet (row ∷ rows) = IsQuiet row.1 × AllQuiet rows

named_quiet : (rows : List (List ℕ × ℕ)) (cs : List ℕ) → AllQuiet rows → At (named rows cs)
named_quiet [] cs h = tt
named_quiet (row ∷ rows) cs h = given (behind row.0 cs) (named_quiet rows cs h.1)
  where
    given : (o : Option (List ℕ)) → At (named rows cs) → At (option_or (option_map (λ (rest : List ℕ). (row.1, rest)) o) (named rows cs))
    given None a = a
    given (Some rest) a = h.0

names_quiet : AllQuiet references
names_quiet =
    let quiet : IsQuiet 38 = record { dollar = refl; tilde = refl; brace = refl } in
    (quiet, (record { dollar = refl; tilde = refl; brace = refl }, (record { dollar = refl; tilde = refl; brace = refl }, (record { dollar = refl; tilde = refl; brace = refl }, tt))))

-- what stands behind an ampersand
record Referred (cs : List ℕ) (r : ℕ × List ℕ) : Type 0 where
  quiet : IsQuiet r.0
  rest : Ends cs r.1

referred_is : (cs : List ℕ) → Referred cs (referred cs)
referred_is cs = given (named references cs) (named_quiet references cs names_quiet) cs (named_follows references cs tt)
  where
    given : (o : Option (ℕ × List ℕ)) → At o → (cs : List ℕ) → Follows o cs → Referred cs (unwrap_or o (38, cs))
    given None a cs f = record { quiet = record { dollar = refl; tilde = refl; brace = refl }; rest = all }
    given (Some r) a [] f = absurd f
    given (Some r) a (c ∷ cs) f = record { quiet = a; rest = past f }

-- what is read begins with a brace only where the text does
brace_stands : (n : ℕ) (cs : List ℕ) → begins 123 (spelled_within n next_in_value cs) ≡ true → begins 123 cs ≡ true
brace_stands zero cs h = absurd cc
brace_stands (suc n) [] h = absurd cc
brace_stands (suc n) (c ∷ cs) h = by (c == 38) h
  where
    by : (t : Bool) → ((if t then referred cs else (c, cs)).0 == 123) ≡ true → (c == 123) ≡ true
    by true h = absurd (both_ways ((referred cs).0 == 123) (referred_is cs).quiet.brace h)
    by false h = h

no_brace : (n : ℕ) (cs : List ℕ) (t : Bool) → (t && begins 123 cs) ≡ false → (t && begins 123 (spelled_within n next_in_value cs)) ≡ false
no_brace n cs false h = refl
no_brace n cs true h = by (begins 123 (spelled_within n next_in_value cs)) refl
  where
    by : (b : Bool) → begins 123 (spelled_within n next_in_value cs) ≡ b → b ≡ false
    by true e = absurd (both_ways (begins 123 cs) h (brace_stands n cs e))
    by false e = refl

read_opens_none : (n : ℕ) (cs : List ℕ) → opens_none cs ≡ true → opens_none (spelled_within n next_in_value cs) ≡ true
read_opens_none zero cs h = refl
read_opens_none (suc n) [] h = refl
read_opens_none (suc n) (c ∷ cs) h = by (c == 38) (referred_is cs) (λ rest e. read_opens_none n rest (ends_opens_none e (parts_of c cs h).later))
  where
    by : (t : Bool) → Referred cs (referred cs) → ((rest : List ℕ) → Ends cs rest → opens_none (spelled_within n next_in_value rest) ≡ true)
        → opens_none ((if t then referred cs else (c, cs)).0 ∷ spelled_within n next_in_value (if t then referred cs else (c, cs)).1) ≡ true
    by true r later =
        more (referred cs).0 (spelled_within n next_in_value (referred cs).1) (ap (λ t. t && begins 123 (spelled_within n next_in_value (referred cs).1)) r.quiet.dollar)
        (ap (λ t. t && begins 123 (spelled_within n next_in_value (referred cs).1)) r.quiet.tilde) (later (referred cs).1 r.rest)
    by false r later =
        let p = parts_of c cs h in more c (spelled_within n next_in_value cs) (no_brace n cs (c == 36) p.dollar) (no_brace n cs (c == 126) p.tilde) (later cs all)

-- a text with a character, in which nothing opens
pub text_fits : (text : List ℕ) (c : ℕ) (cs : List ℕ) → decoded text ≡ c ∷ cs → opens_none (c ∷ cs) ≡ true → TextFits text
unfolding child_text_of
text_fits text c cs e h = record {
  some = ap (λ l. is_some_item (spelled_within (length l) next_in_value l)) e;
  opens = ap (λ l. opens_none (spelled_within (length l) next_in_value l)) e ∙ read_opens_none (length (c ∷ cs)) (c ∷ cs) h;
}
