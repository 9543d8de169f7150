-- The text of a run of characters, cut from a source.
use Rattle.std.proofs.Common.{◌≡◌, ℕ, ◌+◌, ◌-◌, ◌≤◌, Bool, true, List, [], ◌∷◌, ◌++◌, length, take, drop, refl, sym, ap, ◌∙◌, arith}
use Rattle.std.specs.List.{list_all}
use Rattle.std.specs.Char.{IsScalar}
use Rattle.std.specs.Str.{all_scalars, IsUtf8}
use Rattle.std.proofs.Math.Seq.{take-append-add}
use Rattle.std.proofs.lemmas.Bool.{and_from, and_parts}
use Rattle.std.proofs.lemmas.Str.{chars-encodes}
use lib.Utf8.{encode, encodes}
use Rattle.mt_lexer.specs.declared.character.SourceChar.{SourceChar}
use Rattle.mt_lexer.specs.declared.character.Class.{Class}
use Rattle.mt_lexer.specs.Character.{Chars, between, characters_from, class_of, place, text_of, until}
use Rattle.mt_lexer.specs.Spelling.{Run, RunOf, run_end, run_more}
use Rattle.mt_parser_marks.specs.Values.{decoded}
use Rattle.mt_parser_marks.proofs.Decoding.{decoded_some}
use Rattle.mt_parser_marks.proofs.Readable.{Bounded}
use Rattle.mt_parser_marks.proofs.Suffixes.{Ends, all, past}

-- ---- characters

abbrev pub AreScalars : Chars → Type 0
AreScalars [] = Unit {0}
AreScalars (x ∷ cs) = IsScalar x.value × AreScalars cs

pub source_scalars : (at : ℕ) (xs : List ℕ) → all_scalars xs ≡ true → AreScalars (characters_from at xs)
source_scalars at [] h = tt
source_scalars at (x ∷ xs) h = let p = and_parts _ (all_scalars xs) h in (p.0, source_scalars (at + length (encode x)) xs p.1)

pub decodes : (vs : List ℕ) → all_scalars vs ≡ true → decoded (encodes vs) ≡ vs
decodes vs h = let utf8 : IsUtf8 (encodes vs) = (vs, (h, refl)) in sym (decoded_some (encodes vs) (encodes vs) refl utf8) ∙ chars-encodes vs h

-- ---- runs

pub run_ends : {passes : Class → Class → Bool} {cs rest : Chars} → Run passes cs rest → Ends cs rest
run_ends (run_end h) = all
run_ends (run_more h d) = past (run_ends d)

-- the characters of a run
abbrev pub front : {passes : Class → Class → Bool} {cs rest : Chars} → Run passes cs rest → List ℕ
front (run_end h) = []
front (run_more {x} h d) = x.value ∷ front d

pub front_scalars : {passes : Class → Class → Bool} {cs rest : Chars} (r : Run passes cs rest) → AreScalars cs → all_scalars (front r) ≡ true
front_scalars (run_end h) s = refl
front_scalars (run_more {x} h d) s = and_from _ (all_scalars (front d)) s.0 (front_scalars d s.1)

-- what each character of a run passes
pub front_passes : {p : Class → Bool} (q : ℕ → Bool) → ((v : ℕ) → p (class_of v) ≡ true → q v ≡ true) → {cs rest : Chars} (r : RunOf p cs rest) → list_all q (front r) ≡ true
front_passes q tells (run_end h) = refl
front_passes q tells (run_more {x} h d) = and_from (q x.value) (list_all q (front d)) (tells x.value h) (front_passes q tells d)

-- ---- the text that a run has in the source

module _ (source : List ℕ) where
  pub bounded_end : {cs rest : Chars} → Ends cs rest → Bounded source cs → Bounded source rest
  bounded_end all h = h
  bounded_end (past d) h = bounded_end d h.1

  place_on : {cs rest : Chars} → Ends cs rest → Bounded source cs → place source cs ≤ place source rest
  place_on all h = omega arith
  place_on (past d) h = omega (arith, place_on d h.1, h.0.length, h.0.next)

  nothing : (at : ℕ) → text_of source (between at at) ≡ []
  nothing at = let e : at - at ≡ 0 = omega arith in ap (λ n. take n (drop at source)) e

  one_more : (x : SourceChar) (cs rest : Chars) → Ends cs rest → Bounded source (x ∷ cs) → text_of source (until source x rest) ≡ encode x.value ++ text_of source (between (place source cs) (place source rest))
  one_more x cs rest e h =
      let start = x.span.start in let end = place source rest in let next = place source cs in
      let l = h.0.length in let m = h.0.next in let on = place_on e h.1 in
      let count : end - start ≡ length (encode x.value) + (end - next) = omega arith in
      let bytes : drop start source ≡ encode x.value ++ drop next source = h.0.spelled ∙ ap (λ n. encode x.value ++ drop n source) (sym m) in
      ap (λ n. take n (drop start source)) count ∙ ap (take (length (encode x.value) + (end - next))) bytes ∙ take-append-add (encode x.value) (drop next source) (end - next)

  run_text : {passes : Class → Class → Bool} {cs rest : Chars} (r : Run passes cs rest) → Bounded source cs → text_of source (between (place source cs) (place source rest)) ≡ encodes (front r)
  run_text (run_end {cs} h) b = nothing (place source cs)
  run_text (run_more {x} {cs} {rest} h d) b = one_more x cs rest (run_ends d) b ∙ ap (λ l. encode x.value ++ l) (run_text d b.1)

  -- the text of a character and a run behind it
  pub text_from : {passes : Class → Class → Bool} (x : SourceChar) {cs rest : Chars} (r : Run passes cs rest) → Bounded source (x ∷ cs) → text_of source (until source x rest) ≡ encodes (x.value ∷ front r)
  text_from x {cs} {rest} r b = one_more x cs rest (run_ends r) b ∙ ap (λ l. encode x.value ++ l) (run_text r b.1)
