-- The lines of a text.
use Rattle.std.proofs.Common.{◌≡◌, ◌<◌, ◌++◌, ◌==◌, ℕ, Bool, true, false, not, List, [], ◌∷◌, length, Option, None, Some, unwrap_or, sym, refl, ap, ap₂, ◌∙◌, arith, append-nil, length-append, eqb-true, if◌then◌else◌}
use Rattle.std.proofs.lemmas.Bool.{and_parts, not-true}
use Rattle.std.proofs.lemmas.Option.{none-some}
use Rattle.mt_lines.specs.Lines.{with_byte, lines_of, without_return, contents, IsFirstLine}
use Rattle.mt_lines.specs.Words.{before, from, before_back}
use Rattle.mt_lines.proofs.Words.{lacks, before-lacks, before-from, from-first, before_back-found, before_back-again}

-- a line feed ends the first line
first-ended : (line after : List ℕ) → lacks 10 line ≡ true → lines_of (line ++ 10 ∷ after) ≡ record { bytes = line; ended = true } ∷ lines_of after
first-ended [] after e = refl
first-ended (byte ∷ line) after e =
    let both = and_parts (not (byte == 10)) (lacks 10 line) e in
    let other : (byte == 10) ≡ false = not-true (byte == 10) both.0 in
    rw other (ap (with_byte byte) (first-ended line after both.1))

-- the last line may lack it
last-line : (byte : ℕ) (line : List ℕ) → lacks 10 (byte ∷ line) ≡ true → lines_of (byte ∷ line) ≡ record { bytes = byte ∷ line; ended = false } ∷ []
last-line byte [] e =
    let other : (byte == 10) ≡ false = not-true (byte == 10) (and_parts (not (byte == 10)) true e).0 in
    rw other refl
last-line byte (next ∷ line) e =
    let both = and_parts (not (byte == 10)) (lacks 10 (next ∷ line)) e in
    let other : (byte == 10) ≡ false = not-true (byte == 10) both.0 in
    rw other (ap (with_byte byte) (last-line next line both.1))

return-dropped : (line : List ℕ) → without_return (line ++ 13 ∷ []) ≡ line
return-dropped [] = refl
return-dropped (byte ∷ []) = refl
return-dropped (byte ∷ next ∷ line) = ap (λ xs. byte ∷ xs) (return-dropped (next ∷ line))

return-kept : (line : List ℕ) → ((front : List ℕ) → line ≡ front ++ 13 ∷ [] → ⊥) → without_return line ≡ line
return-kept [] none = refl
return-kept (byte ∷ []) none = at (byte == 13) refl
  where
    at : (t : Bool) → (byte == 13) ≡ t → (if t then [] else byte ∷ []) ≡ byte ∷ []
    at true is = absurd (none [] (ap (λ b. b ∷ []) (eqb-true byte 13 is)))
    at false is = refl
return-kept (byte ∷ next ∷ line) none = ap (λ xs. byte ∷ xs) (return-kept (next ∷ line) (λ front is. none (byte ∷ front) (ap (λ xs. byte ∷ xs) is)))

pub without_return_is : (line : List ℕ) → unwrap_or (before_back (13 ∷ []) line) line ≡ without_return line
without_return_is line = at (before_back (13 ∷ []) line) refl
  where
    at : (o : Option (List ℕ)) → before_back (13 ∷ []) line ≡ o → unwrap_or o line ≡ without_return line
    at None none = sym (return-kept line (λ front is. none-some front (sym none ∙ ap (before_back (13 ∷ [])) is ∙ before_back-again (13 ∷ []) front)))
    at (Some front) some = sym (ap without_return (before_back-found (13 ∷ []) line front some) ∙ return-dropped front)

-- a line feed ends the first line, and what follows it has the other lines
pub ended-line : (line after : List ℕ) → lacks 10 line ≡ true → ((front : List ℕ) → line ≡ front ++ 13 ∷ [] → ⊥)
    → contents (lines_of (line ++ 10 ∷ after)) ≡ line ∷ contents (lines_of after)
ended-line line after whole kept = ap contents (first-ended line after whole) ∙ ap (λ xs. xs ∷ contents (lines_of after)) (return-kept line kept)

-- a text with a line feed: the line before it, and what follows it
pub first-line-ended : (text : List ℕ) (byte : ℕ) (after line : List ℕ) → from 10 text ≡ byte ∷ after → line ≡ without_return (before 10 text) → IsFirstLine text line after
first-line-ended text byte after line rest is = record { lines = lines; shorter = shorter }
  where
    whole : text ≡ before 10 text ++ 10 ∷ after
    whole = before-from 10 text ∙ ap (λ xs. before 10 text ++ xs) (rest ∙ ap (λ b. b ∷ after) (from-first 10 text byte after rest))

    lines : contents (lines_of text) ≡ line ∷ contents (lines_of after)
    lines = ap (λ xs. contents (lines_of xs)) whole ∙ ap contents (first-ended (before 10 text) after (before-lacks 10 text)) ∙ ap (λ xs. xs ∷ contents (lines_of after)) (sym is)

    shorter : length after < length text
    shorter = omega (arith, ap length whole, length-append (before 10 text) (10 ∷ after))

-- a text without one is one line
pub first-line-last : (text : List ℕ) → 0 < length text → from 10 text ≡ [] → IsFirstLine text (before 10 text) (from 10 text)
first-line-last text some none = record { lines = lines; shorter = shorter }
  where
    whole : text ≡ before 10 text
    whole = before-from 10 text ∙ ap (λ xs. before 10 text ++ xs) none ∙ append-nil (before 10 text)

    one : (xs : List ℕ) → 0 < length xs → lacks 10 xs ≡ true → contents (lines_of xs) ≡ xs ∷ []
    one [] any e = absurd (omega arith)
    one (x ∷ xs) any e = ap contents (last-line x xs e)

    lines : contents (lines_of text) ≡ before 10 text ∷ contents (lines_of (from 10 text))
    lines = one text some (ap (lacks 10) whole ∙ before-lacks 10 text) ∙ ap₂ (λ xs ys. xs ∷ contents (lines_of ys)) whole (sym none)

    shorter : length (from 10 text) < length text
    shorter = omega (arith, ap length none)
