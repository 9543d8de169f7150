-- The lines of a text, and the commands of its lines.
use Rattle.std.proofs.Common.{◌≡◌, inl, inr, ◌<◌, ◌≤◌, ◌+◌, ◌-◌, ◌++◌, ◌==◌, ℕ, suc, Bool, true, false, not, List, [], ◌∷◌, length, take, slice_get, All, Option, None, Some, unwrap_or, sym, refl, ap, ap₂, subst, ◌∙◌, arith, append_assoc, append-nil, length-append, take_at, length-take, get_or, get_or-take, eqb-true, if◌then◌else◌}
use Rattle.std.proofs.lemmas.Bool.{and_parts, not-true, cases_order}
use Rattle.std.proofs.lemmas.List.Elements.{All-nil, All-cons}
use Rattle.std.proofs.lemmas.Option.{none-some, same_Some, slice_get-get_or}
use Rattle.mt_small.specs.declared.command.SmallCommand.{SmallCommand}
use Rattle.mt_small.specs.declared.command_reader.LineKind.TheVariants.{Skipped, Command}
use Rattle.mt_small.specs.CommandReader.{kind_of}
use Rattle.mt_small.specs.Schedule.{Line, with_byte, lines_of, without_return, contents, IsGoodLine, SpellsCommands, SpellsSchedule, IsFirstBad}
use Rattle.mt_small.specs.ScheduleReader.{IsFirstLine, IsTaken}
use Rattle.mt_small.specs.Splitting.{before, from, before_back}
use Rattle.mt_small.proofs.Commands.{command_in-again, kind-skipped, kind-command}
use Rattle.mt_small.proofs.Cuts.{lacks, before-lacks, before-from, from-first, before_back-found, before_back-again}
use Rattle.mt_tree.specs.Limits.{line_limit}

-- a line feed ends the first line
first-ended : (line after : List ℕ) → lacks 10 line ≡ true → lines_of (line ++ 10 ∷ after) ≡ record { bytes = line; ended = true } ∷ lines_of after
first-ended [] after e = refl
first-ended (byte ∷ line) after e =
    let both = and_parts (not (byte == 10)) (lacks 10 line) e in
    let other : (byte == 10) ≡ false = not-true (byte == 10) both.0 in
    rw other (ap (with_byte byte) (first-ended line after both.1))

-- the last line may lack it
last-line : (byte : ℕ) (line : List ℕ) → lacks 10 (byte ∷ line) ≡ true → lines_of (byte ∷ line) ≡ record { bytes = byte ∷ line; ended = false } ∷ []
last-line byte [] e =
    let other : (byte == 10) ≡ false = not-true (byte == 10) (and_parts (not (byte == 10)) true e).0 in
    rw other refl
last-line byte (next ∷ line) e =
    let both = and_parts (not (byte == 10)) (lacks 10 (next ∷ line)) e in
    let other : (byte == 10) ≡ false = not-true (byte == 10) both.0 in
    rw other (ap (with_byte byte) (last-line next line both.1))

return-dropped : (line : List ℕ) → without_return (line ++ 13 ∷ []) ≡ line
return-dropped [] = refl
return-dropped (byte ∷ []) = refl
return-dropped (byte ∷ next ∷ line) = ap (λ xs. byte ∷ xs) (return-dropped (next ∷ line))

return-kept : (line : List ℕ) → ((front : List ℕ) → line ≡ front ++ 13 ∷ [] → ⊥) → without_return line ≡ line
return-kept [] none = refl
return-kept (byte ∷ []) none = at (byte == 13) refl
  where
    at : (t : Bool) → (byte == 13) ≡ t → (if t then [] else byte ∷ []) ≡ byte ∷ []
    at true is = absurd (none [] (ap (λ b. b ∷ []) (eqb-true byte 13 is)))
    at false is = refl
return-kept (byte ∷ next ∷ line) none = ap (λ xs. byte ∷ xs) (return-kept (next ∷ line) (λ front is. none (byte ∷ front) (ap (λ xs. byte ∷ xs) is)))

pub without_return_is : (line : List ℕ) → unwrap_or (before_back (13 ∷ []) line) line ≡ without_return line
without_return_is line = at (before_back (13 ∷ []) line) refl
  where
    at : (o : Option (List ℕ)) → before_back (13 ∷ []) line ≡ o → unwrap_or o line ≡ without_return line
    at None none = sym (return-kept line (λ front is. none-some front (sym none ∙ ap (before_back (13 ∷ [])) is ∙ before_back-again (13 ∷ []) front)))
    at (Some front) some = sym (ap without_return (before_back-found (13 ∷ []) line front some) ∙ return-dropped front)

-- a text with a line feed: the line before it, and what follows it
pub first-line-ended : (text : List ℕ) (byte : ℕ) (after line : List ℕ) → from 10 text ≡ byte ∷ after → line ≡ without_return (before 10 text) → IsFirstLine text line after
first-line-ended text byte after line rest is = record { lines = lines; shorter = shorter }
  where
    whole : text ≡ before 10 text ++ 10 ∷ after
    whole = before-from 10 text ∙ ap (λ xs. before 10 text ++ xs) (rest ∙ ap (λ b. b ∷ after) (from-first 10 text byte after rest))

    lines : contents (lines_of text) ≡ line ∷ contents (lines_of after)
    lines = ap (λ xs. contents (lines_of xs)) whole ∙ ap contents (first-ended (before 10 text) after (before-lacks 10 text)) ∙ ap (λ xs. xs ∷ contents (lines_of after)) (sym is)

    shorter : length after < length text
    shorter = omega (arith, ap length whole, length-append (before 10 text) (10 ∷ after))

-- a text without one is one line
pub first-line-last : (text : List ℕ) → 0 < length text → from 10 text ≡ [] → IsFirstLine text (before 10 text) (from 10 text)
first-line-last text some none = record { lines = lines; shorter = shorter }
  where
    whole : text ≡ before 10 text
    whole = before-from 10 text ∙ ap (λ xs. before 10 text ++ xs) none ∙ append-nil (before 10 text)

    one : (xs : List ℕ) → 0 < length xs → lacks 10 xs ≡ true → contents (lines_of xs) ≡ xs ∷ []
    one [] any e = absurd (omega arith)
    one (x ∷ xs) any e = ap contents (last-line x xs e)

    lines : contents (lines_of text) ≡ before 10 text ∷ contents (lines_of (from 10 text))
    lines = one text some (ap (lacks 10) whole ∙ before-lacks 10 text) ∙ ap₂ (λ xs ys. xs ∷ contents (lines_of ys)) whole (sym none)

    shorter : length (from 10 text) < length text
    shorter = omega (arith, ap length none)

pub spells-append : (xs ys : List (List ℕ)) (cs ds : List SmallCommand) → SpellsCommands xs cs → SpellsCommands ys ds → SpellsCommands (xs ++ ys) (cs ++ ds)
spells-append [] ys cs ds none more = subst (λ es. SpellsCommands ys (es ++ ds)) (sym none) more
spells-append (x ∷ xs) ys cs ds (inl skipped) more = inl (skipped.0, spells-append xs ys cs ds skipped.1 more)
spells-append (x ∷ xs) ys cs ds (inr spelled) more =
    inr (spelled.0, spelled.1 ++ ds, ap (λ es. es ++ ds) spelled.2, spelled.3, spells-append xs ys spelled.1 ds spelled.4 more)

spells-taken : (front : List (List ℕ)) (line : List ℕ) (old new : List SmallCommand) → SpellsCommands front old → IsTaken line old new → SpellsCommands (front ++ line ∷ []) new
spells-taken front line old new spelled (inl skipped) =
    subst (SpellsCommands (front ++ line ∷ [])) (append-nil old ∙ sym skipped.1) (spells-append front (line ∷ []) old [] spelled (inl (skipped.0, refl)))
spells-taken front line old new spelled (inr command) =
    subst (SpellsCommands (front ++ line ∷ [])) (sym command.2)
    (spells-append front (line ∷ []) old (command.0 ∷ []) spelled (inr (command.0, [], refl, command.1, refl)))

pub spells-good : (lines : List (List ℕ)) (commands : List SmallCommand) → SpellsCommands lines commands → All IsGoodLine lines
spells-good [] commands spelled = All-nil IsGoodLine
spells-good (line ∷ lines) commands (inl skipped) = All-cons IsGoodLine line lines (inl skipped.0) (spells-good lines commands skipped.1)
spells-good (line ∷ lines) commands (inr spelled) = All-cons IsGoodLine line lines (inr (spelled.0, spelled.3)) (spells-good lines spelled.1 spelled.4)

length-contents : (lines : List Line) → length (contents lines) ≡ length lines
length-contents [] = refl
length-contents (line ∷ lines) = ap suc (length-contents lines)

slice_get-middle : (front : List (List ℕ)) (line : List ℕ) (more : List (List ℕ)) → slice_get (front ++ line ∷ more) (length front) ≡ Some line
slice_get-middle [] line more = refl
slice_get-middle (first ∷ front) line more = slice_get-middle front line more

-- so many lines of the text are read, and what follows them is left
pub record Progress (text rest : List ℕ) (number : ℕ) (commands : List SmallCommand) : Type 0 where
  pub front : List (List ℕ)
  pub lines : contents (lines_of text) ≡ front ++ contents (lines_of rest)
  pub count : length front ≡ number
  pub limit : number ≤ line_limit
  pub spelled : SpellsCommands front commands

pub progress-none : (text : List ℕ) (commands : List SmallCommand) → commands ≡ [] → Progress text text 0 commands
progress-none text commands none = record { front = []; lines = refl; count = refl; limit = omega arith; spelled = none }

pub progress-more : (text rest line after : List ℕ) (number : ℕ) (old new : List SmallCommand) → Progress text rest number old → IsFirstLine rest line after
    → number + 1 ≤ line_limit → IsTaken line old new → Progress text after (number + 1) new
progress-more text rest line after number old new progress next limit taken =
    record {
      front = progress.front ++ line ∷ [];
      lines = progress.lines ∙ ap (λ xs. progress.front ++ xs) next.lines ∙ sym (append_assoc progress.front (line ∷ []) (contents (lines_of after)));
      count = omega (arith, length-append progress.front (line ∷ []), progress.count);
      limit = limit;
      spelled = spells-taken progress.front line old new progress.spelled taken;
    }

pub progress-all : (text rest : List ℕ) (number : ℕ) (commands : List SmallCommand) → Progress text rest number commands → rest ≡ [] → SpellsSchedule text commands
progress-all text rest number commands progress none =
    let whole : contents (lines_of text) ≡ progress.front = progress.lines ∙ ap (λ xs. progress.front ++ contents (lines_of xs)) none ∙ append-nil progress.front in
    let few : length (lines_of text) ≤ line_limit = omega (arith, length-contents (lines_of text), ap length whole, progress.count, progress.limit) in
    (few, subst (λ xs. SpellsCommands xs commands) (sym whole) progress.spelled)

pub progress-bad : (text rest line after : List ℕ) (number : ℕ) (commands : List SmallCommand) → Progress text rest number commands → IsFirstLine rest line after
    → (number + 1 ≤ line_limit → IsGoodLine line → ⊥) → IsFirstBad text (number + 1)
progress-bad text rest line after number commands progress next bad =
    record { counted = omega arith; there = there; good = good; bad = refused; within = omega (arith, progress.limit) }
  where
    whole : contents (lines_of text) ≡ progress.front ++ line ∷ contents (lines_of after)
    whole = progress.lines ∙ ap (λ xs. progress.front ++ xs) next.lines

    place : number + 1 - 1 ≡ length progress.front
    place = omega (arith, progress.count)

    there : number + 1 ≤ length (lines_of text)
    there = omega (arith, length-contents (lines_of text), ap length whole, length-append progress.front (line ∷ contents (lines_of after)), progress.count)

    good : All IsGoodLine (take (number + 1 - 1) (contents (lines_of text)))
    good =
        let front : take (number + 1 - 1) (contents (lines_of text)) ≡ progress.front =
        ap₂ (λ n xs. take n xs) place whole ∙ take_at progress.front (line ∷ contents (lines_of after)) (length progress.front) refl in
        subst (All IsGoodLine) (sym front) (spells-good progress.front commands progress.spelled)

    refused : (other : List ℕ) → slice_get (contents (lines_of text)) (number + 1 - 1) ≡ Some other → number + 1 ≤ line_limit → IsGoodLine other → ⊥
    refused other is within good_line =
        let here : slice_get (contents (lines_of text)) (number + 1 - 1) ≡ Some line =
        ap₂ (λ xs n. slice_get xs n) whole place ∙ slice_get-middle progress.front line (contents (lines_of after)) in
        bad within (subst IsGoodLine (same_Some other line (sym is ∙ here)) good_line)

apart : (line : List ℕ) (command : SmallCommand) → kind_of line ≡ Skipped → kind_of line ≡ Command command → ⊥
apart line command skipped spelled = cc

pub one-list : (lines : List (List ℕ)) (a b : List SmallCommand) → SpellsCommands lines a → SpellsCommands lines b → a ≡ b
one-list [] a b none_a none_b = none_a ∙ sym none_b
one-list (line ∷ lines) a b (inl skipped) (inl other) = one-list lines a b skipped.1 other.1
one-list (line ∷ lines) a b (inl skipped) (inr spelled) =
    absurd (apart line spelled.0 (kind-skipped line skipped.0) (kind-command line spelled.0 spelled.3))
one-list (line ∷ lines) a b (inr spelled) (inl skipped) =
    absurd (apart line spelled.0 (kind-skipped line skipped.0) (kind-command line spelled.0 spelled.3))
one-list (line ∷ lines) a b (inr spelled) (inr other) =
    let same = same_Some spelled.0 other.0 (sym (command_in-again line spelled.0 spelled.3) ∙ command_in-again line other.0 other.3) in
    spelled.2 ∙ ap₂ (λ c cs. c ∷ cs) same (one-list lines spelled.1 other.1 spelled.4 other.4) ∙ sym other.2

pub one-schedule : (text : List ℕ) (a b : List SmallCommand) → SpellsSchedule text a → SpellsSchedule text b → a ≡ b
one-schedule text a b spells_a spells_b = one-list (contents (lines_of text)) a b spells_a.1 spells_b.1

-- the line at a number
line-at : (text : List ℕ) (n : ℕ) → 1 ≤ n → n ≤ length (lines_of text) → slice_get (contents (lines_of text)) (n - 1) ≡ Some (get_or (contents (lines_of text)) (n - 1) [])
line-at text n low high = slice_get-get_or (contents (lines_of text)) (n - 1) [] (omega (arith, length-contents (lines_of text)))

pub bad-line-refuses : (text : List ℕ) (n : ℕ) (commands : List SmallCommand) → IsFirstBad text n → SpellsSchedule text commands → ⊥
bad-line-refuses text n commands bad spells =
    let within : n - 1 < length (contents (lines_of text)) = omega (arith, length-contents (lines_of text), bad.counted, bad.there) in
    let few : n ≤ line_limit = omega (arith, bad.there, spells.0) in
    bad.bad (get_or (contents (lines_of text)) (n - 1) []) (line-at text n bad.counted bad.there) few
    (spells-good (contents (lines_of text)) commands spells.1 (n - 1) [] within)

not-later : (text : List ℕ) (m n : ℕ) → IsFirstBad text m → IsFirstBad text n → m < n → ⊥
not-later text m n bad later less =
    let lines : List (List ℕ) = contents (lines_of text) in
    let few : m ≤ line_limit = omega (arith, later.within) in
    let taken : m - 1 < length (take (n - 1) lines) = omega (arith, length-take (n - 1) lines, length-contents (lines_of text), bad.counted, bad.there, later.there) in
    let below : m - 1 < n - 1 = omega (arith, bad.counted) in
    let same = get_or-take (n - 1) lines (m - 1) [] below in
    bad.bad (get_or lines (m - 1) []) (line-at text m bad.counted bad.there) few (subst IsGoodLine same (later.good (m - 1) [] taken))

pub one-bad : (text : List ℕ) (m n : ℕ) → IsFirstBad text m → IsFirstBad text n → m ≡ n
one-bad text m n bad_m bad_n = elim (cases_order m n) [
  | inl same ↦ same
  | inr (inl less) ↦ absurd (not-later text m n bad_m bad_n less)
  | inr (inr more) ↦ absurd (not-later text n m bad_n bad_m more)
]
