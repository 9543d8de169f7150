-- The lines of a schedule, and the commands of its lines.
use Rattle.std.proofs.Common.{◌≡◌, ◌⊎◌, inl, inr, ◌<◌, ◌≤◌, ◌+◌, ◌-◌, ◌++◌, ◌==◌, ℕ, suc, Bool, true, false, List, [], ◌∷◌, length, take, drop, slice_get, All, Some, sym, refl, ap, ap₂, subst, ◌∙◌, arith, append_assoc, append-nil, length-append, take_at, length-take, get_or, get_or-take, if◌then◌else◌}
use Rattle.std.proofs.lemmas.Bool.{cases_order}
use Rattle.std.proofs.lemmas.List.Elements.{All-nil, All-cons}
use Rattle.std.proofs.lemmas.Option.{same_Some, slice_get-get_or}
use Rattle.mt_lines.specs.Lines.{IsFirstLine}
use Rattle.mt_schedule.specs.declared.command.Command.{Command}
use Rattle.mt_schedule.specs.Command.{IsGoodLine}
use Rattle.mt_schedule.specs.Schedule.{lines, begins_with_heading, version_of, heading_lines, body, line_limit, SpellsCommands, SpellsSchedule, AreGoodBefore, IsFirstBad, HasTooMany, IsTaken}
use Rattle.mt_schedule.proofs.Commands.{one-command, skipped-spells-none}

-- ---- the heading

behind : (more : List (List ℕ)) → length more ≡ (if begins_with_heading more then 1 else 0) + length (drop (if begins_with_heading more then 1 else 0) more)
behind [] = refl
behind (line ∷ more) = at (begins_with_heading (line ∷ more))
  where
    at : (b : Bool) → suc (length more) ≡ (if b then 1 else 0) + length (drop (if b then 1 else 0) (line ∷ more))
    at true = omega arith
    at false = omega arith

length-body : (text : List ℕ) → length (lines text) ≡ heading_lines text + length (body text)
length-body text = behind (lines text)

heading-short : (text : List ℕ) → heading_lines text ≤ 1
heading-short text = at (begins_with_heading (lines text))
  where
    at : (b : Bool) → (if b then 1 else 0) ≤ 1
    at true = omega arith
    at false = omega arith

limit-high : (version : ℕ) → 20000 ≤ line_limit version
limit-high version = at (version == 2)
  where
    at : (b : Bool) → 20000 ≤ (if b then 100000 else 20000)
    at true = omega arith
    at false = omega arith

-- ---- the commands of lines

spells-append : (version : ℕ) (xs ys : List (List ℕ)) (cs ds : List Command) → SpellsCommands version xs cs → SpellsCommands version ys ds → SpellsCommands version (xs ++ ys) (cs ++ ds)
spells-append version [] ys cs ds none more = subst (λ es. SpellsCommands version ys (es ++ ds)) (sym none) more
spells-append version (x ∷ xs) ys cs ds (inl skipped) more = inl (skipped.0, spells-append version xs ys cs ds skipped.1 more)
spells-append version (x ∷ xs) ys cs ds (inr spelled) more =
    inr (spelled.0, spelled.1 ++ ds, ap (λ es. es ++ ds) spelled.2, spelled.3, spells-append version xs ys spelled.1 ds spelled.4 more)

spells-taken : (version : ℕ) (front : List (List ℕ)) (line : List ℕ) (old new : List Command) → SpellsCommands version front old → IsTaken version line old new
    → SpellsCommands version (front ++ line ∷ []) new
spells-taken version front line old new spelled (inl skipped) =
    subst (SpellsCommands version (front ++ line ∷ [])) (append-nil old ∙ sym skipped.1) (spells-append version front (line ∷ []) old [] spelled (inl (skipped.0, refl)))
spells-taken version front line old new spelled (inr command) =
    subst (SpellsCommands version (front ++ line ∷ [])) (sym command.2)
    (spells-append version front (line ∷ []) old (command.0 ∷ []) spelled (inr (command.0, [], refl, command.1, refl)))

spells-good : (version : ℕ) (more : List (List ℕ)) (commands : List Command) → SpellsCommands version more commands → All (IsGoodLine version) more
spells-good version [] commands spelled = All-nil (IsGoodLine version)
spells-good version (line ∷ more) commands (inl skipped) = All-cons (IsGoodLine version) line more (inl skipped.0) (spells-good version more commands skipped.1)
spells-good version (line ∷ more) commands (inr spelled) =
    All-cons (IsGoodLine version) line more (inr (spelled.0, spelled.3)) (spells-good version more spelled.1 spelled.4)

slice_get-middle : (front : List (List ℕ)) (line : List ℕ) (more : List (List ℕ)) → slice_get (front ++ line ∷ more) (length front) ≡ Some line
slice_get-middle [] line more = refl
slice_get-middle (first ∷ front) line more = slice_get-middle front line more

-- ---- reading line by line

-- so many lines of the text are read, and what follows them is left
pub record Progress (text rest : List ℕ) (number : ℕ) (commands : List Command) : Type 0 where
  pub front : List (List ℕ)
  pub split : body text ≡ front ++ lines rest
  pub count : heading_lines text + length front ≡ number
  pub limit : number ≤ line_limit (version_of text)
  pub spelled : SpellsCommands (version_of text) front commands

pub progress-none : (text rest : List ℕ) (number : ℕ) (commands : List Command) → lines rest ≡ body text → number ≡ heading_lines text → commands ≡ []
    → Progress text rest number commands
progress-none text rest number commands left count none =
    record {
      front = [];
      split = sym left;
      count = omega (arith, count);
      limit = omega (arith, count, heading-short text, limit-high (version_of text));
      spelled = none;
    }

pub progress-more : (text rest line after : List ℕ) (number : ℕ) (old new : List Command) → Progress text rest number old → IsFirstLine rest line after
    → number + 1 ≤ line_limit (version_of text) → IsTaken (version_of text) line old new → Progress text after (number + 1) new
progress-more text rest line after number old new progress next limit taken =
    record {
      front = progress.front ++ line ∷ [];
      split = progress.split ∙ ap (λ xs. progress.front ++ xs) next.lines ∙ sym (append_assoc progress.front (line ∷ []) (lines after));
      count = omega (arith, length-append progress.front (line ∷ []), progress.count);
      limit = limit;
      spelled = spells-taken (version_of text) progress.front line old new progress.spelled taken;
    }

pub progress-all : (text rest : List ℕ) (number : ℕ) (commands : List Command) → Progress text rest number commands → rest ≡ [] → SpellsSchedule text commands
progress-all text rest number commands progress none =
    let whole : body text ≡ progress.front = progress.split ∙ ap (λ xs. progress.front ++ lines xs) none ∙ append-nil progress.front in
    let few : length (lines text) ≤ line_limit (version_of text) = omega (arith, length-body text, ap length whole, progress.count, progress.limit) in
    (few, subst (λ xs. SpellsCommands (version_of text) xs commands) (sym whole) progress.spelled)

progress-split : (text rest line after : List ℕ) (number : ℕ) (commands : List Command) (progress : Progress text rest number commands) → IsFirstLine rest line after
    → body text ≡ progress.front ++ line ∷ lines after
progress-split text rest line after number commands progress next = progress.split ∙ ap (λ xs. progress.front ++ xs) next.lines

progress-place : (text rest : List ℕ) (number : ℕ) (commands : List Command) (progress : Progress text rest number commands)
    → number + 1 - 1 - heading_lines text ≡ length progress.front
progress-place text rest number commands progress = omega (arith, progress.count)

good-before : (text rest line after : List ℕ) (number : ℕ) (commands : List Command) → Progress text rest number commands → IsFirstLine rest line after
    → AreGoodBefore text (number + 1)
good-before text rest line after number commands progress next =
    let whole = progress-split text rest line after number commands progress next in
    let front : take (number + 1 - 1 - heading_lines text) (body text) ≡ progress.front =
    ap₂ (λ n xs. take n xs) (progress-place text rest number commands progress) whole ∙ take_at progress.front (line ∷ lines after) (length progress.front) refl in
    record {
      behind = omega (arith, progress.count);
      there = omega (arith, length-body text, ap length whole, length-append progress.front (line ∷ lines after), progress.count);
      good = subst (All (IsGoodLine (version_of text))) (sym front) (spells-good (version_of text) progress.front commands progress.spelled);
    }

pub progress-bad : (text rest line after : List ℕ) (number : ℕ) (commands : List Command) → Progress text rest number commands → IsFirstLine rest line after
    → number + 1 ≤ line_limit (version_of text) → (IsGoodLine (version_of text) line → ⊥) → IsFirstBad text (number + 1)
progress-bad text rest line after number commands progress next within bad =
    record { before = good-before text rest line after number commands progress next; within = within; bad = refused }
  where
    refused : (other : List ℕ) → slice_get (body text) (number + 1 - 1 - heading_lines text) ≡ Some other → IsGoodLine (version_of text) other → ⊥
    refused other is good_line =
        let here : slice_get (body text) (number + 1 - 1 - heading_lines text) ≡ Some line =
        ap₂ (λ xs n. slice_get xs n) (progress-split text rest line after number commands progress next) (progress-place text rest number commands progress)
        ∙ slice_get-middle progress.front line (lines after) in
        bad (subst (IsGoodLine (version_of text)) (same_Some other line (sym is ∙ here)) good_line)

pub progress-many : (text rest line after : List ℕ) (number : ℕ) (commands : List Command) → Progress text rest number commands → IsFirstLine rest line after
    → line_limit (version_of text) < number + 1 → HasTooMany text (number + 1)
progress-many text rest line after number commands progress next above =
    record { before = good-before text rest line after number commands progress next; first = omega (arith, above, progress.limit) }

-- ---- laws

one-list : (version : ℕ) (more : List (List ℕ)) (a b : List Command) → SpellsCommands version more a → SpellsCommands version more b → a ≡ b
one-list version [] a b none_a none_b = none_a ∙ sym none_b
one-list version (line ∷ more) a b (inl skipped) (inl other) = one-list version more a b skipped.1 other.1
one-list version (line ∷ more) a b (inl skipped) (inr spelled) = absurd (skipped-spells-none version line spelled.0 skipped.0 spelled.3)
one-list version (line ∷ more) a b (inr spelled) (inl skipped) = absurd (skipped-spells-none version line spelled.0 skipped.0 spelled.3)
one-list version (line ∷ more) a b (inr spelled) (inr other) =
    spelled.2 ∙ ap₂ (λ c cs. c ∷ cs) (one-command version line spelled.0 other.0 spelled.3 other.3) (one-list version more spelled.1 other.1 spelled.4 other.4) ∙ sym other.2

pub one-schedule : (text : List ℕ) (a b : List Command) → SpellsSchedule text a → SpellsSchedule text b → a ≡ b
one-schedule text a b spells_a spells_b = one-list (version_of text) (body text) a b spells_a.1 spells_b.1

place : (text : List ℕ) (n : ℕ) → AreGoodBefore text n → n - 1 - heading_lines text < length (body text)
place text n before = omega (arith, length-body text, before.behind, before.there)

-- the line at a number
line-at : (text : List ℕ) (n : ℕ) → AreGoodBefore text n → slice_get (body text) (n - 1 - heading_lines text) ≡ Some (get_or (body text) (n - 1 - heading_lines text) [])
line-at text n before = slice_get-get_or (body text) (n - 1 - heading_lines text) [] (place text n before)

pub bad-refuses : (text : List ℕ) (n : ℕ) (commands : List Command) → IsFirstBad text n → SpellsSchedule text commands → ⊥
bad-refuses text n commands bad spells =
    bad.bad (get_or (body text) (n - 1 - heading_lines text) []) (line-at text n bad.before)
    (spells-good (version_of text) (body text) commands spells.1 (n - 1 - heading_lines text) [] (place text n bad.before))

pub many-refuse : (text : List ℕ) (n : ℕ) (commands : List Command) → HasTooMany text n → SpellsSchedule text commands → ⊥
many-refuse text n commands many spells = omega (arith, many.before.there, many.first, spells.0)

-- where a text is refused
abbrev pub IsRefusedAt : List ℕ → ℕ → Type 0
IsRefusedAt text n = IsFirstBad text n ⊎ HasTooMany text n

good-of : (text : List ℕ) (n : ℕ) → IsRefusedAt text n → AreGoodBefore text n
good-of text n (inl bad) = bad.before
good-of text n (inr many) = many.before

within-of : (text : List ℕ) (n : ℕ) → IsRefusedAt text n → n ≤ line_limit (version_of text) + 1
within-of text n (inl bad) = omega (arith, bad.within)
within-of text n (inr many) = omega (arith, many.first)

not-later : (text : List ℕ) (m n : ℕ) → IsRefusedAt text m → IsRefusedAt text n → m < n → ⊥
not-later text m n (inr many) later less = omega (arith, many.first, within-of text n later)
not-later text m n (inl bad) later less =
    let after = good-of text n later in
    let h : ℕ = heading_lines text in
    let below : m - 1 - h < n - 1 - h = omega (arith, bad.before.behind) in
    let same = get_or-take (n - 1 - h) (body text) (m - 1 - h) [] below in
    let here = place text m bad.before in
    let taken : m - 1 - h < length (take (n - 1 - h) (body text)) = omega (arith, length-take (n - 1 - h) (body text), here, below) in
    bad.bad (get_or (body text) (m - 1 - h) []) (line-at text m bad.before) (subst (IsGoodLine (version_of text)) same (after.good (m - 1 - h) [] taken))

pub one-refusal : (text : List ℕ) (m n : ℕ) → IsRefusedAt text m → IsRefusedAt text n → m ≡ n
one-refusal text m n first second = elim (cases_order m n) [
  | inl same ↦ same
  | inr (inl less) ↦ absurd (not-later text m n first second less)
  | inr (inr more) ↦ absurd (not-later text n m second first more)
]
