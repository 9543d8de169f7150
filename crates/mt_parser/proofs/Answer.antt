-- Tokens have one answer.
use Rattle.std.proofs.Common.{◌≡◌, ℕ, zero, suc, ◌+◌, ◌<◌, ◌≤◌, [], ◌∷◌, ◌++◌, Some, None, Result, Ok, Err, take, drop, arith, refl, sym, ap, subst, ◌∙◌}
use Rattle.std.proofs.lemmas.List.{append_assoc, take-append-drop}
use Rattle.mt_tree.specs.declared.place.Place.{Place}
use Rattle.mt_grammar.specs.Token.{Tokens}
use Rattle.mt_grammar.specs.Grammar.{IsProgram}
use Rattle.mt_grammar.specs.Continues.{BeginsProgram}
use Rattle.mt_grammar.specs.Depth.{too_deep_at}
use Rattle.mt_grammar.proofs.Unique.{unique}
use Rattle.mt_parser_machine.specs.Refused.{IsOffending}
use Rattle.mt_syntax.specs.declared.program.Program.{Program}
use Rattle.mt_parser_builder.specs.Program.{program_of}
use Rattle.mt_parser.specs.declared.refusal.ParseRefusal.{ParseRefusal}
use Rattle.mt_parser.specs.declared.refusal.ParseRefusal.TheVariants.{Syntax, TooDeep, NoMemory}
use Rattle.mt_parser.specs.Parsing.{Answers, IsAnswer, place_or}
use Rattle.mt_tree.specs.Limits.{depth_limit}

take_front : (n m : ℕ) (ts : Tokens) → n ≤ m → take n (take m ts) ≡ take n ts
take_front zero m ts h = refl
take_front (suc n) zero ts h = absurd (omega (arith, h))
take_front (suc n) (suc m) [] h = refl
take_front (suc n) (suc m) (t ∷ ts) h = ap (λ l. t ∷ l) (take_front n m ts (omega (arith, h)))

-- a front of a front begins a program where the longer one does
shorter_begins : (ts : Tokens) (n m : ℕ) → n ≤ m → BeginsProgram (take m ts) → BeginsProgram (take n ts)
shorter_begins ts n m h (more, ss, d) =
    let front : take n (take m ts) ≡ take n ts = take_front n m ts h in
    let parts : take n ts ++ (drop n (take m ts) ++ more) ≡ take m ts ++ more =
    sym (append_assoc (take n ts) (drop n (take m ts)) more) ∙ ap (λ l. l ++ drop n (take m ts) ++ more) (sym front) ∙ ap (λ l. l ++ more) (take-append-drop n (take m ts)) in
    (drop n (take m ts) ++ more, ss, subst (λ (l : Tokens). IsProgram l ss) (sym parts) d)

not_before : (ts : Tokens) (i j : ℕ) → IsOffending ts i → IsOffending ts j → i < j → ⊥
not_before ts i j p q h = p.3 (omega (arith, h, q.1)) (shorter_begins ts (i + 1) j (omega (arith, h)) q.2)

one_offending : (ts : Tokens) (i j : ℕ) → IsOffending ts i → IsOffending ts j → i ≡ j
one_offending ts i j p q = omega (arith, not_before ts i j p q, not_before ts j i q p)

pub one_answer : (ts : Tokens) (end : Place) (a b : Result Program ParseRefusal) → IsAnswer a → IsAnswer b → Answers ts end a → Answers ts end b → a ≡ b
one_answer ts end (Ok p) (Ok q) f g (ss, d, deep, e) (us, d', deep', e') = ap Ok (e ∙ ap program_of (unique ts ss us d d') ∙ sym e')
one_answer ts end (Ok p) (Err (TooDeep place)) f g (ss, d, deep, e) (us, d', deep') =
    absurd (let same : None ≡ Some place = sym deep ∙ ap (too_deep_at depth_limit) (unique ts ss us d d') ∙ deep' in cc)
one_answer ts end (Ok p) (Err (Syntax place)) f g (ss, d, deep, e) (i, o, e') = absurd (o.0 ss d)
one_answer ts end (Err (TooDeep place)) (Ok q) f g (ss, d, deep) (us, d', deep', e') =
    absurd (let same : Some place ≡ None = sym deep ∙ ap (too_deep_at depth_limit) (unique ts ss us d d') ∙ deep' in cc)
one_answer ts end (Err (TooDeep place)) (Err (TooDeep other)) f g (ss, d, deep) (us, d', deep') =
    let same : Some place ≡ Some other = sym deep ∙ ap (too_deep_at depth_limit) (unique ts ss us d d') ∙ deep' in cc
one_answer ts end (Err (TooDeep place)) (Err (Syntax other)) f g (ss, d, deep) (i, o, e') = absurd (o.0 ss d)
one_answer ts end (Err (Syntax place)) (Ok q) f g (i, o, e) (us, d', deep', e') = absurd (o.0 us d')
one_answer ts end (Err (Syntax place)) (Err (TooDeep other)) f g (i, o, e) (us, d', deep') = absurd (o.0 us d')
one_answer ts end (Err (Syntax place)) (Err (Syntax other)) f g (i, o, e) (j, o', e') =
    ap (λ p. Err (Syntax p)) (e ∙ ap (λ n. place_or end (drop n ts)) (one_offending ts i j o o') ∙ sym e')
one_answer ts end (Err NoMemory) b f g h k = absurd f
one_answer ts end a (Err NoMemory) f g h k = absurd g
