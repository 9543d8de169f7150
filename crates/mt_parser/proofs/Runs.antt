-- What a push and a pop do to the levels of the trees that are still to come.
use Rattle.std.proofs.Common.{◌≡◌, ◌++◌, ◌∷◌, [], ℕ, zero, suc, ◌+◌, ◌-◌, ◌<◌, List, Option, Some, None, MatchOption, length, option_to_list, replicate, reverse, arith, refl, ap, sym, ◌∙◌}
use Rattle.std.proofs.lemmas.List.{reverse-append}
use Rattle.mt_parser.specs.declared.levels.Run.{Run}
use Rattle.mt_parser.specs.Levels.{flattened, levels_of, first_level, later_levels, IsPopped}

pushed : (old new : List Run) (run : Run) → new ≡ old ++ run ∷ [] → levels_of new ≡ run.level ∷ replicate run.more run.level ++ levels_of old
unfolding levels_of
pushed old new run e = ap (λ rs. flattened (reverse rs)) e ∙ ap flattened (reverse-append old (run ∷ []))

counted : (l n : ℕ) (ls : List ℕ) → 0 < n → l ∷ replicate (n - 1) l ++ ls ≡ replicate n l ++ ls
counted l zero ls h = absurd (omega (arith, h))
counted l (suc n) ls h = let less : suc n - 1 ≡ n = omega (arith) in ap (λ m. l ∷ replicate m l ++ ls) less

pub added : (old new : List Run) (l n m : ℕ) → 0 < n → m ≡ n - 1 → new ≡ old ++ (record { level = l; more = m }) ∷ [] → levels_of new ≡ replicate n l ++ levels_of old
added old new l n m h e items = pushed old new _ items ∙ ap (λ k. l ∷ replicate k l ++ levels_of old) e ∙ counted l n (levels_of old) h

empty : (runs : List Run) → length runs ≡ 0 → runs ≡ []
empty [] e = refl
empty (run ∷ runs) e = absurd (omega (arith, e))

pub popped : (r : Option Run) (old new : List Run) (n m : ℕ) → old ≡ new ++ option_to_list r → length old ≡ n → length new ≡ m → MatchOption r ((n ≡ 0) × (m ≡ 0)) (λ x. m + 1 ≡ n) → IsPopped r (levels_of old) (levels_of new)
unfolding levels_of
popped None old new n m e l k h = (ap levels_of (empty old (l ∙ h.0)), ap levels_of (empty new (k ∙ h.1)))
popped (Some run) old new n m e l k h = pushed new old run e

pub first_popped : (top : ℕ) (run : Run) (old new : List ℕ) → old ≡ run.level ∷ replicate run.more run.level ++ new → run.level ≡ first_level top old
first_popped top run old new h = sym (ap (first_level top) h)

pub later_popped : (run : Run) (old new : List ℕ) → old ≡ run.level ∷ replicate run.more run.level ++ new → replicate run.more run.level ++ new ≡ later_levels old
later_popped run old new h = sym (ap later_levels h)
