-- Steps that are more than any budget.
use Rattle.std.proofs.Common.{◌≡◌, ℕ, suc, ◌-◌, ◌^◌, ◌<◌, ◌≤◌, Bool, true, false, if◌then◌else◌, nat_lt, ltb-true, ltb-false, ap, ◌∙◌, sym, refl, arith}
use Rattle.std.proofs.Math.Nat.{min-eq_left, min-eq_right}
use Rattle.mt_eval_meaning.specs.Runs.{Ran, gives, leaves}
use Rattle.mt_eval_meaning.specs.State.{spend}
use Rattle.mt_eval_meaning.specs.declared.exit.Exit.TheVariants as exit
use Rattle.mt_eval_meaning.specs.declared.exit.Stop.TheVariants as stop
use Rattle.mt_eval_meaning.specs.declared.state.State.{State}
use Rattle.mt_ops_methods.specs.Costs.{counted}

abbrev taken_if : Bool → ℕ → State → Ran State (Unit {0})
taken_if b m s = if b then gives tt (record s { budget = s.budget - suc m }) else leaves (exit.Stop stop.Budget) s

module _ (s : State) (small : s.budget < 2 ^ 64) where
  too_many : (m : ℕ) → s.budget ≤ m → spend m s ≡ leaves (exit.Stop stop.Budget) s
  unfolding spend
  too_many m over = by_test (nat_lt m s.budget) refl
    where
      by_test : (b : Bool) → nat_lt m s.budget ≡ b → taken_if b m s ≡ leaves (exit.Stop stop.Budget) s
      by_test true t = absurd (let under = ltb-true m s.budget t in omega arith)
      by_test false t = refl

  -- a count that was cut at the greatest number takes the same steps
  as_spent : (n : ℕ) → spend (counted n) s ≡ spend n s
  as_spent n = by_size (nat_lt n (2 ^ 64)) refl
    where
      by_size : (b : Bool) → nat_lt n (2 ^ 64) ≡ b → spend (counted n) s ≡ spend n s
      by_size true t = let under = ltb-true n (2 ^ 64) t in ap (λ m. spend m s) (min-eq_left {n = n} {m = 2 ^ 64 - 1} (omega arith))
      by_size false t =
          let over = ltb-false n (2 ^ 64) t in
          ap (λ m. spend m s) (min-eq_right {n = 2 ^ 64 - 1} {m = n} (omega arith)) ∙ too_many (2 ^ 64 - 1) (omega arith) ∙ sym (too_many n (omega arith))

-- so does any number that is that count
pub spent : (s : State) (n more : ℕ) → s.budget < 2 ^ 64 → more ≡ counted n → spend more s ≡ spend n s
spent s n more small is = ap (λ m. spend m s) is ∙ as_spent s small n
