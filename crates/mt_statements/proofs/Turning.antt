-- A loop does a turn and then the rest.
use Rattle.std.proofs.Common.{◌≡◌, ℕ, zero, suc, ◌-◌, ◌<◌, ◌≤◌, Option, Some, None, Bool, true, false, refl, ap, ◌∙◌, arith, ltb-true, ltb-false, nat_lt}
use Rattle.std.specs.Prelude.{if◌then◌else◌}
use Rattle.mt_eval_meaning.specs.Runs.{Ran, gives, leaves, and_then}
use Rattle.mt_eval_meaning.specs.State.{Eval}
use Rattle.mt_eval_meaning.specs.Statements.{followed, turns, turning}
use Rattle.mt_eval_meaning.specs.declared.completion.Completion.{Completion}
use Rattle.mt_eval_meaning.specs.declared.exit.Exit.{Exit}
use Rattle.mt_eval_meaning.specs.declared.exit.Exit.TheVariants as exit
use Rattle.mt_eval_meaning.specs.declared.exit.Stop.TheVariants as stop
use Rattle.mt_eval_meaning.specs.declared.state.State.{State}

module _ {K : Type 0} (one : Eval K (Option Completion)) where
  -- what follows a turn
  abbrev if_less : Bool → Ran (State × K) Completion → State × K → Ran (State × K) Completion
  if_less b next s = if b then next else leaves (exit.Stop stop.Budget) s

  -- any number of turns above the budget is enough
  guarded : (m n before : ℕ) (s : State × K) (b : Bool) → nat_lt s.0.budget before ≡ b → (s.0.budget < before → turns m one s ≡ turns n one s) → if_less b (turns m one s) s ≡ if_less b (turns n one s) s
  guarded m n before s true t rest = rest (ltb-true s.0.budget before t)
  guarded m n before s false t rest = refl

  enough_at : (m n before : ℕ) (r : Ran (State × K) (Option Completion)) → ((s : State × K) → s.0.budget < before → turns m one s ≡ turns n one s)
      → and_then r (λ c. followed before c (turns m one)) ≡ and_then r (λ c. followed before c (turns n one))
  enough_at m n before (gives None s) rest = guarded m n before s (nat_lt s.0.budget before) refl (rest s)
  enough_at m n before (gives (Some c) s) rest = refl
  enough_at m n before (leaves x s) rest = refl

  enough : (m n : ℕ) (s : State × K) → s.0.budget < m → s.0.budget < n → turns m one s ≡ turns n one s
  enough zero n s a b = absurd (omega arith)
  enough (suc m) zero s a b = absurd (omega arith)
  enough (suc m) (suc n) s a b = enough_at m n s.0.budget (one s) (λ s' less. enough m n s' (omega arith) (omega arith))

  under : (s s' : State × K) (b : Bool) → nat_lt s'.0.budget s.0.budget ≡ b → s'.0.budget < s.0.budget → if_less b (turns s.0.budget one s') s' ≡ turns (suc s'.0.budget) one s'
  under s s' true t less = enough s.0.budget (suc s'.0.budget) s' less (omega arith)
  under s s' false t less = absurd (let over = ltb-false s'.0.budget s.0.budget t in omega arith)

  over : (s s' : State × K) (b : Bool) → nat_lt s'.0.budget s.0.budget ≡ b → s.0.budget ≤ s'.0.budget → if_less b (turns s.0.budget one s') s' ≡ leaves (exit.Stop stop.Budget) s'
  over s s' true t more = absurd (let less = ltb-true s'.0.budget s.0.budget t in omega arith)
  over s s' false t more = refl

  pub turning_on : (s s' : State × K) → one s ≡ gives None s' → s'.0.budget < s.0.budget → turning one s ≡ turning one s'
  unfolding turning
  turning_on s s' e less = ap (λ r. and_then r (λ c. followed s.0.budget c (turns s.0.budget one))) e ∙ under s s' (nat_lt s'.0.budget s.0.budget) refl less

  pub turning_stuck : (s s' : State × K) → one s ≡ gives None s' → s.0.budget ≤ s'.0.budget → turning one s ≡ leaves (exit.Stop stop.Budget) s'
  unfolding turning
  turning_stuck s s' e more = ap (λ r. and_then r (λ c. followed s.0.budget c (turns s.0.budget one))) e ∙ over s s' (nat_lt s'.0.budget s.0.budget) refl more

  pub turning_over : (s s' : State × K) (c : Completion) → one s ≡ gives (Some c) s' → turning one s ≡ gives c s'
  unfolding turning
  turning_over s s' c e = ap (λ r. and_then r (λ o. followed s.0.budget o (turns s.0.budget one))) e

  pub turning_left : (s s' : State × K) (x : Exit) → one s ≡ leaves x s' → turning one s ≡ leaves x s'
  unfolding turning
  turning_left s s' x e = ap (λ r. and_then r (λ o. followed s.0.budget o (turns s.0.budget one))) e
