-- The forms of statements, over parts that agree.
use Rattle.std.proofs.Common.{ℕ, zero, suc, nat_lt, List, Option, Some, None, Bool, true, false, cond, refl, sym, subst}
use Rattle.mt_eval_agreement.proofs.Forms.{AllSim, none, one}
use Rattle.mt_eval_agreement.proofs.Views.{View, Agrees, Sim, bind_at, sim_pure, sim_leave, sim_bind, sim_if}
use Rattle.mt_eval_meaning.specs.Runs.{Ran, gives, leaves, and_then, caught}
use Rattle.mt_eval_meaning.specs.State.{Eval}
use Rattle.mt_eval_meaning.specs.Statements as forms
use Rattle.mt_eval_meaning.specs.Statements.{on_normal, after_body, followed, turns}
use Rattle.mt_eval_meaning.specs.declared.completion.Completion.{Completion}
use Rattle.mt_eval_meaning.specs.declared.completion.Completion.TheVariants as completion
use Rattle.mt_eval_meaning.specs.declared.exit.Exit.TheVariants as exit
use Rattle.mt_eval_meaning.specs.declared.exit.Stop.TheVariants as stop
use Rattle.mt_eval_meaning.specs.declared.state.State.{State}
use Rattle.mt_ops.specs.Operators.{is_truthy}
use Rattle.mt_value.specs.declared.value.Value.{Value}

module _ {K L : Type 0} (through : View K L) where
  pub sim_expression : {a : Eval K Value} {b : Eval L Value} → Sim through a b → Sim through (forms.expression a) (forms.expression b)
  unfolding forms.expression
  sim_expression k = sim_bind through k (λ v. sim_pure through completion.Normal)

  pub sim_finished : {a : Eval K (Unit {0})} {b : Eval L (Unit {0})} → Sim through a b → Sim through (forms.finished a) (forms.finished b)
  unfolding forms.finished
  sim_finished k = sim_bind through k (λ _. sim_pure through completion.Normal)

  pub sim_given_back : {a : Eval K Value} {b : Eval L Value} → Sim through a b → Sim through (forms.given_back a) (forms.given_back b)
  unfolding forms.given_back
  sim_given_back k = sim_bind through k (λ v. sim_pure through (completion.Return v))

  pub sim_thrown : {a : Eval K Value} {b : Eval L Value} → Sim through a b → Sim through (forms.thrown a) (forms.thrown b)
  unfolding forms.thrown
  sim_thrown k = sim_bind through k (λ v. sim_leave through (exit.Throw v))

  sim_on_normal : {m : Eval K Completion} {n : Eval L Completion} (c : Completion) → Sim through m n → Sim through (on_normal c m) (on_normal c n)
  sim_on_normal completion.Normal k = k
  sim_on_normal completion.Break k = sim_pure through completion.Break
  sim_on_normal completion.Continue k = sim_pure through completion.Continue
  sim_on_normal (completion.Return v) k = sim_pure through (completion.Return v)

  pub sim_sequence : {ms : List (Eval K Completion)} {ns : List (Eval L Completion)} → AllSim through ms ns → Sim through (forms.sequence ms) (forms.sequence ns)
  sim_sequence none = sim_pure through completion.Normal
  sim_sequence (one k ks) = sim_bind through k (λ c. sim_on_normal c (sim_sequence ks))

  pub sim_choice : {t : Eval K Value} {u : Eval L Value} {a c : Eval K Completion} {b d : Eval L Completion} → Sim through t u → Sim through a b → Sim through c d → Sim through (forms.choice t a c) (forms.choice u b d)
  unfolding forms.choice
  sim_choice j k l = sim_bind through j (λ v. sim_if through (is_truthy v) k l)

  -- ---- loops

  sim_after_body : {m : Eval K (Unit {0})} {n : Eval L (Unit {0})} (c : Completion) → Sim through m n → Sim through (after_body m c) (after_body n c)
  sim_after_body completion.Normal k = sim_bind through k (λ _. sim_pure through None)
  sim_after_body completion.Continue k = sim_bind through k (λ _. sim_pure through None)
  sim_after_body completion.Break k = sim_pure through (Some completion.Normal)
  sim_after_body (completion.Return v) k = sim_pure through (Some (completion.Return v))

  sim_turn_body : {a : Eval K Completion} {b : Eval L Completion} {m : Eval K (Unit {0})} {n : Eval L (Unit {0})} → Sim through a b → Sim through m n → Sim through (forms.turn_body a m) (forms.turn_body b n)
  unfolding forms.turn_body
  sim_turn_body k l = sim_bind through k (λ c. sim_after_body c l)

  sim_turn : {t : Eval K Value} {u : Eval L Value} {a : Eval K Completion} {b : Eval L Completion} {m : Eval K (Unit {0})} {n : Eval L (Unit {0})}
      → Sim through t u → Sim through a b → Sim through m n → Sim through (forms.turn t a m) (forms.turn u b n)
  unfolding forms.turn
  sim_turn j k l = sim_bind through j (λ v. sim_if through (is_truthy v) (sim_turn_body k l) (sim_pure through (Some completion.Normal)))

  next_at : (b : Bool) (m : Eval K Completion) (n : Eval L Completion) (s : State × K) → through.Fits s → Sim through m n
      → Agrees through (cond {A = Ran (State × K) Completion} b (m s) (leaves (exit.Stop stop.Budget) s)) (cond {A = Ran (State × L) Completion} b (n (through.see s)) (leaves (exit.Stop stop.Budget) (through.see s)))
  next_at true m n s good k = k.run s good
  next_at false m n s good k = (sim_leave through (exit.Stop stop.Budget)).run s good

  sim_followed : {m : Eval K Completion} {n : Eval L Completion} (before : ℕ) (c : Option Completion) → Sim through m n → Sim through (followed before c m) (followed before c n)
  sim_followed {m = m} {n = n} before None k = record {
    run = λ s good.
        subst (λ (z : ℕ). Agrees through (cond {A = Ran (State × K) Completion} (nat_lt s.0.budget before) (m s) (leaves (exit.Stop stop.Budget) s)) (cond {A = Ran (State × L) Completion} (nat_lt z before) (n (through.see s)) (leaves (exit.Stop stop.Budget) (through.see s))))
        (sym (through.budget s)) (next_at (nat_lt s.0.budget before) m n s good k);
  }
  sim_followed before (Some c) k = sim_pure through c

  sim_turns : {a : Eval K (Option Completion)} {b : Eval L (Option Completion)} (most : ℕ) → Sim through a b → Sim through (turns most a) (turns most b)
  sim_turns zero k = sim_leave through (exit.Stop stop.Budget)
  sim_turns {a = a} {b = b} (suc most) k = record {
    run = λ s good.
        subst (λ (z : ℕ). Agrees through (and_then (a s) (λ c. followed s.0.budget c (turns most a))) (and_then (b (through.see s)) (λ c. followed z c (turns most b)))) (sym (through.budget s))
        (bind_at through (λ c. followed s.0.budget c (turns most a)) (λ c. followed s.0.budget c (turns most b)) (a s) (b (through.see s)) (k.run s good) (λ c. sim_followed s.0.budget c (sim_turns most k)));
  }

  sim_turning : {a : Eval K (Option Completion)} {b : Eval L (Option Completion)} → Sim through a b → Sim through (forms.turning a) (forms.turning b)
  unfolding forms.turning
  sim_turning {a = a} {b = b} k = record {
    run = λ s good. subst (λ (z : ℕ). Agrees through (turns (suc s.0.budget) a s) (turns (suc z) b (through.see s))) (sym (through.budget s)) ((sim_turns (suc s.0.budget) k).run s good);
  }

  pub sim_loop : {t : Eval K Value} {u : Eval L Value} {a : Eval K Completion} {b : Eval L Completion} {m : Eval K (Unit {0})} {n : Eval L (Unit {0})}
      → Sim through t u → Sim through a b → Sim through m n → Sim through (forms.loop t a m) (forms.loop u b n)
  sim_loop j k l = sim_turning (sim_turn j k l)

  pub sim_starting : {m : Eval K (Unit {0})} {n : Eval L (Unit {0})} {a : Eval K Completion} {b : Eval L Completion} → Sim through m n → Sim through a b → Sim through (forms.starting m a) (forms.starting n b)
  unfolding forms.starting
  sim_starting k l = sim_bind through k (λ _. l)

  -- ---- throws

  caught_at : (f : Value → Eval K Completion) (g : Value → Eval L Completion) (r : Ran (State × K) Completion) (t : Ran (State × L) Completion) → Agrees through r t → ((v : Value) → Sim through (f v) (g v)) → Agrees through (caught r f) (caught t g)
  caught_at f g (gives c s) t k h = subst (λ z. Agrees through (gives c s) (caught z g)) (sym k.same) (record { same = refl; good = k.good })
  caught_at f g (leaves exit.NoMemory s) t k h = subst (λ z. Agrees through (leaves exit.NoMemory s) (caught z g)) (sym k.same) (record { same = refl; good = k.good })
  caught_at f g (leaves (exit.Throw v) s) t k h = subst (λ z. Agrees through (f v s) (caught z g)) (sym k.same) ((h v).run s k.good)
  caught_at f g (leaves (exit.Stop w) s) t k h = subst (λ z. Agrees through (leaves (exit.Stop w) s) (caught z g)) (sym k.same) (record { same = refl; good = k.good })

  pub sim_attempt : {a : Eval K Completion} {b : Eval L Completion} {f : Value → Eval K Completion} {g : Value → Eval L Completion} → Sim through a b → ((v : Value) → Sim through (f v) (g v)) → Sim through (forms.attempt a f) (forms.attempt b g)
  unfolding forms.attempt
  sim_attempt {a = a} {b = b} {f = f} {g = g} k h = record { run = λ s good. caught_at f g (a s) (b (through.see s)) (k.run s good) h }
