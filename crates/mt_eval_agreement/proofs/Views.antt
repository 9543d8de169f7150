-- How the states of one evaluation are seen by another, and evaluations that do the same on what is seen.
use Rattle.std.proofs.Common.{◌≡◌, ℕ, List, Bool, true, false, cond, refl, sym, ap, ◌∙◌, subst}
use Rattle.mt_eval_meaning.specs.States.{Numbered}
use Rattle.mt_eval_agreement.proofs.Keeps.{Keeps}
use Rattle.mt_eval_meaning.specs.Runs.{Ran, gives, leaves, Run, and_then}
use Rattle.mt_eval_meaning.specs.State.{Eval, on_state, with_budget, unmetered}
use Rattle.mt_eval_meaning.specs.declared.exit.Exit.{Exit}
use Rattle.mt_eval_meaning.specs.declared.state.State.{State}

-- steps may be grouped anew
pub regrouped : {S A B C : Type 0} (r : Ran S A) (f : A → Run S B) (g : B → Run S C) → and_then (and_then r f) g ≡ and_then r (λ a s. and_then (f a s) g)
regrouped (gives a s) f g = refl
regrouped (leaves e s) f g = refl

module _ {K L : Type 0} (see : State × K → State × L) (Fits : State × K → Type 0) where
  abbrev pub seen_run : {A : Type 0} → Ran (State × K) A → Ran (State × L) A
  seen_run (gives a s) = gives a (see s)
  seen_run (leaves x s) = leaves x (see s)

  abbrev pub FitsRan : {A : Type 0} → Ran (State × K) A → Type 0
  FitsRan (gives a s) = Fits s
  FitsRan (leaves x s) = Fits s

  pub record AgreesBy {A : Type 0} (r : Ran (State × K) A) (t : Ran (State × L) A) : Type 0 where
    pub same : t ≡ seen_run r
    pub good : FitsRan r

-- A view shows the budget, and steps on the state that keep the functions of the table do the same on what it shows.
pub record View (K L : Type 0) : Type 1 where
  pub table : List Numbered
  pub see : State × K → State × L
  pub Fits : State × K → Type 0
  pub steps : {A : Type 0} (m : Run State A) → Keeps table m → (s : State × K) → Fits s → AgreesBy see Fits (on_state m s) (on_state m (see s))
  pub budget : (s : State × K) → (see s).0.budget ≡ s.0.budget
  pub with_budget : (n : ℕ) (s : State × K) → see (record s.0 { budget = n }, s.1) ≡ (record (see s).0 { budget = n }, (see s).1)
  pub fits : (n : ℕ) (s : State × K) → Fits s → Fits (record s.0 { budget = n }, s.1)

module _ {K L : Type 0} (v : View K L) where
  abbrev pub Agrees : {A : Type 0} → Ran (State × K) A → Ran (State × L) A → Type 0
  Agrees r t = AgreesBy v.see v.Fits r t

  -- from each state that fits
  pub record Sim {A : Type 0} (m : Eval K A) (n : Eval L A) : Type 0 where
    pub run : (s : State × K) → v.Fits s → Agrees (m s) (n (v.see s))

  -- evaluations that do the same in each state
  pub sim_as : {A : Type 0} (m m' : Eval K A) (n n' : Eval L A) → ((s : State × K) → m s ≡ m' s) → ((s : State × L) → n s ≡ n' s) → Sim m' n' → Sim m n
  sim_as m m' n n' e f k = record { run = λ s good. subst (λ z. Agrees z (n (v.see s))) (sym (e s)) (subst (λ z. Agrees (m' s) z) (sym (f (v.see s))) (k.run s good)) }

  pub sim_pure : {A : Type 0} (a : A) → Sim (λ s. gives a s) (λ s. gives a s)
  sim_pure a = record { run = λ s h. record { same = refl; good = h } }

  pub sim_leave : {A : Type 0} (x : Exit) → Sim {A = A} (λ s. leaves x s) (λ s. leaves x s)
  sim_leave x = record { run = λ s h. record { same = refl; good = h } }

  pub bind_at : {A B : Type 0} (f : A → Eval K B) (g : A → Eval L B) (r : Ran (State × K) A) (t : Ran (State × L) A) → Agrees r t → ((a : A) → Sim (f a) (g a)) → Agrees (and_then r f) (and_then t g)
  bind_at f g (gives a s) t k h = subst (λ z. Agrees (f a s) (and_then z g)) (sym k.same) ((h a).run s k.good)
  bind_at f g (leaves x s) t k h = subst (λ z. Agrees (leaves x s) (and_then z g)) (sym k.same) (record { same = refl; good = k.good })

  pub sim_bind : {A B : Type 0} {m : Eval K A} {n : Eval L A} {f : A → Eval K B} {g : A → Eval L B} → Sim m n → ((a : A) → Sim (f a) (g a)) → Sim (λ s. and_then (m s) f) (λ s. and_then (n s) g)
  sim_bind {m = m} {n = n} {f = f} {g = g} k h = record { run = λ s good. bind_at f g (m s) (n (v.see s)) (k.run s good) h }

  pub sim_if : {A : Type 0} {m m' : Eval K A} {n n' : Eval L A} (b : Bool) → Sim m n → Sim m' n' → Sim (cond b m m') (cond b n n')
  sim_if true h k = h
  sim_if false h k = k

  pub sim_on_state : {A : Type 0} {m : Run State A} → Keeps v.table m → Sim (on_state m) (on_state m)
  sim_on_state {m = m} k = record { run = λ s good. v.steps m k s good }

  -- ---- evaluations that take no steps

  budget_at : {A : Type 0} (n : ℕ) (r : Ran (State × K) A) (t : Ran (State × L) A) → Agrees r t → Agrees (with_budget n r) (with_budget n t)
  budget_at n (gives a s) t k = record { same = ap (with_budget n) k.same ∙ ap (λ z. gives a z) (sym (v.with_budget n s)); good = v.fits n s k.good }
  budget_at n (leaves x s) t k = record { same = ap (with_budget n) k.same ∙ ap (λ z. leaves x z) (sym (v.with_budget n s)); good = v.fits n s k.good }

  pub sim_unmetered : {A : Type 0} {m : Eval K A} {n : Eval L A} → Sim m n → Sim (unmetered m) (unmetered n)
  unfolding unmetered
  sim_unmetered {m = m} {n = n} k = record {
    run = λ s good.
        let free : State × K = (record s.0 { budget = 18446744073709551615 }, s.1) in
        let inner : Agrees (m free) (n (record (v.see s).0 { budget = 18446744073709551615 }, (v.see s).1)) =
        subst (λ z. Agrees (m free) (n z)) (v.with_budget 18446744073709551615 s) (k.run free (v.fits 18446744073709551615 s good)) in
        subst (λ b. Agrees (with_budget s.0.budget (m free)) (with_budget b (n (record (v.see s).0 { budget = 18446744073709551615 }, (v.see s).1)))) (sym (v.budget s))
        (budget_at s.0.budget (m free) (n (record (v.see s).0 { budget = 18446744073709551615 }, (v.see s).1)) inner);
  }
