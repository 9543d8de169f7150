-- The laws on whole environments, from those on functions that keep what is free in them.
use Rattle.std.proofs.Common.{◌≡◌, List, [], Result, Ok, Err, refl, sym, ap, ◌∙◌, subst}
use Rattle.mt_eval_meaning.specs.Agreement.{EndsAs, EvalsAs, EvaluatesAs, SameTrimmed, without_functions}
use Rattle.mt_eval_meaning.specs.States.{Numbered, trim, trimmed}
use Rattle.mt_eval_agreement.proofs.Shown.{view, IsGood}
use Rattle.mt_eval_meaning.specs.Stores.{StateStands}
use Rattle.mt_eval_agreement.proofs.Sim.{slots_view}
use Rattle.mt_eval_agreement.proofs.Standing.{good_of, shown_of, stands_by}
use Rattle.mt_eval_agreement.proofs.Views.{FitsRan, seen_run, Sim}
use Rattle.mt_eval_meaning.specs.Entering.{Named}
use Rattle.mt_eval_meaning.specs.Host.{seen}
use Rattle.mt_eval_meaning.specs.Runs.{Ran, gives, leaves, Evals}
use Rattle.mt_eval_meaning.specs.State.{Eval}
use Rattle.mt_eval_meaning.specs.declared.exit.Exit.{Exit}
use Rattle.mt_eval_meaning.specs.declared.state.State.{State}
use Rattle.mt_syntax.specs.declared.program.Tilde.{Tilde}
use Rattle.mt_value.specs.declared.cell.Cell.{Cell}

module _ {H : Type 0} (tildes : List Tilde) (table : List Numbered) where
  -- ---- on an empty store

  start_by : (t : State) (h : H) (cells : List Cell) → cells ≡ [] → StateStands tildes table (record t { store = cells }, h) (without_functions (record t { store = cells }, h))
  start_by t h cells e =
      subst (λ (xs : List Cell). StateStands tildes table (record t { store = xs }, h) (without_functions (record t { store = xs }, h))) (sym e)
      (record { store = record { cells = refl; functions = tt }; globals = refl; budget = refl; host = refl })

  pub starts : (s : State × H) → s.0.store ≡ [] → StateStands tildes table s (without_functions s)
  starts s e = start_by s.0 s.1 s.0.store e

  pub state_shown : (s : State × H) (n : State × Named H) → StateStands tildes table s n → ◌≡◌ {A = State × H} (n.0, n.1.host) (record s.0 { store = seen s.0.store }, s.1)
  state_shown s n stands = ap (λ (x : State × Named H). (x.0, x.1.host)) (shown_of tildes table s n stands)

  module _ {A : Type 0} where
    -- the run by names, by how the one on slots ends
    ends_at : (r : Ran (State × Named H) A) (t : Ran (State × H) A) → trimmed tildes r ≡ seen_run (view table) (λ s. IsGood table s.0.store) t → FitsRan (view table) (λ s. IsGood table s.0.store) t → EndsAs tildes table r t
    ends_at (gives b n) (gives a s) e good =
        let same : b ≡ a = cc in
        let shows : trim tildes n ≡ view table s = cc in
        (n, ap (λ x. gives x n) same, stands_by tildes table s n good shows)
    ends_at (leaves x n) (leaves y s) e good =
        let same : x ≡ y = cc in
        let shows : trim tildes n ≡ view table s = cc in
        (n, ap (λ z. leaves z n) same, stands_by tildes table s n good shows)
    ends_at (gives b n) (leaves y s) e good = cc
    ends_at (leaves x n) (gives a s) e good = cc

    -- `q` keeps whole environments and `k` what is free
    pub evaluates_as : (p : Eval H A) (q k : Eval (Named H) A) → SameTrimmed tildes q k → Sim (slots_view table) p k → EvaluatesAs tildes table p q
    evaluates_as p q k law sim = record {
      ends = λ s n stands.
          let both = sim.run s (good_of tildes table s n stands) in
          ends_at (q n) (p s) (sym (law n) ∙ ap k (shown_of tildes table s n stands) ∙ both.same) both.good;
    }

    -- ---- for code that did what is meant on slots

    pub evals_as : (p : Eval H A) (q : Eval (Named H) A) → EvaluatesAs tildes table p q → (s : State × H) (n : State × Named H) → StateStands tildes table s n → (result : Result A Exit) (new : State × H) → Evals (p s) result new → EvalsAs tildes table (q n) result new
    evals_as p q law s n stands (Ok a) new did = subst (λ (r : Ran (State × H) A). EndsAs tildes table (q n) r) did (law.ends s n stands)
    evals_as p q law s n stands (Err e) new did = λ other. subst (λ (r : Ran (State × H) A). EndsAs tildes table (q n) r) (did other) (law.ends s n stands)
