-- Functions that keep what is free in them, seen from functions that keep their whole environments.
use Rattle.std.proofs.Common.{◌≡◌, List, [], ◌∷◌, ◌++◌, length, map, refl, sym, ap}
use Rattle.std.proofs.lemmas.List.{map-append}
use Rattle.mt_eval_meaning.specs.States.{trim, trim_closure}
use Rattle.mt_eval_agreement.proofs.Views.{FitsRan, seen_run, View, Sim}
use Rattle.mt_eval_meaning.specs.Entering.{Closure, Closures, Named, capture}
use Rattle.mt_eval_meaning.specs.Evaluation.{beside_closures, on_host}
use Rattle.mt_eval_meaning.specs.Host.{blank}
use Rattle.mt_eval_meaning.specs.Runs.{Ran, gives, leaves}
use Rattle.mt_eval_meaning.specs.State.{Eval, on_state, beside}
use Rattle.mt_eval_meaning.specs.declared.state.State.{State}
use Rattle.mt_syntax.specs.declared.program.Tilde.{Tilde}

module _ {H : Type 0} (tildes : List Tilde) where
  abbrev pub trim_named : Named H → Named H
  trim_named n = record n { closures = map (λ c. (c.0, trim_closure tildes c.1)) n.closures }

  pub fits : {A : Type 0} (r : Ran (State × Named H) A) → FitsRan (trim tildes) (λ s. Unit {0}) r
  fits (gives a s) = tt
  fits (leaves x s) = tt

  pub steps_at : {A : Type 0} (n : Named H) (r : Ran State A) → beside (trim_named n) r ≡ seen_run (trim tildes) (λ s. Unit {0}) (beside n r)
  steps_at n (gives a s) = refl
  steps_at n (leaves x s) = refl

  abbrev pub trim_view : View (Named H) (Named H)
  trim_view = record {
    table = [];
    see = trim tildes;
    Fits = λ s. Unit {0};
    steps = λ m k s good. record { same = steps_at s.1 (m s.0); good = fits (on_state m s) };
    budget = λ s. refl;
    with_budget = λ n s. refl;
    fits = λ n s good. tt;
  }

  host_at : {A : Type 0} (n : Named H) (r : Ran (State × H) A) → beside_closures (trim_named n) r ≡ seen_run (trim tildes) (λ s. Unit {0}) (beside_closures n r)
  host_at n (gives a s) = refl
  host_at n (leaves x s) = refl

  pub same_on_host : {A : Type 0} (p : Eval H A) → Sim trim_view (on_host p) (on_host p)
  same_on_host p = record { run = λ s good. record { same = host_at s.1 (p (s.0, s.1.host)); good = fits (on_host p s) } }

  -- a new function that keeps its whole environment, beside one that keeps what is free in it
  pub same_capture : (c : Closure) → Sim trim_view (capture c) (capture (trim_closure tildes c))
  unfolding capture
  same_capture c = record {
    run = λ s good. record {
      same = ap (λ (cs : Closures). gives (length s.0.store) (record s.0 { store = s.0.store ++ blank ∷ [] }, record s.1 { closures = cs })) (sym (map-append (λ c. (c.0, trim_closure tildes c.1)) s.1.closures ((length s.0.store, c) ∷ [])));
      good = tt;
    };
  }
