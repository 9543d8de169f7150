-- What a state on slots shows of itself by names, and the calls of a host on both.
use Rattle.std.proofs.Common.{◌≡◌, List, [], ◌∷◌, ◌++◌, map, min, refl, sym, ap, ap₂, ◌∙◌, subst}
use Rattle.std.proofs.Common.{append_assoc}
use Rattle.std.proofs.lemmas.List.{append-nil}
use Rattle.mt_eval_meaning.specs.States.{Numbered}
use Rattle.mt_eval_agreement.proofs.Shown.{closures_from, view, IsGood}
use Rattle.mt_eval_agreement.proofs.Keeps.{KeepsAt, seen_state}
use Rattle.mt_eval_agreement.proofs.Views.{AgreesBy, View, Agrees, Sim}
use Rattle.mt_eval_agreement.proofs.Stores.{IsPlain, seen_plain, SameFunctions, same_functions, functions_both, functions_added}
use Rattle.mt_eval_meaning.specs.Entering.{Named, Closures}
use Rattle.mt_eval_meaning.specs.Evaluation.{beside_closures, on_host}
use Rattle.mt_eval_meaning.specs.Host.{Added, added_cell, Answer, Answering, seen, seen_cell, does, done_ran}
use Rattle.mt_eval_meaning.specs.Runs.{Ran, gives, leaves}
use Rattle.mt_eval_meaning.specs.State.{beside}
use Rattle.mt_eval_meaning.specs.declared.exit.Done.{Done}
use Rattle.mt_eval_meaning.specs.declared.exit.Done.TheVariants as done
use Rattle.mt_eval_meaning.specs.declared.exit.Exit.TheVariants as exit
use Rattle.mt_eval_meaning.specs.declared.state.State.{State}
use Rattle.mt_value.specs.declared.cell.Cell.{Cell}
use Rattle.mt_value.specs.declared.cell.Cell.TheVariants as cell

seen_twice : (store : List Cell) → seen (seen store) ≡ seen store
seen_twice [] = refl
seen_twice (c ∷ store) = ap₂ (λ d (ds : List Cell). d ∷ ds) (once c) (seen_twice store)
  where
    once : (c : Cell) → seen_cell (seen_cell c) ≡ seen_cell c
    once (cell.Fun f) = refl
    once (cell.Variable v) = refl
    once (cell.Arr items) = refl
    once (cell.Obj properties) = refl
    once (cell.Frame f) = refl
    once (cell.Html h) = refl
    once (cell.Code c) = refl

added_plain : (a : Added) → IsPlain (added_cell a)
added_plain (Added.array items) = tt
added_plain (Added.object properties) = tt
added_plain (Added.frame f) = tt
added_plain (Added.html h) = tt
added_plain (Added.code c) = tt

seen_all_added : (store : List Cell) (more : List Added) → seen (store ++ map added_cell more) ≡ seen store ++ map added_cell more
seen_all_added (c ∷ store) more = ap (λ (ds : List Cell). seen_cell c ∷ ds) (seen_all_added store more)
seen_all_added [] [] = refl
seen_all_added [] (a ∷ more) = ap₂ (λ d (ds : List Cell). d ∷ ds) (seen_plain (added_cell a) (added_plain a)) (seen_all_added [] more)

module _ (table : List Numbered) where
  functions_all_added : (store : List Cell) (more : List Added) → SameFunctions table store (store ++ map added_cell more)
  functions_all_added store [] = subst (λ (z : List Cell). SameFunctions table store z) (sym (append-nil store)) (same_functions table store)
  functions_all_added store (a ∷ more) =
      let first = functions_added table store (added_cell a) (added_plain a) in
      let rest = functions_all_added (store ++ added_cell a ∷ []) more in
      functions_both table store (store ++ added_cell a ∷ []) (store ++ map added_cell (a ∷ more)) first (subst (λ (z : List Cell). SameFunctions table (store ++ added_cell a ∷ []) z) (append_assoc store (added_cell a ∷ []) (map added_cell more)) rest)

module _ {H : Type 0} (table : List Numbered) where
  -- ---- steps on the state alone

  pub state_at : {A : Type 0} (host : H) (s : State) (r q : Ran State A) → KeepsAt table s r q → IsGood table s.store → AgreesBy (view table) (λ s. IsGood table s.0.store) (beside host r) (beside (record { host = host; closures = closures_from table 0 s.store }) q)
  state_at host s (gives a t) q k good = record {
    same = ap (beside (record { host = host; closures = closures_from table 0 s.store })) k.same ∙ ap (λ (cs : Closures). gives a (seen_state t, record { host = host; closures = cs })) (sym (k.functions.closures 0));
    good = k.functions.good good;
  }
  state_at host s (leaves e t) q k good = record {
    same = ap (beside (record { host = host; closures = closures_from table 0 s.store })) k.same ∙ ap (λ (cs : Closures). leaves e (seen_state t, record { host = host; closures = cs })) (sym (k.functions.closures 0));
    good = k.functions.good good;
  }

  abbrev pub slots_view : View H (Named H)
  slots_view = record {
    table = table;
    see = view table;
    Fits = λ s. IsGood table s.0.store;
    steps = λ m k s good. state_at s.1 s.0 (m s.0) (m (seen_state s.0)) (k.run s.0) good;
    budget = λ s. refl;
    with_budget = λ n s. refl;
    fits = λ n s good. good;
  }

  -- ---- calls of the host

  done_at : (o : Done) (n : Named H) (t : State × H) (x : State) (h : H) → (x, record n { host = h }) ≡ view table t → IsGood table t.0.store → Agrees slots_view (done_ran o t) (beside_closures n (done_ran o (x, h)))
  done_at (done.Value v) n t x h e good = record { same = ap (λ z. gives v z) e; good = good }
  done_at (done.Throw v) n t x h e good = record { same = ap (λ z. leaves (exit.Throw v) z) e; good = good }
  done_at (done.Stop w) n t x h e good = record { same = ap (λ z. leaves (exit.Stop w) z) e; good = good }

  host_at : (a : Answer H) (s : State × H) → IsGood table s.0.store
      → Agrees slots_view (done_ran a.outcome (record s.0 { store = s.0.store ++ map added_cell a.added; budget = min a.budget s.0.budget }, a.host))
      (beside_closures (record { host = s.1; closures = closures_from table 0 s.0.store }) (done_ran a.outcome (record s.0 { store = seen s.0.store ++ map added_cell a.added; budget = min a.budget s.0.budget }, a.host)))
  host_at a s good =
      let functions = functions_all_added table s.0.store a.added in
      done_at a.outcome (record { host = s.1; closures = closures_from table 0 s.0.store }) (record s.0 { store = s.0.store ++ map added_cell a.added; budget = min a.budget s.0.budget }, a.host)
      (record s.0 { store = seen s.0.store ++ map added_cell a.added; budget = min a.budget s.0.budget }) a.host
      (ap₂ (λ (cells : List Cell) (cs : Closures). (record s.0 { store = cells; budget = min a.budget s.0.budget }, record { host = a.host; closures = cs })) (sym (seen_all_added s.0.store a.added)) (sym (functions.closures 0)))
      (functions.good good)

  pub sim_does : (call : Answering H) → Sim slots_view (does call) (on_host (does call))
  unfolding does
  sim_does call = record {
    run = λ s good.
        subst (λ (cells : List Cell). Agrees slots_view (does call s)
        (beside_closures (record { host = s.1; closures = closures_from table 0 s.0.store }) (done_ran (call s.1 cells s.0.budget).outcome
        (record s.0 { store = seen s.0.store ++ map added_cell (call s.1 cells s.0.budget).added; budget = min (call s.1 cells s.0.budget).budget s.0.budget }, (call s.1 cells s.0.budget).host))))
        (sym (seen_twice s.0.store)) (host_at (call s.1 (seen s.0.store) s.0.budget) s good);
  }
