-- A function that captures slots is one that keeps the environment of its free names.
use Rattle.std.proofs.Common.{◌≡◌, ℕ, zero, suc, ◌+◌, List, [], ◌∷◌, ◌++◌, length, map, Option, sym, ap, ap₂, ◌∙◌, subst, arith, append_assoc}
use Rattle.std.proofs.lemmas.List.{append-nil, map-append, length-map}
use Rattle.std.specs.Prelude.{slice_get}
use Rattle.mt_eval_meaning.specs.Code.{FunctionStands, captured_slots, lexical_of}
use Rattle.mt_eval_meaning.specs.Free.{free_of}
use Rattle.mt_eval_meaning.specs.Scopes.{Scope, environment_of, IsBelow}
use Rattle.mt_eval_meaning.specs.States.{Numbered, kept_free, keeping_free}
use Rattle.mt_eval_agreement.proofs.Shown.{zipped, closure_by, closures_in, closures_from, Knows, KnowsFunction, IsGood}
use Rattle.mt_eval_agreement.proofs.Sim.{slots_view}
use Rattle.mt_eval_agreement.proofs.Views.{Sim}
use Rattle.mt_eval_agreement.proofs.Slots.{cut_same, cut_below, captured_same, captured_length}
use Rattle.mt_eval_agreement.proofs.Stores.{seen_length}
use Rattle.mt_eval_meaning.specs.Entering.{Closures, closure, capture}
use Rattle.mt_eval_meaning.specs.Host.{seen, seen_cell, blank}
use Rattle.mt_eval_meaning.specs.Names.{Environment, Surroundings}
use Rattle.mt_eval_meaning.specs.Runs.{gives}
use Rattle.mt_eval_meaning.specs.State.{on_state, add_cell}
use Rattle.mt_eval_meaning.specs.Activations as activations
use Rattle.mt_eval_meaning.specs.Activations.{Activation, captured, captures_of}
use Rattle.mt_eval_meaning.specs.declared.function.Function.{Function as Code}
use Rattle.mt_syntax.specs.declared.tree.Function.{Function}
use Rattle.mt_value.specs.declared.cell.Cell.{Cell}
use Rattle.mt_value.specs.declared.cell.Cell.TheVariants as cell
use Rattle.mt_value.specs.declared.cell.FunCell.{FunCell}

module _ (table : List Numbered) where
  closures_pushed : (store : List Cell) (at : ℕ) (c : Cell) → closures_from table at (store ++ c ∷ []) ≡ closures_from table at store ++ closures_in table (at + length store) c
  closures_pushed [] at c =
      let e : at + zero ≡ at = omega arith in
      append-nil (closures_in table at c) ∙ ap (λ n. closures_in table n c) (sym e)
  closures_pushed (d ∷ store) at c =
      let e : suc at + length store ≡ at + suc (length store) = omega arith in
      ap (λ cs. closures_in table at d ++ cs) (closures_pushed store (suc at) c ∙ ap (λ n. closures_from table (suc at) store ++ closures_in table n c) e)
      ∙ sym (append_assoc (closures_in table at d) (closures_from table (suc at) store) (closures_in table (at + suc (length store)) c))

  pub good_pushed : (store : List Cell) (c : Cell) → Knows table c → IsGood table store → IsGood table (store ++ c ∷ [])
  good_pushed [] c k h = (k, tt)
  good_pushed (d ∷ store) c k h = (h.0, good_pushed store c k h.1)

  pub closures_of_push : (store : List Cell) (c : Cell) → closures_from table 0 (store ++ c ∷ []) ≡ closures_from table 0 store ++ closures_in table (length store) c
  closures_of_push store c =
      let e : 0 + length store ≡ length store = omega arith in
      closures_pushed store 0 c ∙ ap (λ n. closures_from table 0 store ++ closures_in table n c) e

module _ (around : Surroundings) (units : List Code) (table : List Numbered) where
  module _ (scope : Scope) (activation : Activation) (low : IsBelow (length activation) scope) (n : ℕ) (own : Option (List ℕ)) (f : Function) (stands : FunctionStands around units table scope n own f) where
    kept : Scope
    kept = captured_slots around units table own f scope

    cell_of : FunCell
    cell_of = record { function = n; captured = captured activation (captures_of (slice_get units n)) }

    captures : captured activation (captures_of (slice_get units n)) ≡ captured activation (map (λ s. s.slot) kept)
    unfolding kept
    captures = ap (λ o. captured activation (captures_of o)) stands.is ∙ ap (captured activation) stands.captures

    kept_low : IsBelow (length activation) kept
    unfolding kept
    kept_low = cut_below (length activation) scope (free_of around.tildes own f) low

    environment : zipped (map lexical_of kept) (captured activation (captures_of (slice_get units n))) ≡ kept_free around.tildes own f (environment_of scope activation)
    unfolding kept
    environment =
        ap (zipped (map lexical_of kept)) captures ∙ captured_same kept activation kept_low ∙ sym (cut_same scope activation (free_of around.tildes own f))

    closures : (at : ℕ) → closures_in table at (cell.Fun cell_of) ≡ (at, closure (keeping_free around) own f (environment_of scope activation)) ∷ []
    unfolding cell_of kept
    closures at =
        ap (λ o. closure_by table o (record { function = n; captured = captured activation (captures_of (slice_get units n)) }) at) stands.entry
        ∙ ap (λ (e : Environment). (at, record { own = own; function = f; environment = e }) ∷ []) environment

    knows : Knows table (cell.Fun cell_of)
    unfolding cell_of kept
    knows =
        subst (λ o. KnowsFunction table o (record { function = n; captured = captured activation (captures_of (slice_get units n)) })) (sym stands.entry)
        (ap length captures ∙ captured_length kept activation kept_low ∙ sym (length-map kept lexical_of))

    pub sim_capture : {H : Type 0} → Sim (slots_view {H = H} table) (on_state (activations.capture units n activation)) (capture (closure (keeping_free around) own f (environment_of scope activation)))
    unfolding activations.capture add_cell capture cell_of
    sim_capture = record {
      run = λ s good. record {
        same =
            ap₂ (λ (k : ℕ) (cs : Closures). gives k (record s.0 { store = seen s.0.store ++ blank ∷ [] }, record { host = s.1; closures = cs })) (seen_length s.0.store)
            (ap (λ k. closures_from table 0 s.0.store ++ (k, closure (keeping_free around) own f (environment_of scope activation)) ∷ []) (seen_length s.0.store) ∙ sym (closures_of_push table s.0.store (cell.Fun cell_of) ∙ ap (λ cs. closures_from table 0 s.0.store ++ cs) (closures (length s.0.store))))
            ∙ ap (λ (cells : List Cell). gives (length s.0.store) (record s.0 { store = cells }, record { host = s.1; closures = closures_from table 0 (s.0.store ++ cell.Fun cell_of ∷ []) })) (sym (map-append seen_cell s.0.store (cell.Fun cell_of ∷ [])));
        good = good_pushed table s.0.store (cell.Fun cell_of) knows good;
      };
    }
