-- What is made of the data of values, as a host answers it.
use Rattle.std.proofs.Common.{◌≡◌, ℕ, ◌-◌, ◌≤◌, min, nat_le, Bool, true, false, List, [], ◌∷◌, ◌++◌, length, map, sym, ap, subst, ◌∙◌, arith}
use Rattle.std.specs.Prelude.{All, Result, Ok, Err, IfOk, IsTrue, if◌then◌else◌}
use Rattle.std.proofs.lemmas.List.{length-map, append-nil}
use Rattle.std.proofs.lemmas.List.Folds.{list_all-map}
use Rattle.mt_eval_meaning.specs.Host.{added_cell, answered, seen, seen_cell}
use Rattle.mt_eval_meaning.specs.declared.exit.Done.{Done}
use Rattle.mt_eval_meaning.specs.declared.exit.Done.TheVariants as done
use Rattle.mt_eval_meaning.specs.declared.exit.Stop.{Stop}
use Rattle.mt_eval_meaning.specs.declared.exit.Stop.TheVariants as stop
use Rattle.mt_marshal.proofs.Building.{names_last}
use Rattle.mt_marshal.proofs.Measures.{all_fit, data_fit}
use Rattle.mt_marshal.proofs.Seen.{seen_walked}
use Rattle.mt_marshal.specs.Elaboration.{Making, Walked, added_of, answer, cost, made, outcome_of, paid_by, paid_for}
use Rattle.mt_marshal.specs.Lawful.{LawfulDone, Stays}
use Rattle.mt_marshal.specs.Rules.{number_of}
use Rattle.mt_marshal.specs.Snapshot.{data_alone, datum, nothing, snap, walked}
use Rattle.mt_marshal.specs.Walks.{all}
use Rattle.mt_marshal.specs.declared.paying.Paid.{Paid}
use Rattle.mt_marshal.specs.declared.paying.Paid.TheVariants as paid
use Rattle.mt_marshal.specs.declared.refusal.Refused.TheVariants as refused
use Rattle.mt_tree.specs.declared.closure.Closure.{Closure}
use Rattle.mt_tree.specs.declared.data.Data.{Data}
use Rattle.mt_tree.specs.declared.fault.NoMemory.{NoMemory}
use Rattle.mt_value.proofs.Laws.{keeps_added, lawful_added}
use Rattle.mt_value.specs.Lawful.{Lawful, LawfulValue}
use Rattle.mt_value.specs.Limits.{closure_fits, data_fits, text_fits}
use Rattle.mt_value.specs.declared.cell.Cell.{Cell}
use Rattle.mt_value.specs.declared.cell.Cell.TheVariants as cell
use Rattle.mt_value.specs.declared.value.Value.{Value}
use Rattle.mt_value.specs.declared.value.Value.TheVariants as value

seen_length : (store : List Cell) → length (seen store) ≡ length store
seen_length store = length-map store seen_cell

-- by whether the cost is at most what is left
abbrev given : Walked → ℕ → Bool → Paid × ℕ
given w budget enough = if enough then (paid_by w, budget - cost w) else (paid.Stopped stop.Budget, budget)

-- no walk leaves more steps than there were
fewer : (w : Walked) (budget : ℕ) → (paid_for w budget).1 ≤ budget
fewer w budget = by (nat_le (cost w) budget)
  where
    by : (enough : Bool) → (given w budget enough).1 ≤ budget
    by true = omega arith
    by false = omega arith

module _ {H : Type 0} (m : Making) (values : List Value) (host : H) (store : List Cell) (budget : ℕ) where
  -- what a host answers, by what the walk gives the job
  abbrev ended : Paid × ℕ → Done × List Cell × H × ℕ
  ended p = (outcome_of m (length store) p.0, store ++ map added_cell (added_of m p.0), host, p.1)

  abbrev pub meant : Done × List Cell × H × ℕ
  meant = answered (made m values host (seen store) budget) store budget

  in_both : (p : Paid × ℕ) → p.1 ≤ budget → answered (answer m p host (seen store) budget) store budget ≡ ended p
  in_both p le =
      let left : min p.1 budget ≡ p.1 = omega (arith, le) in
      λ i. (outcome_of m (seen_length store i) p.0, store ++ map added_cell (added_of m p.0), host, left i)

  meant_is : meant ≡ ended (paid_for (walked store values) budget)
  unfolding made
  meant_is =
      ap (λ w. answered (answer m (paid_for w budget) host (seen store) budget) store budget) (seen_walked store values)
      ∙ in_both (paid_for (walked store values) budget) (fewer (walked store values) budget)

  by_paid : (p : Paid × ℕ) → p ≡ paid_for (walked store values) budget → ended p ≡ meant
  by_paid p is = ap ended is ∙ sym meant_is

  -- the job came to a stop
  pub stopped_is : (w : Stop) (left : ℕ) → (paid.Stopped w, left) ≡ paid_for (walked store values) budget → (done.Stop w, store, host, left) ≡ meant
  stopped_is w left is = (λ i. (done.Stop w, sym (append-nil store) i, host, left)) ∙ by_paid (paid.Stopped w, left) is

  -- a cell was added
  pub made_is : (ds : List Data) (left at : ℕ) (new : List Cell) → (paid.Data ds, left) ≡ paid_for (walked store values) budget → at ≡ length store → new ≡ store ++ added_cell (m.cell ds) ∷ [] → (done.Value (m.value at), new, host, left) ≡ meant
  made_is ds left at new is place grown = (λ i. (done.Value (m.value (place i)), grown i, host, left)) ∙ by_paid (paid.Data ds, left) is

-- ---- what the walk gives the job

pub from_start : (store : List Cell) (values : List Value) (path : List ℕ) (w : Walked) → path ≡ [] → all (map (datum store 40 path) values) nothing ≡ w → walked store values ≡ w
from_start store values path w start is = subst (λ p. all (map (datum store 40 p) values) nothing ≡ w) start is

module _ (values : List Value) (store : List Cell) (budget : ℕ) where
  by_test : (w : Walked) (enough : Bool) → walked store values ≡ w → nat_le (cost w) budget ≡ enough → given w budget enough ≡ paid_for (walked store values) budget
  by_test w enough is e = ap (given w budget) (sym e) ∙ ap (λ v. paid_for v budget) (sym is)

  pub unpaid : (w : Walked) (left : ℕ) → walked store values ≡ w → nat_le (cost w) budget ≡ false → left ≡ (if nat_le (cost w) budget then budget - cost w else budget) → (paid.Stopped stop.Budget, left) ≡ paid_for (walked store values) budget
  unpaid w left is few rest =
      let same : left ≡ budget = rw few at rest in
      (λ i. (paid.Stopped stop.Budget, same i)) ∙ by_test w false is few

  pub paid_is : (w : Walked) (left : ℕ) → walked store values ≡ w → nat_le (cost w) budget ≡ true → left ≡ (if nat_le (cost w) budget then budget - cost w else budget) → (paid_by w, left) ≡ paid_for (walked store values) budget
  paid_is w left is enough rest =
      let same : left ≡ budget - cost w = rw enough at rest in
      (λ i. (paid_by w, same i)) ∙ by_test w true is enough

  -- data that were paid for are those of the walk
  pub data_walked : (ds : List Data) (left : ℕ) → (paid.Data ds, left) ≡ paid_for (walked store values) budget → snap store values ≡ Ok ds
  unfolding snap
  data_walked ds left is = by (walked store values) (nat_le (cost (walked store values)) budget) is
    where
      by : (w : Walked) (enough : Bool) → ◌≡◌ {A = Paid × ℕ} (paid.Data ds, left) (given w budget enough) → data_alone w ≡ Ok ds
      by (Ok r) true is = let same : paid.Data ds ≡ paid.Data r.0 = ap (λ (p : Paid × ℕ). p.0) is in cc
      by (Err (refused.Rule r nodes bytes)) true is = let same : paid.Data ds ≡ paid.Stopped (stop.Marshal (number_of r)) = ap (λ (p : Paid × ℕ). p.0) is in absurd (cc)
      by (Err refused.NoMemory) true is = let same : paid.Data ds ≡ paid.Stopped stop.Budget = ap (λ (p : Paid × ℕ). p.0) is in absurd (cc)
      by w false is = let same : paid.Data ds ≡ paid.Stopped stop.Budget = ap (λ (p : Paid × ℕ). p.0) is in absurd (cc)

-- ---- the store stays lawful

pub code_fits : (store : List Cell) (values : List Value) (tilde : ℕ) (ds : List Data) → snap store values ≡ Ok ds → Lawful store → All (LawfulValue store) values → IsTrue (closure_fits (record { tilde = tilde; values = ds }))
unfolding closure_fits
code_fits store values tilde ds is lawful each = list_all-map (λ b. b) data_fits ds ∙ all_fit store values ds is lawful each

pub code_stays : (store : List Cell) (code : Closure) → Lawful store → IsTrue (closure_fits code) → Stays LawfulDone store (done.Value (value.Code (length store)), store ++ cell.Code code ∷ [])
code_stays store code lawful fits = record {
  keeps = keeps_added store (cell.Code code ∷ []);
  lawful = lawful_added store (cell.Code code) lawful fits;
  value = names_last store (cell.Code code);
}

pub frame_stays : (store : List Cell) (values : List Value) (service : List ℕ) (ds : List Data) → snap store values ≡ Ok ds → Lawful store → IsTrue (text_fits service) → All (LawfulValue store) values
    → Stays LawfulDone store (done.Value (value.Frame (length store)), store ++ cell.Frame (record { service = service; arguments = ds }) ∷ [])
frame_stays store values service ds is lawful fits each = record {
  keeps = keeps_added store (cell.Frame (record { service = service; arguments = ds }) ∷ []);
  lawful = lawful_added store (cell.Frame (record { service = service; arguments = ds })) lawful (fits, data_fit store values ds is lawful each);
  value = names_last store (cell.Frame (record { service = service; arguments = ds }));
}

-- ---- another host is answered the same

-- an answer to no host, as one to this host
abbrev to_host : {H : Type 0} → H → Done × List Cell × Unit {0} × ℕ → Done × List Cell × H × ℕ
to_host host r = (r.0, r.1, host, r.3)

pub for_host : {H : Type 0} (host : H) (result : Result Done NoMemory) (m : Making) (values : List Value) (store new : List Cell) (budget left : ℕ)
    → IfOk result (λ done. (done, new, tt {0}, left) ≡ answered (made m values (tt {0}) (seen store) budget) store budget)
    → IfOk result (λ done. (done, new, host, left) ≡ answered (made m values host (seen store) budget) store budget)
for_host host (Ok done) m values store new budget left e = ap (to_host host) (e ∙ meant_is m values (tt {0}) store budget) ∙ sym (meant_is m values host store budget)
for_host host (Err f) m values store new budget left e = tt
