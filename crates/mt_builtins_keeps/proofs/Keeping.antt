-- The calls of a plain host keep all.
use Rattle.std.proofs.Common.{◌≡◌, ℕ, zero, suc, ◌+◌, ◌-◌, ◌<◌, ◌≤◌, ◌^◌, nat_le, ℤ, Bool, true, false, List, [], ◌∷◌, ◌++◌, length, Option, None, Some, Result, Ok, Err, refl, sym, ap, subst, ◌∙◌, arith}
use Rattle.std.specs.Prelude.{All, codes, slice_get, if◌then◌else◌}
use Rattle.std.proofs.lemmas.List.{length-map, append-nil}
use Rattle.std.specs.Option.{option_map}
use Rattle.std.proofs.lemmas.Option.{slice_get-map}
use Rattle.std.proofs.lemmas.List.Elements.{All-nil, All-cons, All-map, All-weaker}
use Rattle.mt_builtins.proofs.Lawfulness.{LawfulMade, native_lawful, method_lawful}
use Rattle.mt_builtins.specs.Builtins.{or_refused, text_of, text_made, number_of, number_made, message_of, error_made, called as built_called, native, named, properties_in, properties_of, names, keys, by_method, method, method_cost}
use Rattle.mt_builtins.specs.Making.{outcome_of, added_of, answer, answer_for, error_properties}
use Rattle.mt_builtins.specs.declared.made.Made.{Made}
use Rattle.mt_builtins.specs.declared.made.Made.TheVariants as made
use Rattle.mt_builtins.specs.declared.methods.MethodName.{MethodName}
use Rattle.mt_builtins.specs.declared.methods.MethodName.TheVariants as name
use Rattle.mt_eval_keeps.proofs.Operations.{all_at}
use Rattle.mt_eval_keeps.proofs.Steps.{added_names, error_fits}
use Rattle.mt_eval_keeps.specs.Growth.{Thing, OwnValue, FitsCell, Fits}
use Rattle.mt_eval_keeps.specs.Growth as thing
use Rattle.mt_eval_keeps.specs.Hosts.{FitsDone, KeepsAnswer, KeepsCall, KeepsAll}
use Rattle.mt_eval_keeps.specs.Kept.{allowed, owns, has}
use Rattle.mt_eval_meaning.specs.Host.{Added, Answering, added_cell, seen, seen_cell}
use Rattle.mt_eval_meaning.specs.declared.exit.Done.TheVariants as done
use Rattle.mt_eval_meaning.specs.declared.exit.Stop.TheVariants as stop
use Rattle.mt_eval_meaning.specs.declared.state.State.{State}
use Rattle.mt_ops.proofs.Lawfulness.{settled_lawful}
use Rattle.mt_ops.specs.Errors.{text_property}
use Rattle.mt_ops.specs.declared.error.ErrorKind.{ErrorKind}
use Rattle.mt_ops.specs.declared.error.ErrorKind.TheVariants as error
use Rattle.mt_builtins.specs.Plain.{Plain, plain, called, invoked, undefined_or, with_line, past}
use Rattle.mt_builtins_keeps.specs.Plain.{tests}
use Rattle.mt_value.proofs.Laws.{cell_kept, keeps_added, lawful_added, value_kept}
use Rattle.mt_value.specs.Lawful.{Kind, kind_of, Names, Keeps, LawfulValue, LawfulCell, Lawful}
use Rattle.mt_value.specs.declared.cell.Cell.{Cell}
use Rattle.mt_value.specs.declared.cell.Cell.TheVariants as cell
use Rattle.mt_value.specs.declared.cell.Property.{Property}
use Rattle.mt_value.specs.declared.value.Native.{Native}
use Rattle.mt_value.specs.declared.value.Native.TheVariants as builtin
use Rattle.mt_value.specs.declared.value.Value.{Value}
use Rattle.mt_value.specs.declared.value.Value.TheVariants as value

-- ---- the store as a host sees it

seen_kind : (c : Cell) → kind_of (seen_cell c) ≡ kind_of c
seen_kind (cell.Fun f) = refl
seen_kind (cell.Variable v) = refl
seen_kind (cell.Arr items) = refl
seen_kind (cell.Obj ps) = refl
seen_kind (cell.Frame f) = refl
seen_kind (cell.Html t) = refl
seen_kind (cell.Code c) = refl

kinds_shown : (store : List Cell) → Keeps (seen store) store
kinds_shown [] kind at h = h
kinds_shown (c ∷ store) kind zero h = ap Option.Some (sym (seen_kind c)) ∙ h
kinds_shown (c ∷ store) kind (suc at) h = kinds_shown store kind at h

kinds_seen : (store : List Cell) → Keeps store (seen store)
kinds_seen [] kind at h = h
kinds_seen (c ∷ store) kind zero h = ap Option.Some (seen_kind c) ∙ h
kinds_seen (c ∷ store) kind (suc at) h = kinds_seen store kind at h

lawful_seen : (store : List Cell) → Lawful store → Lawful (seen store)
lawful_seen store k = record { cells = All-map (LawfulCell (seen store)) seen_cell store (All-weaker (LawfulCell store) (λ c. LawfulCell (seen store) (seen_cell c)) by store k.cells) }
  where
    by : (c : Cell) → LawfulCell store c → LawfulCell (seen store) (seen_cell c)
    by (cell.Fun f) l = All-nil (Names (seen store) Kind.variable)
    by (cell.Variable v) l = cell_kept store (seen store) (kinds_seen store) (cell.Variable v) l
    by (cell.Arr items) l = cell_kept store (seen store) (kinds_seen store) (cell.Arr items) l
    by (cell.Obj ps) l = cell_kept store (seen store) (kinds_seen store) (cell.Obj ps) l
    by (cell.Frame f) l = l
    by (cell.Html t) l = l
    by (cell.Code c) l = l

made_shown : (store : List Cell) (r : Result Made ErrorKind) → LawfulMade (seen store) r → LawfulMade store r
made_shown store (Ok (made.Value v)) h = value_kept (seen store) store (kinds_shown store) v h
made_shown store (Ok (made.Array items)) h = cell_kept (seen store) store (kinds_shown store) (cell.Arr items) h
made_shown store (Ok (made.Object ps)) h = cell_kept (seen store) store (kinds_shown store) (cell.Obj ps) h
made_shown store (Err e) h = tt

nobody : Plain
nobody = record { log = []; beyond = false }

module _ (numbers : ℕ → Bool) (most : ℕ) (small : most < 2 ^ 53) where
  abbrev Own : Value → Type 0
  Own = OwnValue (owns (tests numbers)) nobody

  -- what is made is no node and no event, and has room
  abbrev Roomy : ℕ → Result Made ErrorKind → Type 0
  Roomy n (Ok (made.Value v)) = Own v
  Roomy n (Ok (made.Array items)) = All Own items × (length items + n ≤ most)
  Roomy n (Ok (made.Object ps)) = All (λ p. Own p.value) ps × (length ps + n ≤ most)
  Roomy n (Err e) = Unit {0}

  own_any : (h k : Plain) (v : Value) → OwnValue (owns (tests numbers)) h v → OwnValue (owns (tests numbers)) k v
  own_any h k value.Undefined o = o
  own_any h k value.Null o = o
  own_any h k (value.Bool b) o = o
  own_any h k (value.Num n) o = o
  own_any h k (value.Text text) o = o
  own_any h k (value.Arr at) o = o
  own_any h k (value.Obj at) o = o
  own_any h k (value.Fun at) o = o
  own_any h k (value.Svc name) o = o
  own_any h k (value.Frame at) o = o
  own_any h k (value.Html at) o = o
  own_any h k (value.Code at) o = o
  own_any h k (value.Node n) o = o
  own_any h k (value.Event n) o = o
  own_any h k (value.Native n) o = o

  host_any : (h k : Plain) (x : Thing) → has (tests numbers) h x → has (tests numbers) k x
  host_any h k (thing.node n) o = o
  host_any h k (thing.event n) o = o
  host_any h k (thing.frame f) o = o
  host_any h k (thing.html t) o = o
  host_any h k (thing.code c) o = o
  host_any h k (thing.tilde id n) o = o
  host_any h k thing.itself o = o

  module _ (h k : Plain) (store : List Cell) (n : ℕ) (budget left : ℕ) (lawful : Lawful store) (room : 64 + n ≤ most) where
    added_one : (a : Added) → LawfulCell store (added_cell a) → FitsCell (owns (tests numbers)) most k n (added_cell a) → (o : _) → FitsDone (owns (tests numbers)) most (allowed (tests numbers)) (store ++ added_cell a ∷ []) k o
        → KeepsAnswer (owns (tests numbers)) most (allowed (tests numbers)) h store n (record { outcome = o; added = a ∷ []; host = k; budget = left })
    added_one a l f o d = record {
      lawful = lawful_added store (added_cell a) lawful (cell_kept store (store ++ added_cell a ∷ []) (keeps_added store (added_cell a ∷ [])) (added_cell a) l);
      value = d;
      host = host_any h k;
      cells = All-cons (FitsCell (owns (tests numbers)) most k n) (added_cell a) [] f (All-nil (FitsCell (owns (tests numbers)) most k n));
      addresses = All-nil (Names (store ++ added_cell a ∷ []) Kind.function);
    }

    none_added : (o : _) → FitsDone (owns (tests numbers)) most (allowed (tests numbers)) store k o → KeepsAnswer (owns (tests numbers)) most (allowed (tests numbers)) h store n (record { outcome = o; added = []; host = k; budget = left })
    none_added o d = record {
      lawful = subst Lawful (sym (append-nil store)) lawful;
      value = subst (λ s. FitsDone (owns (tests numbers)) most (allowed (tests numbers)) s k o) (sym (append-nil store)) d;
      host = host_any h k;
      cells = All-nil (FitsCell (owns (tests numbers)) most k n);
      addresses = All-nil (Names (store ++ []) Kind.function);
    }

    made_keeps : (r : Result Made ErrorKind) → LawfulMade store r → Roomy n r → KeepsAnswer (owns (tests numbers)) most (allowed (tests numbers)) h store n (record { outcome = outcome_of (length store) r; added = added_of r; host = k; budget = left })
    made_keeps (Ok (made.Value v)) l o = none_added (done.Value v) (l, own_any nobody k v o)
    made_keeps (Ok (made.Array items)) l o = added_one (Added.array items) l (record { own = All-weaker Own (OwnValue (owns (tests numbers)) k) (λ v. own_any nobody k v) items o.0; room = o.1 }) (done.Value (value.Arr (length store))) (added_names store (cell.Arr items), tt)
    made_keeps (Ok (made.Object ps)) l o = added_one (Added.object ps) l (record { own = All-weaker (λ p. Own p.value) (λ p. OwnValue (owns (tests numbers)) k p.value) (λ p. own_any nobody k p.value) ps o.0; room = o.1 }) (done.Value (value.Obj (length store))) (added_names store (cell.Obj ps), tt)
    made_keeps (Err e) l o =
        let s = settled_lawful (Err e) store tt lawful in
        record {
          lawful = s.store;
          value = (s.value, tt);
          host = host_any h k;
          cells = All-cons (FitsCell (owns (tests numbers)) most k n) (cell.Obj (error_properties e)) [] (error_fits (owns (tests numbers)) most k n e room) (All-nil (FitsCell (owns (tests numbers)) most k n));
          addresses = All-nil (Names (store ++ cell.Obj (error_properties e) ∷ []) Kind.function);
        }

    -- as it is answered of what the host sees
    answered_keeps : (r : Result Made ErrorKind) → LawfulMade store r → Roomy n r → KeepsAnswer (owns (tests numbers)) most (allowed (tests numbers)) h store n (answer r k (seen store) left)
    answered_keeps r l o = subst (λ m. KeepsAnswer (owns (tests numbers)) most (allowed (tests numbers)) h store n (record { outcome = outcome_of m r; added = added_of r; host = k; budget = left })) (sym (length-map store seen_cell)) (made_keeps r l o)

    answered_for : (steps : ℕ) (r : Result Made ErrorKind) → LawfulMade store r → Roomy n r → KeepsAnswer (owns (tests numbers)) most (allowed (tests numbers)) h store n (answer_for steps r k (seen store) left)
    answered_for steps r l o = by (nat_le steps left)
      where
        by : (b : Bool) → KeepsAnswer (owns (tests numbers)) most (allowed (tests numbers)) h store n
            (if b then record { outcome = outcome_of (length (seen store)) r; added = added_of r; host = k; budget = left - steps } else record { outcome = done.Stop stop.Budget; added = []; host = k; budget = left })
        by true = again (answered_keeps r l o)
          where
            again : KeepsAnswer (owns (tests numbers)) most (allowed (tests numbers)) h store n (answer r k (seen store) left) → KeepsAnswer (owns (tests numbers)) most (allowed (tests numbers)) h store n (record { outcome = outcome_of (length (seen store)) r; added = added_of r; host = k; budget = left - steps })
            again q = record { lawful = q.lawful; value = q.value; host = q.host; cells = q.cells; addresses = q.addresses }
        by false = none_added (done.Stop stop.Budget) tt

  -- ---- what the builtins make

  module _ (n : ℕ) (room : 64 + n ≤ most) where
    roomy_text : (r : Result (List ℕ) ErrorKind) → Roomy n (text_made r)
    roomy_text (Ok text) = tt
    roomy_text (Err e) = tt

    roomy_number : (r : Result ℤ ErrorKind) → Roomy n (number_made r)
    roomy_number (Ok k) = tt
    roomy_number (Err e) = tt

    roomy_error : (r : Result (List ℕ) ErrorKind) → Roomy n (error_made r)
    roomy_error (Ok message) =
        let first = text_property (codes "name") (codes "Error") in
        let second = text_property (codes "message") message in
        (All-cons (λ (p : Property). Own p.value) first (second ∷ []) tt (All-cons (λ (p : Property). Own p.value) second [] tt (All-nil (λ (p : Property). Own p.value))), omega (arith, room))
    roomy_error (Err e) = tt

    roomy_called : (which : Native) (argument : Option Value) → Roomy n (built_called which argument)
    unfolding built_called
    roomy_called builtin.String argument = roomy_text (text_of (codes "String") argument)
    roomy_called builtin.Number argument = roomy_number (or_refused (codes "Number") (number_of argument))
    roomy_called builtin.Error argument = roomy_error (or_refused (codes "Error") (message_of argument))
    roomy_called _ argument = tt

    roomy_undefined : (r : Result (List ℕ) ErrorKind) → Roomy n (undefined_or r)
    roomy_undefined (Ok text) = tt
    roomy_undefined (Err e) = tt

    own_names : (ps : List Property) → All Own (names ps)
    own_names [] = All-nil Own
    own_names (p ∷ ps) = All-cons Own (value.Text p.name) (names ps) tt (own_names ps)

    module _ (store : List Cell) (h : Plain) (cells : All (FitsCell (owns (tests numbers)) most h n) store) where
      roomy_in : (c : Option Cell) (at : ℕ) → slice_get store at ≡ c → Roomy n (keys (properties_in (option_map seen_cell c)))
      roomy_in (Some (cell.Obj ps)) at is = (own_names ps, omega (arith, (all_at (FitsCell (owns (tests numbers)) most h n) store at (cell.Obj ps) cells is).room, length-map ps (λ (p : Property). value.Text p.name)))
      roomy_in (Some (cell.Fun f)) at is = tt
      roomy_in (Some (cell.Variable v)) at is = tt
      roomy_in (Some (cell.Arr items)) at is = tt
      roomy_in (Some (cell.Frame f)) at is = tt
      roomy_in (Some (cell.Html t)) at is = tt
      roomy_in (Some (cell.Code c)) at is = tt
      roomy_in None at is = tt

      roomy_of : (argument : Option Value) → Roomy n (keys (properties_of argument (seen store)))
      unfolding properties_of
      roomy_of (Some (value.Obj at)) = subst (λ o. Roomy n (keys (properties_in o))) (sym (slice_get-map seen_cell store at)) (roomy_in (slice_get store at) at refl)
      roomy_of _ = tt

      roomy_by : (m : Option MethodName) (key : List ℕ) (argument : Option Value) → Roomy n (by_method m key argument (seen store))
      roomy_by (Some name.Keys) key argument = roomy_of argument
      roomy_by (Some name.IsArray) key argument = tt
      roomy_by None key argument = tt

      roomy_method : (base : Value) (key : List ℕ) (arguments : List Value) → Roomy n (method base key arguments (seen store))
      unfolding method
      roomy_method base key arguments = roomy_by (named base key) key (slice_get arguments 0)

  -- ---- the calls

  lawful_undefined : (store : List Cell) (r : Result (List ℕ) ErrorKind) → LawfulMade store (undefined_or r)
  lawful_undefined store (Ok text) = tt
  lawful_undefined store (Err e) = tt

  abbrev Call : (State × Plain → Type 0) → Answering Plain → Type 0
  Call pre call = KeepsCall (owns (tests numbers)) most (allowed (tests numbers)) pre call

  refused : (e : ErrorKind) (f : Plain → Plain) (pre : State × Plain → Type 0) → Call pre (λ host. answer (Err e) (f host))
  refused e f pre n s good k = answered_keeps s.1 (f s.1) s.0.store n s.0.budget s.0.budget good.store good.room (Err e) tt tt

  call_native : (which : Native) (arguments : List Value) → Call (λ s. All (Fits (owns (tests numbers)) s) arguments) (called which arguments)
  unfolding called
  call_native builtin.Log arguments n s good k =
      answered_keeps s.1 (with_line (text_of (codes "log") (slice_get arguments 0)) s.1) s.0.store n s.0.budget s.0.budget good.store good.room (undefined_or (text_of (codes "log") (slice_get arguments 0))) (lawful_undefined s.0.store (text_of (codes "log") (slice_get arguments 0))) (roomy_undefined n good.room (text_of (codes "log") (slice_get arguments 0)))
  call_native which arguments n s good k =
      answered_keeps s.1 s.1 s.0.store n s.0.budget s.0.budget good.store good.room (native which arguments) (native_lawful s.0.store which arguments (All-weaker (Fits (owns (tests numbers)) s) (LawfulValue s.0.store) (λ v f. f.lawful) arguments k)) (roomy_called n good.room which (slice_get arguments 0))

  pub keeps_all : KeepsAll (owns (tests numbers)) most (allowed (tests numbers)) plain
  unfolding invoked
  keeps_all = record {
    native = call_native;
    method = λ base key arguments n s good k.
        answered_for s.1 s.1 s.0.store n s.0.budget s.0.budget good.store good.room (method_cost base key arguments (seen s.0.store)) (method base key arguments (seen s.0.store))
        (made_shown s.0.store (method base key arguments (seen s.0.store)) (method_lawful (seen s.0.store) (lawful_seen s.0.store good.store) base key arguments)) (roomy_method n good.room s.0.store s.1 good.cells base key arguments);
    get = λ base key. refused (error.NoSuchProperty key) (λ h. h) _;
    set = λ base key v. refused (error.NoSuchProperty key) (λ h. h) _;
    frame = λ service arguments. refused error.NotFunction past _;
    staged = λ tilde values. refused error.NotFunction past _;
    element = λ tag attributes children. refused error.NotFunction past _;
  }
