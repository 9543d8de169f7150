-- The variables of an activation, and new functions.
use Rattle.std.proofs.Common.{◌≡◌, ℕ, zero, suc, List, [], ◌∷◌, ◌++◌, map, Option, None, Some, Bool, true, false, refl, arith}
use Rattle.std.specs.Prelude.{All, slice_get}
use Rattle.std.proofs.lemmas.List.Elements.{All-nil, All-cons, All-head, All-tail, All-append, All-push, All-weaker}
use Rattle.mt_eval_keeps.specs.Growth.{Owning, Fits, Grew}
use Rattle.mt_eval_keeps.proofs.Operations.{all_at}
use Rattle.mt_eval_keeps.proofs.References.{still_declare, still_declare_global}
use Rattle.mt_eval_keeps.proofs.Runs.{further, fits_kept, Claim, Runs, still_runs, runs_pure}
use Rattle.mt_eval_keeps.proofs.Steps.{Any, runs_add, runs_state_bind, added_grew}
use Rattle.mt_eval_meaning.specs.Entering.{first as first_of, rest as rest_of}
use Rattle.mt_eval_meaning.specs.References.{declare, declare_global}
use Rattle.mt_eval_meaning.specs.Runs.{each}
use Rattle.mt_eval_meaning.specs.State.{add_cell, on_state}
use Rattle.mt_eval_meaning.specs.declared.state.State.{State}
use Rattle.mt_eval_meaning.specs.Activations.{Activation, captured, address_in, captures_of, capture, referent, grown, with_parameters, with_own, define, define_all, enter_body, enter_function, enter_unit}
use Rattle.mt_eval_meaning.specs.declared.function.Body.{Body}
use Rattle.mt_eval_meaning.specs.declared.function.Function.{Function}
use Rattle.mt_eval_meaning.specs.declared.function.Hoisted.{Hoisted}
use Rattle.mt_eval_meaning.specs.declared.function.Unit.{Unit as Unit'}
use Rattle.mt_value.proofs.Laws.{value_kept}
use Rattle.mt_value.specs.Lawful.{Kind, Names, LawfulValue}
use Rattle.mt_value.specs.declared.cell.Cell.{Cell}
use Rattle.mt_value.specs.declared.cell.Cell.TheVariants as cell
use Rattle.mt_value.specs.declared.value.Value.{Value}
use Rattle.mt_value.specs.declared.value.Value.TheVariants as value

module _ {H : Type 0} (owns : Owning H) (most : ℕ) where
  -- the addresses in an activation name variables
  abbrev pub FitsActivation : Claim owns most Activation
  FitsActivation activation t = All (Names t.0.store Kind.variable) activation

  pub activation_kept : {s t : State × H} (activation : Activation) → Grew owns s t → FitsActivation activation s → FitsActivation activation t
  activation_kept {s = s} {t = t} activation g h = All-weaker (Names s.0.store Kind.variable) (Names t.0.store Kind.variable) (λ at n. g.store.kinds Kind.variable at n) activation h

  abbrev FitsContent : Option Value → State × H → Type 0
  FitsContent None t = Unit {0}
  FitsContent (Some v) t = Fits owns t v

  content_kept : {s t : State × H} (content : Option Value) → Grew owns s t → FitsContent content s → FitsContent content t
  content_kept None g h = tt
  content_kept (Some v) g h = fits_kept owns most g h

  runs_variable : {first : State × H} (c : ℕ) (content : Option Value) → FitsContent content first → Runs owns most first c c (on_state (add_cell (cell.Variable content))) (λ at t. Names t.0.store Kind.variable at)
  runs_variable c None h = runs_add owns most (cell.Variable None) (omega arith) (λ x s g good. (tt, record { own = tt; room = omega (arith, good.room) }))
  runs_variable c (Some v) h = runs_add owns most (cell.Variable (Some v)) (omega arith) (λ x s g good.
      let k = fits_kept owns most g h in
      let e = added_grew s.0.store (cell.Variable (Some v) ∷ []) in
      (fits_added s v k, record { own = k.own; room = omega (arith, good.room) }))
    where
      fits_added : (s : State × H) (v : Value) → Fits owns s v → LawfulValue (s.0.store ++ cell.Variable (Some v) ∷ []) v
      fits_added s v k = value_kept s.0.store (s.0.store ++ cell.Variable (Some v) ∷ []) (added_grew s.0.store (cell.Variable (Some v) ∷ [])).kinds v k.lawful

  pub runs_grown : (n : ℕ) (content : Option Value) (activation : Activation) (first : State × H) (c : ℕ) → FitsContent content first → FitsActivation activation first → Runs owns most first c c (on_state (grown n content activation)) FitsActivation
  runs_grown zero content activation first c h k = runs_pure owns most activation (λ t g. activation_kept activation g k)
  runs_grown (suc n) content activation first c h k =
      runs_state_bind owns most (add_cell (cell.Variable content)) (λ at. grown n content (activation ++ at ∷ [])) (runs_variable c content h) (λ at t g named.
      runs_grown n content (activation ++ at ∷ []) t c (content_kept content g h) (All-push (Names t.0.store Kind.variable) activation at (activation_kept activation g k) named))

  first_fits : (t : State × H) (values : List Value) → All (Fits owns t) values → Fits owns t (first_of values)
  first_fits t [] ks = record { lawful = tt; own = tt }
  first_fits t (v ∷ vs) ks = All-head (Fits owns t) v vs ks

  rest_fits : (t : State × H) (values : List Value) → All (Fits owns t) values → All (Fits owns t) (rest_of values)
  rest_fits t [] ks = All-nil (Fits owns t)
  rest_fits t (v ∷ vs) ks = All-tail (Fits owns t) v vs ks

  runs_parameters : (n : ℕ) (values : List Value) (activation : Activation) (first : State × H) (c : ℕ) → All (Fits owns first) values → FitsActivation activation first → Runs owns most first c c (on_state (with_parameters n values activation)) FitsActivation
  runs_parameters zero values activation first c h k = runs_pure owns most activation (λ t g. activation_kept activation g k)
  runs_parameters (suc n) values activation first c h k =
      runs_state_bind owns most (add_cell (cell.Variable (Some (first_of values)))) (λ at. with_parameters n (rest_of values) (activation ++ at ∷ [])) (runs_variable c (Some (first_of values)) (first_fits first values h)) (λ at t g named.
      runs_parameters n (rest_of values) (activation ++ at ∷ []) t c (All-weaker (Fits owns first) (Fits owns t) (λ v f. fits_kept owns most g f) (rest_of values) (rest_fits first values h)) (All-push (Names t.0.store Kind.variable) activation at (activation_kept activation g k) named))

  runs_own : (b : Bool) (at : ℕ) (activation : Activation) (first : State × H) (c : ℕ) → Names first.0.store Kind.function at → FitsActivation activation first → Runs owns most first c c (on_state (with_own b at activation)) FitsActivation
  runs_own true at activation first c named k = runs_grown (suc zero) (Some (value.Fun at)) activation first c (record { lawful = named; own = tt }) k
  runs_own false at activation first c named k = runs_pure owns most activation (λ t g. activation_kept activation g k)

  -- ---- new functions

  address_fits : (store : List Cell) (activation : Activation) (slots : List ℕ) → All (Names store Kind.variable) activation → All (Names store Kind.variable) (captured activation slots)
  address_fits store activation [] k = All-nil (Names store Kind.variable)
  address_fits store activation (slot ∷ slots) k =
      All-append (Names store Kind.variable) (address_in (slice_get activation slot)) (captured activation slots) (by (slice_get activation slot) refl) (address_fits store activation slots k)
    where
      by : (o : Option ℕ) → slice_get activation slot ≡ o → All (Names store Kind.variable) (address_in o)
      by None is = All-nil (Names store Kind.variable)
      by (Some at) is = All-cons (Names store Kind.variable) at [] (all_at (Names store Kind.variable) activation slot at k is) (All-nil (Names store Kind.variable))

  module _ (functions : List Function) where
    pub capture_runs : {first : State × H} (c n : ℕ) (activation : Activation) → owns.function n → FitsActivation activation first → Runs owns most first c c (on_state (capture functions n activation)) (λ at t. Names t.0.store Kind.function at)
    unfolding capture
    capture_runs c n activation known k =
        let new = cell.Fun (record { function = n; captured = captured activation (captures_of (slice_get functions n)) }) in
        runs_add owns most new (omega arith) (λ x s g good.
        (address_fits (s.0.store ++ new ∷ []) activation (captures_of (slice_get functions n)) (All-weaker (Names s.0.store Kind.variable) (Names (s.0.store ++ new ∷ []) Kind.variable) (λ at m. (added_grew s.0.store (new ∷ [])).kinds Kind.variable at m) activation (activation_kept activation g k)), record { own = known; room = omega (arith, good.room) }))

    define_runs : {first : State × H} (c : ℕ) (activation : Activation) (h : Hoisted) → owns.function h.function → FitsActivation activation first → Runs owns most first c c (on_state (define functions activation h)) (Any owns most)
    unfolding define
    define_runs c activation h known k =
        runs_state_bind owns most (capture functions h.function activation) (λ at. declare h.name.text (referent activation h.name.binding) (value.Fun at)) (capture_runs c h.function activation known k) (λ at t g named.
        still_runs owns most c c (omega arith) (still_declare owns most h.name.text (referent activation h.name.binding) (value.Fun at) (record { lawful = named; own = tt })))

    define_all_runs : (hs : List Hoisted) → All (λ h. owns.function h.function) hs → (activation : Activation) (first : State × H) (c : ℕ) → FitsActivation activation first → Runs owns most first c c (on_state (define_all functions activation hs)) (Any owns most)
    define_all_runs [] known activation first c k = runs_pure owns most tt (λ t g. tt)
    define_all_runs (h ∷ hs) known activation first c k =
        let P = λ (h : Hoisted). owns.function h.function in
        runs_state_bind owns most (define functions activation h) (λ _. define_all functions activation hs) (define_runs c activation h (All-head P h hs known) k) (λ _ t g _. define_all_runs hs (All-tail P h hs known) activation t c (activation_kept activation g k))

    enter_body_runs : (b : Body) → All (λ h. owns.function h.function) b.hoisted → (activation : Activation) (first : State × H) (c : ℕ) → FitsActivation activation first → Runs owns most first c c (on_state (enter_body functions b activation)) FitsActivation
    unfolding enter_body
    enter_body_runs b known activation first c k =
        runs_state_bind owns most (grown b.variables (Some value.Undefined) activation) _ (runs_grown b.variables (Some value.Undefined) activation first c (record { lawful = tt; own = tt }) k) (λ declared t g h.
        runs_state_bind owns most (grown b.undeclared None declared) _ (runs_grown b.undeclared None declared t c tt h) (λ inner u f i.
        runs_state_bind owns most (define_all functions inner b.hoisted) _ (define_all_runs b.hoisted known inner u c i) (λ _ w e _.
        runs_pure owns most inner (λ x j. activation_kept inner (further owns most u w x e j) i))))

    pub enter_function_runs : (f : Function) → All (λ h. owns.function h.function) f.body.hoisted → (captured : Activation) (at : ℕ) (values : List Value) (first : State × H) (c : ℕ) → FitsActivation captured first → Names first.0.store Kind.function at → All (Fits owns first) values
        → Runs owns most first c c (on_state (enter_function functions f captured at values)) FitsActivation
    unfolding enter_function
    enter_function_runs f known captured at values first c k named h =
        runs_state_bind owns most (with_own f.own at captured) _ (runs_own f.own at captured first c named k) (λ own t g i.
        runs_state_bind owns most (with_parameters f.parameters values own) _ (runs_parameters f.parameters values own t c (All-weaker (Fits owns first) (Fits owns t) (λ v j. fits_kept owns most g j) values h) i) (λ given u e j.
        enter_body_runs f.body known given u c j))

    globals_runs : (names : List (List ℕ)) (first : State × H) (c : ℕ) → Runs owns most first c c (on_state (each (map declare_global names))) (Any owns most)
    globals_runs [] first c = runs_pure owns most tt (λ t g. tt)
    globals_runs (n ∷ ns) first c =
        runs_state_bind owns most (declare_global n) (λ _. each (map declare_global ns)) (still_runs owns most c c (omega arith) (still_declare_global owns most n)) (λ _ t g _. globals_runs ns t c)

    pub enter_unit_runs : (u : Unit') → All (λ h. owns.function h.function) u.body.hoisted → (first : State × H) (c : ℕ) → Runs owns most first c c (on_state (enter_unit functions u)) FitsActivation
    unfolding enter_unit
    enter_unit_runs u known first c =
        runs_state_bind owns most (each (map declare_global u.globals)) _ (globals_runs u.globals first c) (λ _ t g _. enter_body_runs u.body known [] t c (All-nil (Names t.0.store Kind.variable)))
