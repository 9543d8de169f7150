-- On an empty store a service captures the addresses that the environment of the file's top gives to the names free in it.
use Rattle.std.proofs.Common.{◌≡◌, ℕ, List, [], ◌∷◌, map, None, Bool, true, false, cond, refl, sym, ap, ◌∙◌}
use Rattle.mt_eval_meaning.specs.Agreement.{StartsAs, start_environment, without_functions}
use Rattle.mt_eval_meaning.specs.Code.{AllStand}
use Rattle.mt_eval_meaning.specs.Free.{Names, has, without, cut, free_of}
use Rattle.mt_eval_meaning.specs.Scopes.{Slot, Scope, body_entry}
use Rattle.mt_eval_meaning.specs.States.{Numbered}
use Rattle.mt_eval_agreement.proofs.Whole.{start_law}
use Rattle.mt_eval_meaning.specs.Entering.{Named}
use Rattle.mt_eval_meaning.specs.Evaluation.{file}
use Rattle.mt_eval_meaning.specs.Hoisting.{services}
use Rattle.mt_eval_meaning.specs.Host.{Meaning}
use Rattle.mt_eval_meaning.specs.Names.{Binding, Environment}
use Rattle.mt_eval_meaning.specs.Runs.{Ran, gives, leaves}
use Rattle.mt_eval_meaning.specs.declared.state.State.{State}
use Rattle.mt_resolve.specs.Captured.{CapturesIn}
use Rattle.mt_resolve.specs.Resolved.{ProgramStands, ServiceStands, around_file}
use Rattle.mt_resolve.specs.Services.{Contents}
use Rattle.mt_resolve.specs.declared.service.Service.{Service}
use Rattle.mt_eval_meaning.specs.Slots as slots
use Rattle.mt_eval_meaning.specs.declared.function.Function.{Function}
use Rattle.mt_syntax.specs.declared.program.Program.{Program}
use Rattle.mt_syntax.specs.declared.program.Tilde.{Tilde}
use Rattle.mt_syntax.specs.declared.tree.Function.{Function as SyntaxFunction}
use Rattle.mt_syntax.specs.declared.tree.Stmt.{Stmt}
use Rattle.mt_value.specs.declared.value.Value.{Value}

-- the name of a slot, whose cell stands at the place of the slot's number
abbrev placed : Slot → Binding
placed s = record { name = s.name; address = s.slot; constant = s.constant }

-- ---- what is cut of the environment, and of the scope

cut_at : (b : Bool) (s : Slot) (taken skipped : Scope) (xs ys : Environment) → xs ≡ map placed taken → ys ≡ map placed skipped
    → cond {A = Environment} b (placed s ∷ xs) ys ≡ map placed (cond {A = Scope} b (s ∷ taken) skipped)
cut_at true s taken skipped xs ys e k = ap (λ (es : Environment). placed s ∷ es) e
cut_at false s taken skipped xs ys e k = k

cut_placed : (free : Names) (scope : Scope) → cut (λ b. b.name) free (map placed scope) ≡ map placed (cut (λ s. s.name) free scope)
cut_placed free [] = refl
cut_placed free (s ∷ scope) =
    cut_at (has free s.name) s (cut (λ s. s.name) (without (s.name ∷ []) free) scope) (cut (λ s. s.name) free scope)
    (cut (λ b. b.name) (without (s.name ∷ []) free) (map placed scope)) (cut (λ b. b.name) free (map placed scope))
    (cut_placed (without (s.name ∷ []) free) scope) (cut_placed free scope)

addresses : (scope : Scope) → map (λ s. s.slot) scope ≡ map (λ b. b.address) (map placed scope)
addresses [] = refl
addresses (s ∷ scope) = ap (λ (ns : List ℕ). s.slot ∷ ns) (addresses scope)

-- ---- services

module _ (p : Program) (units : List Function) (table : List Numbered) (environment : Environment) (top : environment ≡ start_environment p.items) where
  captures : (s : Service) (f : List ℕ × SyntaxFunction) → ServiceStands (around_file p) units table (body_entry 0 None [] p.items) s f → CapturesIn p environment s f
  captures s f h =
      let entry : Scope = body_entry 0 None [] p.items in
      let free : Names = free_of p.tildes None f.1 in
      h.captured ∙ addresses (cut (λ s. s.name) free entry) ∙ ap (map (λ b. b.address)) (sym (cut_placed free entry))
      ∙ ap (λ (e : Environment). map (λ b. b.address) (cut (λ b. b.name) free e)) (sym top)

  all_capture : (ss : List Service) (fs : List (List ℕ × SyntaxFunction)) → AllStand (ServiceStands (around_file p) units table (body_entry 0 None [] p.items)) ss fs → AllStand (CapturesIn p environment) ss fs
  all_capture [] [] h = tt
  all_capture (s ∷ ss) (f ∷ fs) h = (captures s f h.0, all_capture ss fs h.1)
  all_capture [] (f ∷ fs) h = absurd h
  all_capture (s ∷ ss) [] h = absurd h

-- the file gives just one environment
environment_is : {H : Type 0} (tildes : List Tilde) (table : List Numbered) (items : List Stmt) (ran : Ran (State × Named H) Environment) (r : Ran (State × H) Value) (environment : Environment) (t : State × Named H)
    → StartsAs tildes table items ran r → ran ≡ gives environment t → environment ≡ start_environment items
environment_is tildes table items ran (gives v s) environment t h is = let e = h.1 in cc
environment_is tildes table items ran (leaves x s) environment t h is = let e = h.1 in cc

pub all_captured : {H : Type 0} (host : Meaning H) (p : Program) (code : Contents) → ProgramStands p code → (s t : State × Named H) (environment : Environment) → s.0.store ≡ [] → s.1.closures ≡ []
    → file (around_file p) host p.items s ≡ gives environment t → AllStand (CapturesIn p environment) code.services (services p.items)
all_captured {H = H} host p code stands s t environment no_cells no_closures is =
    let on_slots : State × H = (s.0, s.1.host) in
    let start : without_functions on_slots ≡ s = λ i. (s.0, record s.1 { closures = sym no_closures i }) in
    let starts = start_law (around_file p) code.functions stands.table host stands.functions.stands stands.top p.items stands.file on_slots no_cells in
    let top = environment_is p.tildes stands.table p.items (file (around_file p) host p.items (without_functions on_slots)) (slots.unit code.functions host stands.top on_slots) environment t starts (ap (file (around_file p) host p.items) start ∙ is) in
    all_capture p code.functions stands.table environment top code.services (services p.items) stands.services
