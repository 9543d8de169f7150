-- The start of a program ends as its unit on slots does.
use Rattle.std.proofs.Common.{◌≡◌, ℕ, List, Some, Result, refl, ap, ap₂, sym, subst, ◌∙◌, if◌then◌else◌, slice_get, IfOk}
use Rattle.mt_eval_agreement.proofs.Stores.{seen_at}
use Rattle.mt_eval_agreement.proofs.Whole.{start_law}
use Rattle.mt_eval_meaning.specs.Agreement.{StartsAs}
use Rattle.mt_eval_meaning.specs.Code.{FileStands}
use Rattle.mt_eval_meaning.specs.States.{Numbered}
use Rattle.mt_eval_meaning.specs.Entering.{Named}
use Rattle.mt_eval_meaning.specs.Host.{done_ran, seen, seen_cell}
use Rattle.mt_eval_meaning.specs.Names.{Environment}
use Rattle.mt_eval_meaning.specs.Runs.{Ran, gives, leaves}
use Rattle.mt_eval_meaning.specs.declared.exit.Done.{Done}
use Rattle.mt_eval_meaning.specs.declared.exit.Exit.{Exit}
use Rattle.mt_eval_meaning.specs.declared.exit.Exit.TheVariants as exit
use Rattle.mt_eval_meaning.specs.declared.state.State.{State}
use Rattle.mt_builtins.specs.Plain.{Plain, fresh, plain}
use Rattle.mt_ops_properties.specs.ErrorText.{error_text, error_of, thrown_text, within_bytes}
use Rattle.mt_ops_properties.specs.Keys.{key_text, text_or}
use Rattle.mt_resolve.specs.Resolved.{ProgramStands, around_file}
use Rattle.mt_resolve.specs.Services.{Contents}
use Rattle.mt_eval_meaning.specs.Slots as slots
use Rattle.mt_eval_meaning.specs.declared.function.Function.{Function}
use Rattle.mt_eval_meaning.specs.declared.function.Unit.{Unit as Unit'}
use Rattle.mt_start.specs.Starts.{EndsLike, started, failed, unbuilt, empty_state, exit_text, ending_of, ending_on, start_of}
use Rattle.mt_start.specs.declared.startup.Startup.{Startup}
use Rattle.mt_syntax.specs.declared.program.Program.{Program}
use Rattle.mt_syntax.specs.declared.program.Tilde.{Tilde}
use Rattle.mt_syntax.specs.declared.tree.Stmt.{Stmt}
use Rattle.mt_tree.specs.declared.fault.NoMemory.{NoMemory}
use Rattle.mt_value.specs.declared.cell.Cell.{Cell}
use Rattle.mt_value.specs.declared.cell.Cell.TheVariants as cell
use Rattle.mt_value.specs.declared.value.Value.{Value}
use Rattle.mt_value.specs.declared.value.Value.TheVariants as value

-- ---- the text of what was thrown is that of the store that a host sees

error_seen : (c : Cell) → error_of (Some (seen_cell c)) ≡ error_of (Some c)
error_seen (cell.Fun f) = refl
error_seen (cell.Variable v) = refl
error_seen (cell.Arr items) = refl
error_seen (cell.Obj properties) = refl
error_seen (cell.Frame f) = refl
error_seen (cell.Html h) = refl
error_seen (cell.Code c) = refl

text_seen : (store : List Cell) (v : Value) → error_text (seen store) v ≡ error_text store v
unfolding thrown_text
text_seen store (value.Obj at) = ap (λ o. within_bytes 4096 (text_or o (key_text (value.Obj at)))) (seen_at error_of error_seen store at)
text_seen store value.Undefined = refl
text_seen store value.Null = refl
text_seen store (value.Bool b) = refl
text_seen store (value.Num n) = refl
text_seen store (value.Text t) = refl
text_seen store (value.Arr at) = refl
text_seen store (value.Fun at) = refl
text_seen store (value.Native n) = refl
text_seen store (value.Svc s) = refl
text_seen store (value.Frame at) = refl
text_seen store (value.Html at) = refl
text_seen store (value.Code at) = refl
text_seen store (value.Node n) = refl
text_seen store (value.Event n) = refl

exit_seen : (store : List Cell) (x : Exit) → exit_text (seen store) x ≡ exit_text store x
exit_seen store (exit.Throw v) = text_seen store v
exit_seen store (exit.Stop w) = refl
exit_seen store exit.NoMemory = refl

-- ---- from the run by names to the run on slots

host_reported : (text : List ℕ) (h g : Plain) → h ≡ g → (if h.beyond then unbuilt else failed text) ≡ (if g.beyond then unbuilt else failed text)
host_reported text h g same = ap (λ (x : Plain). if x.beyond then unbuilt else failed text) same

pub reported : (tildes : List Tilde) (table : List Numbered) (items : List Stmt) (ran : Ran (State × Named Plain) Environment) (r : Ran (State × Plain) Value)
    → StartsAs tildes table items ran r → ending_of ran ≡ ending_on r
reported tildes table items ran (gives v s) (n, is, stands) = ap ending_of is ∙ ap (λ (x : Plain). if x.beyond then unbuilt else started x.log) stands.host
reported tildes table items ran (leaves e s) (n, is, stands) =
    ap ending_of is ∙ host_reported (exit_text n.0.store e) n.1.host s.1 stands.host
    ∙ ap (λ (text : List ℕ). if s.1.beyond then unbuilt else failed text) (ap (λ (cells : List Cell). exit_text cells e) stands.store.cells ∙ exit_seen s.0.store e)

-- the start of a program ends as its unit on slots
pub start_ending : (p : Program) (code : Contents) (u : Unit') → ProgramStands p code → slice_get code.units 0 ≡ Some u
    → ending_of (start_of p) ≡ ending_on (slots.unit code.functions plain u (empty_state, fresh))
unfolding start_of
start_ending p code u stands is =
    let top : Some stands.top ≡ Some u = sym (ap (λ (us : List Unit'). slice_get us 0) stands.units) ∙ is in
    let same : stands.top ≡ u = cc in
    let file = subst (λ (x : Unit'). FileStands (around_file p) code.functions stands.table x p.items) same stands.file in
    reported p.tildes stands.table p.items _ _ (start_law (around_file p) code.functions stands.table plain stands.functions.stands u p.items file (empty_state, fresh) refl)

-- what is reported of the end of the unit's run is reported of the start
pub reported_of_start : (p : Program) (code : Contents) (functions : List Function) (top : ℕ) (u : Unit') → ProgramStands p code → functions ≡ code.functions → top ≡ 0 → slice_get code.units top ≡ Some u
    → (begin : State) (new : Plain) → begin ≡ empty_state → new ≡ fresh
    → (done : Done) (s : State) (host : Plain) → slots.unit functions plain u (begin, new) ≡ done_ran done (s, host)
    → (result : Result Startup NoMemory) → IfOk result (λ ended. EndsLike (ending_on (done_ran done (s, host))) ended) → IfOk result (λ ended. EndsLike (ending_of (start_of p)) ended)
reported_of_start p code functions top u stands same first is begin new empty none done s host ran result ended =
    let unit : slice_get code.units 0 ≡ Some u = ap (λ n. slice_get code.units n) (sym first) ∙ is in
    let here : slots.unit code.functions plain u (empty_state, fresh) ≡ done_ran done (s, host) =
    ap₂ (λ (x : State) (h : Plain). slots.unit code.functions plain u (x, h)) (sym empty) (sym none)
    ∙ ap (λ (fs : List Function). slots.unit fs plain u (begin, new)) (sym same) ∙ ran in
    subst (λ e. IfOk result (λ ended. EndsLike e ended)) (sym (start_ending p code u stands unit ∙ ap ending_on here)) ended
