-- Cells that are put, and those that aren't.
use Rattle.std.proofs.Common.{◌≡◌, ℕ, zero, suc, true, false, List, [], ◌∷◌, Option, None, Some, refl, ap}
use Rattle.std.specs.Prelude.{slice_get, slice_set}
use Rattle.mt_eval_meaning.specs.References.{declare_variable, variable_put}
use Rattle.mt_eval_meaning.specs.Runs.{gives}
use Rattle.mt_eval_meaning.specs.State.{put_cell}
use Rattle.mt_eval_meaning.specs.declared.state.State.{State}
use Rattle.mt_eval_steps.specs.Readable.{is_variable}
use Rattle.mt_value.specs.declared.cell.Cell.{Cell}
use Rattle.mt_value.specs.declared.cell.Cell.TheVariants as cell
use Rattle.mt_value.specs.declared.value.Value.{Value}

pub put_nowhere : (store : List Cell) (at : ℕ) (c : Cell) → slice_get store at ≡ None → slice_set store at c ≡ store
put_nowhere [] at c is = refl
put_nowhere (d ∷ store) zero c is = absurd (cc)
put_nowhere (d ∷ store) (suc at) c is = ap (λ xs. d ∷ xs) (put_nowhere store at c is)

module _ (s : State) (at : ℕ) (v : Value) where
  put_in : (c : Option Cell) → is_variable c ≡ true → variable_put c at v s ≡ put_cell at (cell.Variable (Some v)) s
  put_in (Some (cell.Variable content)) is = refl
  put_in (Some (cell.Arr items)) is = absurd (cc)
  put_in (Some (cell.Obj properties)) is = absurd (cc)
  put_in (Some (cell.Fun f)) is = absurd (cc)
  put_in (Some (cell.Frame f)) is = absurd (cc)
  put_in (Some (cell.Html h)) is = absurd (cc)
  put_in (Some (cell.Code c)) is = absurd (cc)
  put_in None is = absurd (cc)

  put_nothing : (c : Option Cell) → is_variable c ≡ false → variable_put c at v s ≡ gives tt s
  put_nothing (Some (cell.Variable content)) is = absurd (cc)
  put_nothing (Some (cell.Arr items)) is = refl
  put_nothing (Some (cell.Obj properties)) is = refl
  put_nothing (Some (cell.Fun f)) is = refl
  put_nothing (Some (cell.Frame f)) is = refl
  put_nothing (Some (cell.Html h)) is = refl
  put_nothing (Some (cell.Code c)) is = refl
  put_nothing None is = refl

  pub declares : is_variable (slice_get s.store at) ≡ true → declare_variable at v s ≡ put_cell at (cell.Variable (Some v)) s
  unfolding declare_variable
  declares is = put_in (slice_get s.store at) is

  pub declares_nothing : is_variable (slice_get s.store at) ≡ false → declare_variable at v s ≡ gives tt s
  unfolding declare_variable
  declares_nothing is = put_nothing (slice_get s.store at) is
