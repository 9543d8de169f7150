-- One turn of the loops that make variables.
use Rattle.std.proofs.Common.{◌≡◌, ℕ, suc, ◌-◌, ◌<◌, ◌≤◌, List, [], ◌∷◌, ◌++◌, Option, Some, append_assoc, sym, ap, ◌∙◌, arith}
use Rattle.std.proofs.lemmas.List.{append-nil}
use Rattle.mt_eval_meaning.specs.Entering.{first, rest}
use Rattle.mt_eval_meaning.specs.Runs.{gives, leaves, and_then}
use Rattle.mt_eval_meaning.specs.State.{add_cell}
use Rattle.mt_eval_meaning.specs.declared.exit.Exit.{Exit}
use Rattle.mt_eval_meaning.specs.declared.state.State.{State}
use Rattle.mt_eval_meaning.specs.Activations.{Activation, grown, with_parameters}
use Rattle.mt_value.specs.declared.cell.Cell.TheVariants as cell
use Rattle.mt_value.specs.declared.value.Value.{Value}

pub deeper : {X : Type 0} (f : ℕ → X) (n : ℕ) → 0 < n → f n ≡ f (suc (n - 1))
deeper f n some = let e : n ≡ suc (n - 1) = omega arith in ap f e

pub none_left : {X : Type 0} (f : ℕ → X) (n : ℕ) → n ≤ 0 → f n ≡ f 0
none_left f n none = let e : n ≡ 0 = omega arith in ap f e

-- what is put behind a list comes before what is still to come
pub behind : {A : Type 0} (made a rest new : List A) → new ≡ made ++ a → made ++ (a ++ rest) ≡ new ++ rest
behind made a rest new is = sym (append_assoc made a rest) ∙ ap (λ xs. xs ++ rest) (sym is)

pub none_behind : {A : Type 0} (xs : List A) → xs ++ [] ≡ xs
none_behind xs = append-nil xs

module _ (content : Option Value) (activation : Activation) (s s' : State) where
  pub grown_step : (n at : ℕ) → 0 < n → add_cell (cell.Variable content) s ≡ gives at s' → grown n content activation s ≡ grown (n - 1) content (activation ++ at ∷ []) s'
  grown_step n at some e = deeper (λ m. grown m content activation s) n some ∙ ap (λ r. and_then r (λ b. grown (n - 1) content (activation ++ b ∷ []))) e

  pub grown_left : (n : ℕ) (x : Exit) → 0 < n → add_cell (cell.Variable content) s ≡ leaves x s' → grown n content activation s ≡ leaves x s'
  grown_left n x some e = deeper (λ m. grown m content activation s) n some ∙ ap (λ r. and_then r (λ b. grown (n - 1) content (activation ++ b ∷ []))) e

pub grown_stop : (content : Option Value) (activation : Activation) (s : State) (n : ℕ) → n ≤ 0 → grown n content activation s ≡ gives activation s
grown_stop content activation s n none = none_left (λ m. grown m content activation s) n none

module _ (vs : List Value) (activation : Activation) (s s' : State) where
  pub parameters_step : (n at : ℕ) → 0 < n → add_cell (cell.Variable (Some (first vs))) s ≡ gives at s' → with_parameters n vs activation s ≡ with_parameters (n - 1) (rest vs) (activation ++ at ∷ []) s'
  parameters_step n at some e = deeper (λ m. with_parameters m vs activation s) n some ∙ ap (λ r. and_then r (λ b. with_parameters (n - 1) (rest vs) (activation ++ b ∷ []))) e

  pub parameters_left : (n : ℕ) (x : Exit) → 0 < n → add_cell (cell.Variable (Some (first vs))) s ≡ leaves x s' → with_parameters n vs activation s ≡ leaves x s'
  parameters_left n x some e = deeper (λ m. with_parameters m vs activation s) n some ∙ ap (λ r. and_then r (λ b. with_parameters (n - 1) (rest vs) (activation ++ b ∷ []))) e

pub parameters_stop : (vs : List Value) (activation : Activation) (s : State) (n : ℕ) → n ≤ 0 → with_parameters n vs activation s ≡ gives activation s
parameters_stop vs activation s n none = none_left (λ m. with_parameters m vs activation s) n none
