-- The cell of an array that changes.
use Rattle.std.proofs.Common.{◌≡◌, ℕ, zero, suc, ◌-◌, List, [], ◌∷◌, ◌++◌, length, take, Some, refl, sym, ap, ◌∙◌, arith}
use Rattle.std.specs.Prelude.{slice_get, slice_set}
use Rattle.std.proofs.lemmas.List.{take_at, length-append}
use Rattle.mt_ops_methods.specs.Arguments.{given}
use Rattle.mt_ops.specs.declared.outcome.Outcome.{Outcome}
use Rattle.mt_ops.specs.declared.outcome.Outcome.TheVariants as outcome
use Rattle.mt_value.specs.declared.cell.Cell.{Cell}
use Rattle.mt_value.specs.declared.cell.Cell.TheVariants as cell
use Rattle.mt_value.specs.declared.value.Value.{Value}

pub at_end : {A : Type 0} (front : List A) (last : A) → slice_get (front ++ last ∷ []) (length front) ≡ Some last
at_end [] last = refl
at_end (x ∷ front) last = at_end front last

-- what is left, and what was taken out
pub taken_out : (items front : List Value) (last : Value) → items ≡ front ++ last ∷ [] → (last ≡ given (slice_get items (length items - 1))) × (cell.Arr front ≡ cell.Arr (take (length items - 1) items))
taken_out items front last is =
    let count : length items - 1 ≡ length front = (let both = ap length is ∙ length-append front (last ∷ []) in omega (arith, both)) in (
      sym (ap given (ap (slice_get items) count ∙ ap (λ (xs : List Value). slice_get xs (length front)) is ∙ at_end front last)),
      sym (ap cell.Arr (ap (λ n. take n items) count ∙ ap (take (length front)) is ∙ take_at front (last ∷ []) (length front) refl)),
    )

pub set_twice : (store : List Cell) (at : ℕ) (a b : Cell) → slice_set (slice_set store at a) at b ≡ slice_set store at b
set_twice [] at a b = refl
set_twice (c ∷ store) zero a b = refl
set_twice (c ∷ store) (suc at) a b = ap (λ cs. c ∷ cs) (set_twice store at a b)

pub same_cell : (a b : Cell) → Some a ≡ Some b → a ≡ b
same_cell a b e = cc

pub same_items : (a b : List Value) → cell.Arr a ≡ cell.Arr b → a ≡ b
same_items a b e = cc

-- the cell is taken out, changed and put back
pub put_back : (store between new : List Cell) (at : ℕ) (placeholder changed meant : Cell) → between ≡ slice_set store at placeholder → new ≡ slice_set between at changed → changed ≡ meant → new ≡ slice_set store at meant
put_back store between new at placeholder changed meant out back is =
    back ∙ ap (λ cells. slice_set cells at changed) out ∙ set_twice store at placeholder changed ∙ ap (slice_set store at) is

pub answers : (v w : Value) (old new : List Cell) → v ≡ w → old ≡ new → ◌≡◌ {A = Outcome × List Cell} (outcome.Value v, old) (outcome.Value w, new)
answers v w old new e f = λ i. (outcome.Value (e i), f i)
