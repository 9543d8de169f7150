-- A level of the walk, for the search.
use Rattle.std.proofs.Common.{◌≡◌, ℕ, zero, suc, ◌-◌, ◌<◌, List, refl, ap, arith}
use Rattle.mt_marshal.specs.Snapshot.{array, array_at, datum, node, object, object_at, refuse}
use Rattle.mt_marshal.specs.declared.rule.MarshalRule.TheVariants as rule
use Rattle.mt_value.specs.declared.cell.Cell.{Cell}
use Rattle.mt_value.specs.declared.value.Value.{Value}
use Rattle.mt_marshal.specs.declared.counts.Counts.{Counts}

module _ (store : List Cell) where
  pub datum_is : (levels : ℕ) (path : List ℕ) (v : Value) (c : Counts) → datum store levels path v c ≡ node store levels (array_at store levels) (object_at store levels) path v c
  unfolding datum array_at object_at
  datum_is zero path v c = refl
  datum_is (suc levels) path v c = refl

  pub array_too_deep : (path : List ℕ) (at : ℕ) (c : Counts) → array_at store 0 path at c ≡ refuse rule.M5 c
  unfolding array_at
  array_too_deep path at c = refl

  pub object_too_deep : (path : List ℕ) (at : ℕ) (c : Counts) → object_at store 0 path at c ≡ refuse rule.M5 c
  unfolding object_at
  object_too_deep path at c = refl

  pub array_below : (levels : ℕ) (path : List ℕ) (at : ℕ) (c : Counts) → 0 < levels → array_at store levels path at c ≡ array store (datum store (levels - 1)) path at c
  unfolding array_at
  array_below zero path at c some = absurd (omega arith)
  array_below (suc levels) path at c some = ap (λ n. array store (datum store n) path at c) (omega arith)

  pub object_below : (levels : ℕ) (path : List ℕ) (at : ℕ) (c : Counts) → 0 < levels → object_at store levels path at c ≡ object store (datum store (levels - 1)) path at c
  unfolding object_at
  object_below zero path at c some = absurd (omega arith)
  object_below (suc levels) path at c some = ap (λ n. object store (datum store n) path at c) (omega arith)
