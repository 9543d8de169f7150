-- What a lawful state stays between two jobs.
use Rattle.std.proofs.Common.{◌≡◌, ℕ, ◌+◌, ◌≤◌, ◌<◌, ◌^◌, List, [], ◌∷◌, ◌++◌, length, sym, subst, arith}
use Rattle.std.specs.Prelude.{All, IsTrue, Some, slice_get}
use Rattle.std.proofs.lemmas.List.Elements.{All-nil, All-push, All-weaker}
use Rattle.mt_eval_keeps.specs.Between.{empty_state, with_host, with_steps, with_store}
use Rattle.mt_eval_keeps.specs.Growth.{Owning, Thing, FitsCell, Fits, Good, Grew}
use Rattle.mt_eval_keeps.specs.Growth as thing
use Rattle.mt_eval_keeps.specs.Kept.{Tests, has, owns, Fit, IsFit, IsLawful, Kept}
use Rattle.mt_eval_keeps.proofs.Building.{build_stays}
use Rattle.mt_eval_keeps.proofs.Operations.{all_at}
use Rattle.mt_eval_keeps.proofs.Runs.{fits_kept, own_cell_kept, same_cells}
use Rattle.mt_eval_keeps.proofs.Steps.{added_grew, added_names, good_store, store_grew}
use Rattle.mt_eval_meaning.specs.Building.{build}
use Rattle.mt_eval_meaning.specs.Host.{Meaning}
use Rattle.mt_eval_meaning.specs.declared.state.State.{State}
use Rattle.mt_eval_meaning.specs.declared.function.Function.{Function}
use Rattle.mt_syntax.specs.DataLimits.{nodes_of_data}
use Rattle.mt_tree.specs.declared.data.Data.{Data}
use Rattle.mt_value.proofs.Laws.{lawful_added}
use Rattle.mt_value.specs.Lawful.{Kind, Names, LawfulCell}
use Rattle.mt_value.specs.Limits.{data_fits}
use Rattle.mt_value.specs.declared.cell.Cell.TheVariants as cell
use Rattle.mt_value.specs.declared.cell.FunCell.{FunCell}
use Rattle.mt_value.specs.declared.value.Value.{Value}
use Rattle.mt_value.specs.declared.value.Value.TheVariants as value

module _ {H : Type 0} (owning : Owning H) where
  pub begins : (most steps : ℕ) (host : H) → 64 + steps ≤ most → owning.has host thing.itself → owning.addresses host ≡ [] → Good owning most steps (empty_state steps, host)
  begins most steps host room sound none = record {
    store = record { cells = All-nil (LawfulCell []) };
    globals = All-nil (λ (v : List ℕ × Value). Fits owning (empty_state steps, host) v.1);
    cells = All-nil (FitsCell owning most host steps);
    room = room;
    host = sound;
    addresses = subst (All (Names [] Kind.function)) (sym none) (All-nil (Names [] Kind.function));
  }

  pub roomier : (most more steps left : ℕ) (s : State × H) → most + steps ≤ more + left → Good owning most left s → Good owning more steps (with_steps steps s)
  roomier most more steps left s le k = record {
    store = k.store;
    globals = All-weaker (λ (v : List ℕ × Value). Fits owning s v.1) (λ (v : List ℕ × Value). Fits owning (with_steps steps s) v.1) (λ v f. record { lawful = f.lawful; own = f.own }) s.0.globals k.globals;
    cells = All-weaker (FitsCell owning most s.1 left) (FitsCell owning more s.1 steps) (λ c f. record { own = f.own; room = omega (arith, le, f.room) }) s.0.store k.cells;
    room = omega (arith, le, k.room);
    host = k.host;
    addresses = k.addresses;
  }

  pub host_grew : (s : State × H) (host : H) → ((x : Thing) → owning.has s.1 x → owning.has host x) → Grew owning s (with_host s host)
  host_grew s host f = record { store = same_cells s.0.store; host = f }

  pub with_other : (most n : ℕ) (s : State × H) (host : H) → ((x : Thing) → owning.has s.1 x → owning.has host x) → All (Names s.0.store Kind.function) (owning.addresses host) → Good owning most n s → Good owning most n (with_host s host)
  with_other most n s host f named k = record {
    store = k.store;
    globals = All-weaker (λ (v : List ℕ × Value). Fits owning s v.1) (λ (v : List ℕ × Value). Fits owning (with_host s host) v.1) (λ v q. fits_kept owning most (host_grew s host f) q) s.0.globals k.globals;
    cells = All-weaker (FitsCell owning most s.1 n) (FitsCell owning most host n) (λ c q. record { own = own_cell_kept owning most s.1 host f c q.own; room = q.room }) s.0.store k.cells;
    room = k.room;
    host = f thing.itself k.host;
    addresses = named;
  }

module _ {H : Type 0} (tests : Tests H) (most : ℕ) where
  -- what passes the test of the one passes that of the other
  passed : (h k : H) → ((x : Thing) → IsTrue (tests.own h x) → IsTrue (tests.own k x)) → (x : Thing) → has tests h x → has tests k x
  passed h k f (thing.node n) o = f (thing.node n) o
  passed h k f (thing.event n) o = f (thing.event n) o
  passed h k f (thing.frame c) o = f (thing.frame c) o
  passed h k f (thing.html t) o = f (thing.html t) o
  passed h k f (thing.code c) o = f (thing.code c) o
  passed h k f (thing.tilde id n) o = f (thing.tilde id n) o
  passed h k f thing.itself o = (f thing.itself o.0, λ id n t. f (thing.tilde id n) (o.1 id n t))

  pub host_kept : (s : State × H) (host : H) → ((x : Thing) → IsTrue (tests.own s.1 x) → IsTrue (tests.own host x)) → All (Names s.0.store Kind.function) (tests.addresses host) → IsLawful tests most s → Kept tests most s (with_host s host)
  host_kept s host f named k = record {
    lawful = with_other (owns tests) most s.0.budget s host (passed s.1 host f) named k;
    grew = host_grew (owns tests) s host (passed s.1 host f);
    budget = omega arith;
  }

  pub data_kept : most < 2 ^ 53 → (d : Data) → IsTrue (data_fits d) → (s : State × H) → nodes_of_data d + s.0.budget ≤ most → IsLawful tests most s
      → Kept tests most s (with_store s (build d s.0.store).1) × IsFit tests (with_store s (build d s.0.store).1) (build d s.0.store).0
  data_kept small d fit s room k =
      let le : nodes_of_data d ≤ nodes_of_data d = omega arith in
      let b = build_stays (owns tests) most small s.1 s.0.budget (nodes_of_data d) room d fit le s.0.store k.store k.cells in (
        record {
          lawful = good_store (owns tests) most s.0.budget s.0.budget s (build d s.0.store).1 (omega arith) k b.grew b.lawful b.cells;
          grew = store_grew (owns tests) most s (build d s.0.store).1 b.grew;
          budget = omega arith;
        },
        record { lawful = b.value.lawful; own = b.value.own },
      )

  pub function_kept : (f : FunCell) (s : State × H) → IsTrue (tests.function f.function) → All (Names s.0.store Kind.variable) f.captured → IsLawful tests most s
      → Kept tests most s (with_store s (s.0.store ++ cell.Fun f ∷ [])) × IsFit tests (with_store s (s.0.store ++ cell.Fun f ∷ [])) (value.Fun (length s.0.store))
  function_kept f s number named k =
      let c = cell.Fun f in
      let new = s.0.store ++ c ∷ [] in
      let g = added_grew s.0.store (c ∷ []) in
      let l = lawful_added s.0.store c k.store (All-weaker (Names s.0.store Kind.variable) (Names new Kind.variable) (λ at n. g.kinds Kind.variable at n) f.captured named) in (
        record {
          lawful = good_store (owns tests) most s.0.budget s.0.budget s new (omega arith) k g l (All-push (FitsCell (owns tests) most s.1 s.0.budget) s.0.store c k.cells (record { own = number; room = omega (arith, k.room) }));
          grew = store_grew (owns tests) most s new g;
          budget = omega arith;
        },
        record { lawful = added_names s.0.store c; own = tt },
      )

  pub functions_fit : (s : State × H) → IsLawful tests most s → All (λ at. IsFit tests s (value.Fun at)) (tests.addresses s.1)
  functions_fit s k = All-weaker (Names s.0.store Kind.function) (λ at. IsFit tests s (value.Fun at)) (λ at n. record { lawful = n; own = tt }) (tests.addresses s.1) k.addresses

  -- each function in the store is one of the code
  pub function_there : (host : Meaning H) (functions : List Function) → Fit tests most host functions → (s : State × H) → IsLawful tests most s → (at : ℕ) (f : FunCell) → slice_get s.0.store at ≡ Some (cell.Fun f) → (g : Function) × (slice_get functions f.function ≡ Some g)
  function_there host functions fit s k at f is =
      let there = fit.code.bodies f.function (all_at (FitsCell (owns tests) most s.1 s.0.budget) s.0.store at (cell.Fun f) k.cells is).own in
      (there.0, there.1)
