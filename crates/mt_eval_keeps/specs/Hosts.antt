-- What the calls of a host keep.
use Rattle.std.specs.Prelude.{ℕ, List, ◌++◌, length, map, All, IsTrue}
use Rattle.mt_eval_keeps.specs.Growth.{Owning, Thing, FitsCell, Fits, OwnValue, Good}
use Rattle.mt_eval_keeps.specs.Growth as thing
use Rattle.mt_eval_meaning.specs.Host.{Answer, Answering, Meaning, added_cell, seen}
use Rattle.mt_eval_meaning.specs.declared.exit.Done.{Done}
use Rattle.mt_eval_meaning.specs.declared.exit.Done.TheVariants as done
use Rattle.mt_eval_meaning.specs.declared.named_value.NamedValue.{NamedValue}
use Rattle.mt_eval_meaning.specs.declared.state.State.{State}
use Rattle.mt_value.specs.Lawful.{function, Names, Lawful, LawfulValue}
use Rattle.mt_value.specs.Limits.{text_fits}
use Rattle.mt_value.specs.declared.cell.Cell.{Cell}
use Rattle.mt_value.specs.declared.value.Native.{Native}
use Rattle.mt_value.specs.declared.value.Value.{Value}

-- `allowed` says which tags, names of attributes and numbers of children elements have.
module _ {H : Type 0} (owns : Owning H) (most : ℕ) (allowed : List ℕ → List (List ℕ) → ℕ → Type 0) where
  abbrev pub FitsDone : List Cell → H → Done → Type 0
  FitsDone store h (done.Value v) = LawfulValue store v × OwnValue owns h v
  FitsDone store h (done.Throw v) = LawfulValue store v × OwnValue owns h v
  FitsDone store h (done.Stop w) = Unit {0}

  -- the store with the new cells is lawful, and so is what is given or thrown; what was the host's own stays so
  pub record KeepsAnswer (h : H) (store : List Cell) (steps : ℕ) (a : Answer H) : Type 0 where
    pub lawful : Lawful (store ++ map added_cell a.added)
    pub value : FitsDone (store ++ map added_cell a.added) a.host a.outcome
    pub host : (x : Thing) → owns.has h x → owns.has a.host x
    pub cells : All (FitsCell owns most a.host steps) (map added_cell a.added)
    pub addresses : All (Names (store ++ map added_cell a.added) function) (owns.addresses a.host)

  abbrev pub KeepsCall : (State × H → Type 0) → Answering H → Type 0
  KeepsCall pre call = (n : ℕ) (s : State × H) → Good owns most n s → pre s → KeepsAnswer s.1 s.0.store n (call s.1 (seen s.0.store) s.0.budget)

  -- each call keeps all, where its values fit
  pub record KeepsAll (host : Meaning H) : Type 0 where
    pub native : (which : Native) (arguments : List Value) → KeepsCall (λ s. All (Fits owns s) arguments) (host.native which arguments)
    pub method : (base : Value) (key : List ℕ) (arguments : List Value) → KeepsCall (λ s. Fits owns s base × IsTrue (text_fits key) × All (Fits owns s) arguments) (host.method base key arguments)
    pub get : (base : Value) (key : List ℕ) → KeepsCall (λ s. Fits owns s base × IsTrue (text_fits key)) (host.get base key)
    pub set : (base : Value) (key : List ℕ) (v : Value) → KeepsCall (λ s. Fits owns s base × IsTrue (text_fits key) × Fits owns s v) (host.set base key v)
    pub frame : (service : List ℕ) (arguments : List Value) → KeepsCall (λ s. IsTrue (text_fits service) × All (Fits owns s) arguments) (host.frame service arguments)
    pub staged : (tilde : ℕ) (values : List Value) → KeepsCall (λ s. owns.has s.1 (thing.tilde tilde (length values)) × All (Fits owns s) values) (host.staged tilde values)
    pub element : (tag : List ℕ) (attributes : List NamedValue) (children : List Value)
        → KeepsCall (λ s. allowed tag (map (λ a. a.name) attributes) (length children) × All (λ a. Fits owns s a.value) attributes × All (Fits owns s) children) (host.element tag attributes children)
