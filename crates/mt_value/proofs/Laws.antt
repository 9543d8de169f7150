-- What a lawful store keeps when a cell is added or takes the place of another.
use Rattle.std.proofs.Common.{ℕ, zero, suc, List, [], ◌∷◌, ◌++◌, None, Some, sym, ◌∙◌}
use Rattle.std.specs.Prelude.{All, slice_set}
use Rattle.std.proofs.lemmas.List.Elements.{All-weaker, All-push, All-set}
use Rattle.mt_value.specs.Globals.{Variables}
use Rattle.mt_value.specs.Lawful.{Kind, kind_of, Names, Keeps, LawfulValue, LawfulCell, Lawful, LawfulVariables}
use Rattle.mt_value.specs.declared.cell.Cell.{Cell}
use Rattle.mt_value.specs.declared.cell.Cell.TheVariants as cell
use Rattle.mt_value.specs.declared.value.Value.{Value}
use Rattle.mt_value.specs.declared.value.Value.TheVariants as value

pub keeps_added : (store cells : List Cell) → Keeps store (store ++ cells)
keeps_added [] cells kind at named = absurd (cc)
keeps_added (c ∷ store) cells kind zero named = named
keeps_added (c ∷ store) cells kind (suc at) named = keeps_added store cells kind at named

pub keeps_put : (store : List Cell) (at : ℕ) (new : Cell) → Names store (kind_of new) at → Keeps store (slice_set store at new)
keeps_put [] at new same kind place named = named
keeps_put (c ∷ store) zero new same kind zero named = sym same ∙ named
keeps_put (c ∷ store) zero new same kind (suc place) named = named
keeps_put (c ∷ store) (suc at) new same kind zero named = named
keeps_put (c ∷ store) (suc at) new same kind (suc place) named = keeps_put store at new same kind place named

pub keeps_all : (a b c : List Cell) → Keeps a b → Keeps b c → Keeps a c
keeps_all a b c first then kind at named = then kind at (first kind at named)

module _ (old new : List Cell) (keeps : Keeps old new) where
  pub value_kept : (v : Value) → LawfulValue old v → LawfulValue new v
  value_kept value.Undefined h = h
  value_kept value.Null h = h
  value_kept (value.Bool b) h = h
  value_kept (value.Num n) h = h
  value_kept (value.Text text) h = h
  value_kept (value.Arr at) h = keeps Kind.array at h
  value_kept (value.Obj at) h = keeps Kind.object at h
  value_kept (value.Fun at) h = keeps Kind.function at h
  value_kept (value.Svc name) h = h
  value_kept (value.Frame at) h = keeps Kind.frame at h
  value_kept (value.Html at) h = keeps Kind.html at h
  value_kept (value.Code at) h = keeps Kind.code at h
  value_kept (value.Node n) h = h
  value_kept (value.Event n) h = h
  value_kept (value.Native n) h = h

  pub values_kept : (vs : List Value) → All (LawfulValue old) vs → All (LawfulValue new) vs
  values_kept = All-weaker (LawfulValue old) (LawfulValue new) value_kept

  pub cell_kept : (c : Cell) → LawfulCell old c → LawfulCell new c
  cell_kept (cell.Variable None) h = h
  cell_kept (cell.Variable (Some v)) h = value_kept v h
  cell_kept (cell.Arr items) h = record { values = values_kept items h.values; count = h.count }
  cell_kept (cell.Obj properties) h = record {
    values = All-weaker (λ p. LawfulValue old p.value) (λ p. LawfulValue new p.value) (λ p. value_kept p.value) properties h.values;
    texts = h.texts;
    names = h.names;
    count = h.count;
  }
  cell_kept (cell.Fun f) h = All-weaker (Names old Kind.variable) (Names new Kind.variable) (keeps Kind.variable) f.captured h
  cell_kept (cell.Frame f) h = h
  cell_kept (cell.Html t) h = h
  cell_kept (cell.Code c) h = h

  pub variables_kept : (vs : Variables) → LawfulVariables old vs → LawfulVariables new vs
  variables_kept vs h = record { values = All-weaker (λ v. LawfulValue old v.1) (λ v. LawfulValue new v.1) (λ v. value_kept v.1) vs h.values }

pub lawful_added : (store : List Cell) (c : Cell) → Lawful store → LawfulCell (store ++ c ∷ []) c → Lawful (store ++ c ∷ [])
lawful_added store c lawful here =
    let grown = store ++ c ∷ [] in
    record { cells = All-push (LawfulCell grown) store c (All-weaker (LawfulCell store) (LawfulCell grown) (cell_kept store grown (keeps_added store (c ∷ []))) store lawful.cells) here }

pub lawful_put : (store : List Cell) (at : ℕ) (c : Cell) → Names store (kind_of c) at → Lawful store → LawfulCell (slice_set store at c) c → Lawful (slice_set store at c)
lawful_put store at c same lawful here =
    let changed = slice_set store at c in
    record { cells = All-set (LawfulCell changed) store at c here (All-weaker (LawfulCell store) (LawfulCell changed) (cell_kept store changed (keeps_put store at c same)) store lawful.cells) }
