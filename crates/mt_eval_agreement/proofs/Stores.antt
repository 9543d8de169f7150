-- What a store on slots is by names: what is seen of its cells, and the functions in them.
use Rattle.std.proofs.Common.{◌≡◌, ℕ, zero, suc, List, [], ◌∷◌, ◌++◌, length, Option, Some, refl, sym, ap, ◌∙◌}
use Rattle.std.specs.Prelude.{slice_get, slice_set}
use Rattle.std.proofs.lemmas.List.{map-set, map-append, length-map}
use Rattle.mt_eval_meaning.specs.States.{Numbered}
use Rattle.mt_eval_agreement.proofs.Shown.{closures_in, closures_from, Knows, IsGood}
use Rattle.mt_eval_meaning.specs.Host.{seen, seen_cell}
use Rattle.mt_value.specs.declared.cell.Cell.{Cell}
use Rattle.mt_value.specs.declared.cell.Cell.TheVariants as cell

-- no cell of a function
abbrev pub IsPlain : Cell → Type 0
IsPlain (cell.Fun f) = ⊥
IsPlain _ = Unit {0}

pub seen_plain : (c : Cell) → IsPlain c → seen_cell c ≡ c
seen_plain (cell.Fun f) p = absurd p
seen_plain (cell.Variable v) p = refl
seen_plain (cell.Arr items) p = refl
seen_plain (cell.Obj properties) p = refl
seen_plain (cell.Frame f) p = refl
seen_plain (cell.Html h) p = refl
seen_plain (cell.Code c) p = refl

pub seen_added : (store : List Cell) (c : Cell) → IsPlain c → seen (store ++ c ∷ []) ≡ seen store ++ c ∷ []
seen_added store c p = map-append seen_cell store (c ∷ []) ∙ ap (λ d. seen store ++ d ∷ []) (seen_plain c p)

pub seen_set : (store : List Cell) (at : ℕ) (c : Cell) → IsPlain c → seen (slice_set store at c) ≡ slice_set (seen store) at c
seen_set store at c p = map-set seen_cell store at c ∙ ap (λ d. slice_set (seen store) at d) (seen_plain c p)

pub seen_length : (store : List Cell) → length (seen store) ≡ length store
seen_length store = length-map store seen_cell

-- what a function of a cell makes of one that is seen, where it makes the same of each cell
pub seen_at : {B : Type 0} (f : Option Cell → B) → ((c : Cell) → f (Some (seen_cell c)) ≡ f (Some c)) → (store : List Cell) (at : ℕ) → f (slice_get (seen store) at) ≡ f (slice_get store at)
seen_at f same [] at = refl
seen_at f same (c ∷ store) zero = same c
seen_at f same (c ∷ store) (suc at) = seen_at f same store at

module _ (table : List Numbered) where
  plain_closures : (at : ℕ) (c : Cell) → IsPlain c → closures_in table at c ≡ []
  plain_closures at (cell.Fun f) p = absurd p
  plain_closures at (cell.Variable v) p = refl
  plain_closures at (cell.Arr items) p = refl
  plain_closures at (cell.Obj properties) p = refl
  plain_closures at (cell.Frame f) p = refl
  plain_closures at (cell.Html h) p = refl
  plain_closures at (cell.Code c) p = refl

  plain_known : (c : Cell) → IsPlain c → Knows table c
  plain_known (cell.Fun f) p = absurd p
  plain_known (cell.Variable v) p = tt
  plain_known (cell.Arr items) p = tt
  plain_known (cell.Obj properties) p = tt
  plain_known (cell.Frame f) p = tt
  plain_known (cell.Html h) p = tt
  plain_known (cell.Code c) p = tt

  -- the same functions in both stores
  pub record SameFunctions (old new : List Cell) : Type 0 where
    pub closures : (at : ℕ) → closures_from table at new ≡ closures_from table at old
    pub good : IsGood table old → IsGood table new

  pub same_functions : (store : List Cell) → SameFunctions store store
  same_functions store = record { closures = λ at. refl; good = λ h. h }

  pub functions_both : (a b c : List Cell) → SameFunctions a b → SameFunctions b c → SameFunctions a c
  functions_both a b c f g = record { closures = λ at. g.closures at ∙ f.closures at; good = λ h. g.good (f.good h) }

  closures_added : (store : List Cell) (c : Cell) → IsPlain c → (at : ℕ) → closures_from table at (store ++ c ∷ []) ≡ closures_from table at store
  closures_added [] c p at = ap (λ cs. cs ++ []) (plain_closures at c p)
  closures_added (d ∷ store) c p at = ap (λ cs. closures_in table at d ++ cs) (closures_added store c p (suc at))

  good_added : (store : List Cell) (c : Cell) → IsPlain c → IsGood table store → IsGood table (store ++ c ∷ [])
  good_added [] c p h = (plain_known c p, tt)
  good_added (d ∷ store) c p h = (h.0, good_added store c p h.1)

  pub functions_added : (store : List Cell) (c : Cell) → IsPlain c → SameFunctions store (store ++ c ∷ [])
  functions_added store c p = record { closures = closures_added store c p; good = good_added store c p }

  closures_set : (store : List Cell) (i : ℕ) (d c : Cell) → slice_get store i ≡ Some d → IsPlain d → IsPlain c → (at : ℕ) → closures_from table at (slice_set store i c) ≡ closures_from table at store
  closures_set [] i d c is pd pc at = refl
  closures_set (e ∷ store) zero d c is pd pc at =
      let same : e ≡ d = cc in
      ap (λ cs. cs ++ closures_from table (suc at) store) (plain_closures at c pc ∙ sym (ap (closures_in table at) same ∙ plain_closures at d pd))
  closures_set (e ∷ store) (suc i) d c is pd pc at = ap (λ cs. closures_in table at e ++ cs) (closures_set store i d c is pd pc (suc at))

  good_set : (store : List Cell) (i : ℕ) (c : Cell) → IsPlain c → IsGood table store → IsGood table (slice_set store i c)
  good_set [] i c p h = h
  good_set (e ∷ store) zero c p h = (plain_known c p, h.1)
  good_set (e ∷ store) (suc i) c p h = (h.0, good_set store i c p h.1)

  pub functions_set : (store : List Cell) (i : ℕ) (d c : Cell) → slice_get store i ≡ Some d → IsPlain d → IsPlain c → SameFunctions store (slice_set store i c)
  functions_set store i d c is pd pc = record { closures = closures_set store i d c is pd pc; good = good_set store i c pc }
