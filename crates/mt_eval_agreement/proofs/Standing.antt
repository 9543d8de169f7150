-- A state on slots stands for a state by names where what it shows is this state, its functions trimmed.
use Rattle.std.proofs.Common.{◌≡◌, ℕ, suc, List, [], ◌∷◌, ◌++◌, length, map, Option, Some, None, refl, sym, ap, ap₂, ◌∙◌, subst, arith}
use Rattle.std.proofs.lemmas.List.{length-map}
use Rattle.std.specs.Prelude.{slice_get}
use Rattle.mt_eval_meaning.specs.Code.{AllStand}
use Rattle.mt_eval_meaning.specs.States.{Numbered, kept_free, trim, trim_closure}
use Rattle.mt_eval_agreement.proofs.Shown.{zipped, closure_by, closures_from, view, KnowsFunction, IsGood}
use Rattle.mt_eval_meaning.specs.Stores.{functions_from, lexical_in, FunctionCellStands, StateStands}
use Rattle.mt_eval_meaning.specs.Entering.{Closure, Closures, Named}
use Rattle.mt_eval_meaning.specs.Hoisting.{Lexical}
use Rattle.mt_eval_meaning.specs.Host.{seen}
use Rattle.mt_eval_meaning.specs.Names.{Environment}
use Rattle.mt_eval_meaning.specs.declared.state.State.{State}
use Rattle.mt_syntax.specs.declared.program.Tilde.{Tilde}
use Rattle.mt_value.specs.declared.cell.Cell.{Cell}
use Rattle.mt_value.specs.declared.cell.Cell.TheVariants as cell
use Rattle.mt_value.specs.declared.cell.FunCell.{FunCell}

-- ---- captured variables and their names

zipped_back : (env : Environment) → zipped (map lexical_in env) (map (λ b. b.address) env) ≡ env
zipped_back [] = refl
zipped_back (b ∷ env) = ap (λ (bs : Environment). b ∷ bs) (zipped_back env)

names_back : (ls : List Lexical) (captured : List ℕ) → length captured ≡ length ls → map lexical_in (zipped ls captured) ≡ ls
names_back [] captured e = refl
names_back (l ∷ ls) [] e = absurd (omega (arith, e))
names_back (l ∷ ls) (at ∷ captured) e = let rest : length captured ≡ length ls = omega (arith, e) in ap (λ (xs : List Lexical). l ∷ xs) (names_back ls captured rest)

addresses_back : (ls : List Lexical) (captured : List ℕ) → length captured ≡ length ls → map (λ b. b.address) (zipped ls captured) ≡ captured
addresses_back [] [] e = refl
addresses_back [] (at ∷ captured) e = absurd (omega (arith, e))
addresses_back (l ∷ ls) [] e = absurd (omega (arith, e))
addresses_back (l ∷ ls) (at ∷ captured) e = let rest : length captured ≡ length ls = omega (arith, e) in ap (λ (xs : List ℕ). at ∷ xs) (addresses_back ls captured rest)

module _ (tildes : List Tilde) (table : List Numbered) where
  abbrev kept : Closure → Environment
  kept c = kept_free tildes c.own c.function c.environment

  abbrev numbered : Closure → Numbered
  numbered c = record { own = c.own; function = c.function; names = map lexical_in (kept c) }

  abbrev trimmed_at : ℕ × Closure → ℕ × Closure
  trimmed_at c = (c.0, trim_closure tildes c.1)

  abbrev Holds : ℕ × FunCell → ℕ × Closure → Type 0
  Holds f c = (f.0 ≡ c.0) × FunctionCellStands tildes table f.1 c.1

  -- ---- from the relation

  known : (f : FunCell) (c : Closure) → FunctionCellStands tildes table f c → KnowsFunction table (slice_get table f.function) f
  known f c h =
      subst (λ (o : Option Numbered). KnowsFunction table o f) (sym h.named)
      (ap (λ (xs : List ℕ). length xs) h.captured ∙ length-map (kept c) (λ b. b.address) ∙ sym (length-map (kept c) lexical_in))

  shown : (at : ℕ) (f : FunCell) (c : ℕ × Closure) → Holds (at, f) c → closure_by table (slice_get table f.function) f at ≡ trimmed_at c ∷ []
  shown at f c h =
      ap (λ (o : Option Numbered). closure_by table o f at) h.1.named
      ∙ ap₂ (λ (a : ℕ) (env : Environment). (a, record { own = c.1.own; function = c.1.function; environment = env }) ∷ []) h.0
      (ap (λ (xs : List ℕ). zipped (map lexical_in (kept c.1)) xs) h.1.captured ∙ zipped_back (kept c.1))

  good_from : (at : ℕ) (store : List Cell) (cs : Closures) → AllStand Holds (functions_from at store) cs → IsGood table store
  good_from at [] cs h = tt
  good_from at (cell.Fun f ∷ store) [] h = absurd h
  good_from at (cell.Fun f ∷ store) (c ∷ cs) h = (known f c.1 h.0.1, good_from (suc at) store cs h.1)
  good_from at (cell.Variable v ∷ store) cs h = (tt, good_from (suc at) store cs h)
  good_from at (cell.Arr items ∷ store) cs h = (tt, good_from (suc at) store cs h)
  good_from at (cell.Obj properties ∷ store) cs h = (tt, good_from (suc at) store cs h)
  good_from at (cell.Frame f ∷ store) cs h = (tt, good_from (suc at) store cs h)
  good_from at (cell.Html x ∷ store) cs h = (tt, good_from (suc at) store cs h)
  good_from at (cell.Code x ∷ store) cs h = (tt, good_from (suc at) store cs h)

  shown_from : (at : ℕ) (store : List Cell) (cs : Closures) → AllStand Holds (functions_from at store) cs → closures_from table at store ≡ map trimmed_at cs
  shown_from at [] [] h = refl
  shown_from at [] (c ∷ cs) h = absurd h
  shown_from at (cell.Fun f ∷ store) [] h = absurd h
  shown_from at (cell.Fun f ∷ store) (c ∷ cs) h = ap₂ (λ (xs ys : Closures). xs ++ ys) (shown at f c h.0) (shown_from (suc at) store cs h.1)
  shown_from at (cell.Variable v ∷ store) cs h = shown_from (suc at) store cs h
  shown_from at (cell.Arr items ∷ store) cs h = shown_from (suc at) store cs h
  shown_from at (cell.Obj properties ∷ store) cs h = shown_from (suc at) store cs h
  shown_from at (cell.Frame f ∷ store) cs h = shown_from (suc at) store cs h
  shown_from at (cell.Html x ∷ store) cs h = shown_from (suc at) store cs h
  shown_from at (cell.Code x ∷ store) cs h = shown_from (suc at) store cs h

  -- ---- to the relation

  first_is : {A : Type 0} (x y : A) (xs ys : List A) → x ∷ xs ≡ y ∷ ys → x ≡ y
  first_is x y xs ys e = cc

  rest_is : {A : Type 0} (x y : A) (xs ys : List A) → x ∷ xs ≡ y ∷ ys → xs ≡ ys
  rest_is x y xs ys e = cc

  holds : (at : ℕ) (f : FunCell) (n : Numbered) (c : ℕ × Closure) → slice_get table f.function ≡ Some n → length f.captured ≡ length n.names
      → trimmed_at c ≡ (at, record { own = n.own; function = n.function; environment = zipped n.names f.captured }) → Holds (at, f) c
  holds at f n c is same e =
      let closure : trim_closure tildes c.1 ≡ record { own = n.own; function = n.function; environment = zipped n.names f.captured } = ap (λ (x : ℕ × Closure). x.1) e in
      let environment : kept c.1 ≡ zipped n.names f.captured = ap (λ (x : Closure). x.environment) closure in
      let own : c.1.own ≡ n.own = ap (λ (x : Closure). x.own) closure in
      let function : c.1.function ≡ n.function = ap (λ (x : Closure). x.function) closure in
      let names : map lexical_in (kept c.1) ≡ n.names = ap (λ (env : Environment). map lexical_in env) environment ∙ names_back n.names f.captured same in (
        sym (ap (λ (x : ℕ × Closure). x.0) e),
        record {
          named = is ∙ ap (λ (m : Numbered). Some m) (sym (ap₂ (λ (x : Numbered) (ls : List Lexical). record x { names = ls }) (ap₂ (λ o g. record { own = o; function = g; names = [] }) own function) names));
          captured = sym (ap (λ (env : Environment). map (λ b. b.address) env) environment ∙ addresses_back n.names f.captured same);
        },
      )

  module _ (at : ℕ) (f : FunCell) (store : List Cell) (next : (cs : Closures) → map trimmed_at cs ≡ closures_from table (suc at) store → AllStand Holds (functions_from (suc at) store) cs) where
    function_holds : (o : Option Numbered) (cs : Closures) → slice_get table f.function ≡ o → KnowsFunction table o f → map trimmed_at cs ≡ closure_by table o f at ++ closures_from table (suc at) store → AllStand Holds ((at, f) ∷ functions_from (suc at) store) cs
    function_holds None cs is k e = absurd k
    function_holds (Some n) [] is k e = cc
    function_holds (Some n) (c ∷ cs) is k e =
        let there : Closure = record { own = n.own; function = n.function; environment = zipped n.names f.captured } in
        (holds at f n c is k (first_is (trimmed_at c) (at, there) (map trimmed_at cs) (closures_from table (suc at) store) e), next cs (rest_is (trimmed_at c) (at, there) (map trimmed_at cs) (closures_from table (suc at) store) e))

  holds_from : (at : ℕ) (store : List Cell) (cs : Closures) → IsGood table store → map trimmed_at cs ≡ closures_from table at store → AllStand Holds (functions_from at store) cs
  holds_from at [] [] good e = tt
  holds_from at [] (c ∷ cs) good e = cc
  holds_from at (cell.Fun f ∷ store) cs good e = function_holds at f store (λ cs e. holds_from (suc at) store cs good.1 e) (slice_get table f.function) cs refl good.0 e
  holds_from at (cell.Variable v ∷ store) cs good e = holds_from (suc at) store cs good.1 e
  holds_from at (cell.Arr items ∷ store) cs good e = holds_from (suc at) store cs good.1 e
  holds_from at (cell.Obj properties ∷ store) cs good e = holds_from (suc at) store cs good.1 e
  holds_from at (cell.Frame f ∷ store) cs good e = holds_from (suc at) store cs good.1 e
  holds_from at (cell.Html x ∷ store) cs good e = holds_from (suc at) store cs good.1 e
  holds_from at (cell.Code x ∷ store) cs good e = holds_from (suc at) store cs good.1 e

  -- ---- whole states

  module _ {H : Type 0} (s : State × H) (n : State × Named H) where
    pub good_of : StateStands tildes table s n → IsGood table s.0.store
    good_of h = good_from 0 s.0.store n.1.closures h.store.functions

    pub shown_of : StateStands tildes table s n → trim tildes n ≡ view table s
    shown_of h =
        let state : n.0 ≡ record s.0 { store = seen s.0.store } = state_is n.0 (seen s.0.store) s.0 h.store.cells h.globals h.budget in
        ap₂ (λ (t : State) (m : Named H). (t, m)) state
        (ap₂ (λ (x : H) (cs : Closures). record { host = x; closures = cs }) h.host (sym (shown_from 0 s.0.store n.1.closures h.store.functions)))
      where
        state_is : (t : State) (cells : List Cell) (u : State) → t.store ≡ cells → t.globals ≡ u.globals → t.budget ≡ u.budget → t ≡ record u { store = cells }
        state_is t cells u e f g = ap₂ (λ (x : State) b. record x { budget = b }) (ap₂ (λ (xs : List Cell) ys. record t { store = xs; globals = ys }) e f) g

    pub stands_by : IsGood table s.0.store → trim tildes n ≡ view table s → StateStands tildes table s n
    stands_by good e = record {
      store = record {
        cells = ap (λ (x : State × Named H). x.0.store) e;
        functions = holds_from 0 s.0.store n.1.closures good (ap (λ (x : State × Named H). x.1.closures) e);
      };
      globals = ap (λ (x : State × Named H). x.0.globals) e;
      budget = ap (λ (x : State × Named H). x.0.budget) e;
      host = ap (λ (x : State × Named H). x.1.host) e;
    }

-- ---- further functions

module _ (tildes : List Tilde) (table more : List Numbered) (kept_numbers : (n : ℕ) (e : Numbered) → slice_get table n ≡ Some e → slice_get more n ≡ Some e) where
  cells_stand : (fs : List (ℕ × FunCell)) (cs : Closures) → AllStand (Holds tildes table) fs cs → AllStand (Holds tildes more) fs cs
  cells_stand [] [] h = tt
  cells_stand (f ∷ fs) (c ∷ cs) h = ((h.0.0, record { named = kept_numbers f.1.function (numbered tildes table c.1) h.0.1.named; captured = h.0.1.captured }), cells_stand fs cs h.1)
  cells_stand [] (c ∷ cs) h = absurd h
  cells_stand (f ∷ fs) [] h = absurd h

  pub stands_with_more : {H : Type 0} (s : State × H) (n : State × Named H) → StateStands tildes table s n → StateStands tildes more s n
  stands_with_more s n h = record {
    store = record { cells = h.store.cells; functions = cells_stand (functions_from 0 s.0.store) n.1.closures h.store.functions };
    globals = h.globals;
    budget = h.budget;
    host = h.host;
  }
