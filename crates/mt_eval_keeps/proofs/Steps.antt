-- Steps on the state, and evaluations one after another.
use Rattle.std.proofs.Common.{◌≡◌, ℕ, zero, suc, ◌+◌, ◌-◌, ◌≤◌, nat_lt, List, [], ◌∷◌, ◌++◌, length, Some, Bool, true, false, cond, Result, Ok, Err, refl, sym, ap, subst, ◌∙◌, arith}
use Rattle.std.specs.Prelude.{All, slice_get, slice_set}
use Rattle.std.proofs.lemmas.Bool.Decides.{nat_tests}
use Rattle.std.proofs.lemmas.List.{length-append}
use Rattle.std.proofs.lemmas.List.Elements.{All-nil, All-cons, All-head, All-tail, All-push, All-weaker}
use Rattle.mt_eval_keeps.specs.Between.{with_store}
use Rattle.mt_eval_keeps.specs.Growth.{Owning, is_fixed, GrewTo, OwnValue, FitsCell, Fits, Good, Grew}
use Rattle.mt_eval_keeps.proofs.Runs.{same, further, fits_kept, Claim, After, left_with, fixed_at, Runs, Still, still_runs, runs_bind, runs_pure, runs_less, runs_post, good_less, good_steps, Value'}
use Rattle.mt_eval_meaning.specs.Runs.{Ran, gives, leaves, Run, and_then, all_behind, all, each}
use Rattle.mt_eval_meaning.specs.State.{Eval, spend, throw, or_throw, operate, outcome_ran, add_cell, on_state, beside}
use Rattle.mt_eval_meaning.specs.declared.exit.Exit.TheVariants as exit
use Rattle.mt_eval_meaning.specs.declared.exit.Stop.TheVariants as stop
use Rattle.mt_eval_meaning.specs.declared.state.State.{State}
use Rattle.mt_ops.proofs.Lawfulness.{settled_lawful}
use Rattle.mt_ops.specs.Errors.{error_cell, settled}
use Rattle.mt_ops.specs.Lawful.{StaysLawful, LawfulAnswer, value_of}
use Rattle.mt_ops.specs.declared.error.ErrorKind.{ErrorKind}
use Rattle.mt_ops.specs.declared.outcome.Outcome.{Outcome}
use Rattle.mt_ops.specs.declared.outcome.Outcome.TheVariants as outcome
use Rattle.mt_value.proofs.Laws.{keeps_added, keeps_put, lawful_added}
use Rattle.mt_value.specs.Lawful.{Kind, kind_of, Names, LawfulCell, Lawful}
use Rattle.mt_value.specs.declared.cell.Cell.{Cell}
use Rattle.mt_value.specs.declared.cell.Property.{Property}
use Rattle.mt_value.specs.declared.value.Value.{Value}

-- ---- stores

get_kept : (xs ys : List Cell) (n : ℕ) (x : Cell) → slice_get xs n ≡ Some x → slice_get (xs ++ ys) n ≡ Some x
get_kept [] ys n x h = cc
get_kept (z ∷ xs) ys zero x h = h
get_kept (z ∷ xs) ys (suc n) x h = get_kept xs ys n x h

pub added_grew : (store more : List Cell) → GrewTo store (store ++ more)
added_grew store more = record { kinds = keeps_added store more; fixed = λ at c is h. get_kept store more at c h }

pub added_names : (store : List Cell) (c : Cell) → Names (store ++ c ∷ []) (kind_of c) (length store)
added_names [] c = refl
added_names (first ∷ store) c = added_names store c

put_fixed : (store : List Cell) (at : ℕ) (new : Cell) → is_fixed (kind_of new) ≡ false → Names store (kind_of new) at → (k : ℕ) (c : Cell) → is_fixed (kind_of c) ≡ true → slice_get store k ≡ Some c → slice_get (slice_set store at new) k ≡ Some c
put_fixed [] at new loose named k c fixed h = h
put_fixed (x ∷ store) zero new loose named zero c fixed h =
    let e : x ≡ c = cc in
    let k : kind_of x ≡ kind_of new = cc in
    let other : is_fixed (kind_of new) ≡ true = sym (ap is_fixed k) ∙ ap (λ y. is_fixed (kind_of y)) e ∙ fixed in
    absurd (cc)
put_fixed (x ∷ store) zero new loose named (suc k) c fixed h = h
put_fixed (x ∷ store) (suc at) new loose named zero c fixed h = h
put_fixed (x ∷ store) (suc at) new loose named (suc k) c fixed h = put_fixed store at new loose named k c fixed h

pub put_grew : (store : List Cell) (at : ℕ) (new : Cell) → is_fixed (kind_of new) ≡ false → Names store (kind_of new) at → GrewTo store (slice_set store at new)
put_grew store at new loose named = record { kinds = keeps_put store at new named; fixed = put_fixed store at new loose named }

module _ {H : Type 0} (owns : Owning H) (most : ℕ) where
  -- ---- what an operation leaves of a store

  pub record Leaves (h : H) (steps : ℕ) (old : List Cell) (r : Outcome × List Cell) : Type 0 where
    pub stays : StaysLawful old r.1 r.0
    pub grew : GrewTo old r.1
    pub own : OwnValue owns h (value_of r.0)
    pub cells : All (FitsCell owns most h steps) r.1

  pub error_fits : (h : H) (steps : ℕ) (e : ErrorKind) → 64 + steps ≤ most → FitsCell owns most h steps (error_cell e)
  error_fits h steps e le = record {
    own = own_both _ _ tt tt;
    room = omega (arith, le);
  }
    where
      own_both : (p q : Property) → OwnValue owns h p.value → OwnValue owns h q.value → All (λ p. OwnValue owns h p.value) (p ∷ q ∷ [])
      own_both p q a b = All-cons (λ p. OwnValue owns h p.value) p (q ∷ []) a (All-cons (λ p. OwnValue owns h p.value) q [] b (All-nil (λ p. OwnValue owns h p.value)))

  abbrev pub OwnAnswer : H → Result Value ErrorKind → Type 0
  OwnAnswer h (Ok v) = OwnValue owns h v
  OwnAnswer h (Err e) = Unit {0}

  pub settled_leaves : (h : H) (steps : ℕ) (store : List Cell) (r : Result Value ErrorKind) → LawfulAnswer store r → OwnAnswer h r → Lawful store → All (FitsCell owns most h steps) store → 64 + steps ≤ most
      → Leaves h steps store (settled r store)
  settled_leaves h steps store (Ok v) fits own lawful cells room = record { stays = settled_lawful (Ok v) store fits lawful; grew = record { kinds = λ kind at n. n; fixed = λ at c is g. g }; own = own; cells = cells }
  settled_leaves h steps store (Err e) fits own lawful cells room = record {
    stays = settled_lawful (Err e) store tt lawful;
    grew = added_grew store (error_cell e ∷ []);
    own = tt;
    cells = All-push (FitsCell owns most h steps) store (error_cell e) cells (error_fits h steps e room);
  }

  -- ---- new states

  pub store_grew : (s : State × H) (store : List Cell) → GrewTo s.0.store store → Grew owns s (with_store s store)
  store_grew s store g = record { store = g; host = λ x h. h }

  pub good_store : (m n : ℕ) (s : State × H) (store : List Cell) → n ≤ m → Good owns most m s → GrewTo s.0.store store → Lawful store → All (FitsCell owns most s.1 n) store → Good owns most n (with_store s store)
  good_store m n s store le k g lawful cells = record {
    store = lawful;
    globals = All-weaker (λ (v : List ℕ × Value). Fits owns s v.1) (λ (v : List ℕ × Value). Fits owns (with_store s store) v.1) (λ v f. fits_kept owns most (store_grew s store g) f) s.0.globals k.globals;
    cells = cells;
    room = omega (arith, le, k.room);
    host = k.host;
    addresses = All-weaker (Names s.0.store Kind.function) (Names store Kind.function) (λ at n. g.kinds Kind.function at n) (owns.addresses s.1) k.addresses;
  }

  -- ---- the state alone

  abbrev pub Any : {A : Type 0} → Claim owns most A
  Any a t = Unit {0}

  spent : (b : Bool) (x n c d : ℕ) (s : State × H) → Good owns most (s.0.budget + (c + x)) s → (b ≡ true → (n + d ≤ s.0.budget + c) × (n ≤ s.0.budget))
      → After owns most s (left_with owns most x) (left_with owns most (d + x)) Any (beside s.1 (cond {A = Ran State (Unit {0})} b (gives tt (record s.0 { budget = n })) (leaves (exit.Stop stop.Budget) s.0)))
  spent true x n c d s good le =
      let less = le refl in
      record {
        good = good_steps owns most (n + (d + x)) n s (good_less owns most (s.0.budget + (c + x)) (n + (d + x)) s (omega (arith, less.0)) good);
        grew = record { store = record { kinds = λ kind at h. h; fixed = λ at x is h. h }; host = λ x h. h };
        budget = less.1;
        holds = tt;
      }
  spent false x n c d s good le = record { good = good_less owns most (s.0.budget + (c + x)) (s.0.budget + x) s (omega arith) good; grew = same owns most s; budget = omega arith; exit = tt }

  pub runs_spend : {first : State × H} {c : ℕ} (d more : ℕ) → d ≤ c + suc more → Runs owns most first c d (on_state (spend more)) Any
  unfolding spend
  runs_spend {c = c} d more le = record {
    run = λ x s g good. spent (nat_lt more s.0.budget) x (s.0.budget - suc more) c d s good (λ is. (grind (arith, nat_tests, le, is), omega arith));
  }

  ran : (o : Outcome) (x y : State × H → ℕ) (n : ℕ) (s : State × H) (store : List Cell) → ((t : State × H) → t.0.budget ≡ s.0.budget → (x t ≤ n) × (y t ≤ n)) → Good owns most n (with_store s store) → Leaves s.1 n s.0.store (o, store) → After owns most s x y (Value' owns most) (beside s.1 (outcome_ran o (record s.0 { store = store })))
  ran (outcome.Value v) x y n s store le good k = record {
    good = good_less owns most n (y (with_store s store)) (with_store s store) (le (with_store s store) refl).1 good;
    grew = store_grew s store k.grew;
    budget = omega arith;
    holds = record { lawful = k.stays.value; own = k.own };
  }
  ran (outcome.Throw v) x y n s store le good k = record {
    good = good_less owns most n (x (with_store s store)) (with_store s store) (le (with_store s store) refl).0 good;
    grew = store_grew s store k.grew;
    budget = omega arith;
    exit = record { lawful = k.stays.value; own = k.own };
  }

  -- an operation that may let an array or an object grow
  pub runs_operate : {first : State × H} {c d : ℕ} (f : List Cell → Outcome × List Cell) → d ≤ c
      → ((x : ℕ) (s : State × H) → Grew owns first s → Good owns most (s.0.budget + (c + x)) s → Leaves s.1 (s.0.budget + (d + x)) s.0.store (f s.0.store)) → Runs owns most first c d (on_state (operate f)) (Value' owns most)
  unfolding operate
  runs_operate {c = c} {d = d} f le k = record {
    run = λ x s g good.
        let r = f s.0.store in
        let l = k x s g good in
        ran r.0 (left_with owns most x) (left_with owns most (d + x)) (s.0.budget + (d + x)) s r.1 (λ t e. (omega (arith, e), omega (arith, e)))
        (good_store (s.0.budget + (c + x)) (s.0.budget + (d + x)) s r.1 (omega (arith, le)) good l.grew l.stays.store l.cells) l;
  }

  -- one that lets none grow
  pub still_operate : {first : State × H} (f : List Cell → Outcome × List Cell)
      → ((n : ℕ) (s : State × H) → Grew owns first s → Good owns most n s → Leaves s.1 n s.0.store (f s.0.store)) → Still owns most first (on_state (operate f)) (Value' owns most)
  unfolding operate
  still_operate f k = record {
    run = λ n s g good.
        let r = f s.0.store in
        let l = k n s g good in
        let le : n ≤ n = omega arith in
        ran r.0 (fixed_at owns most n) (fixed_at owns most n) n s r.1 (λ t e. (le, le)) (good_store n n s r.1 le good l.grew l.stays.store l.cells) l;
  }

  pub still_settled : {first : State × H} (f : List Cell → Result Value ErrorKind)
      → ((n : ℕ) (s : State × H) → Grew owns first s → Good owns most n s → LawfulAnswer s.0.store (f s.0.store) × OwnAnswer s.1 (f s.0.store)) → Still owns most first (on_state (operate (λ store. settled (f store) store))) (Value' owns most)
  still_settled f k = still_operate (λ store. settled (f store) store) (λ n s g good. let h = k n s g good in settled_leaves s.1 n s.0.store (f s.0.store) h.0 h.1 good.store good.cells good.room)

  pub still_throw : {A : Type 0} {first : State × H} {post : Claim owns most A} (e : ErrorKind) → Still owns most first (on_state (throw {A = A} e)) post
  unfolding throw
  still_throw e = record {
    run = λ n s g good.
        let new = s.0.store ++ error_cell e ∷ [] in
        let k = settled_leaves s.1 n s.0.store (Err e) tt tt good.store good.cells good.room in
        record {
          good = good_store n n s new (omega arith) good k.grew k.stays.store k.cells;
          grew = store_grew s new k.grew;
          budget = omega arith;
          exit = record { lawful = k.stays.value; own = k.own };
        };
  }

  pub runs_throw : {A : Type 0} {first : State × H} {post : Claim owns most A} (c d : ℕ) → d ≤ c → (e : ErrorKind) → Runs owns most first c d (on_state (throw {A = A} e)) post
  runs_throw c d le e = still_runs owns most c d le (still_throw e)

  -- a new cell, which names what it is
  pub runs_add : {first : State × H} {c d : ℕ} (y : Cell) → d ≤ c
      → ((x : ℕ) (s : State × H) → Grew owns first s → Good owns most (s.0.budget + (c + x)) s → LawfulCell (s.0.store ++ y ∷ []) y × FitsCell owns most s.1 (s.0.budget + (d + x)) y)
      → Runs owns most first c d (on_state (add_cell y)) (λ at t. Names t.0.store (kind_of y) at)
  unfolding add_cell
  runs_add {c = c} {d = d} y le k = record {
    run = λ x s g good.
        let new = s.0.store ++ y ∷ [] in
        let fits = k x s g good in
        let less : s.0.budget + (d + x) ≤ s.0.budget + (c + x) = omega (arith, le) in
        record {
          good = good_store (s.0.budget + (c + x)) (s.0.budget + (d + x)) s new less good (added_grew s.0.store (y ∷ [])) (lawful_added s.0.store y good.store fits.0) (All-push (FitsCell owns most s.1 (s.0.budget + (d + x))) s.0.store y (good_less owns most (s.0.budget + (c + x)) (s.0.budget + (d + x)) s less good).cells fits.1);
          grew = store_grew s new (added_grew s.0.store (y ∷ []));
          budget = omega arith;
          holds = added_names s.0.store y;
        };
  }

  -- ---- repeats

  pub runs_each : (ms : List (Eval H (Unit {0}))) (first : State × H) (c : ℕ) → All (λ m. (t : State × H) → Grew owns first t → Runs owns most t c c m Any) ms → Runs owns most first c c (each ms) Any
  runs_each [] first c ks = runs_pure owns most tt (λ t g. tt)
  runs_each (m ∷ ms) first c ks =
      let P = λ (m : Eval H (Unit {0})). (t : State × H) → Grew owns first t → Runs owns most t c c m Any in
      runs_bind owns most (All-head P m ms ks first (same owns most first)) (λ _ t g h.
      runs_each ms t c (All-weaker P (λ m. (u : State × H) → Grew owns t u → Runs owns most u c c m Any) (λ m k u f. k u (further owns most first t u g f)) ms (All-tail P m ms ks)))

  -- each takes a step
  pub record Pays {A : Type 0} (P : Claim owns most A) (first : State × H) (m : Eval H A) : Type 0 where
    pub runs : (c : ℕ) (t : State × H) → Grew owns first t → Runs owns most t c (suc c) m P

  pub record Holds {A : Type 0} (P : Claim owns most A) (first : State × H) (m : Eval H A) : Type 0 where
    pub runs : (c : ℕ) (t : State × H) → Grew owns first t → Runs owns most t c c m P

  pub pays_later : {A : Type 0} (P : Claim owns most A) (first t : State × H) → Grew owns first t → (m : Eval H A) → Pays P first m → Pays P t m
  pays_later P first t g m k = record { runs = λ c u f. k.runs c u (further owns most first t u g f) }

  pub holds_later : {A : Type 0} (P : Claim owns most A) (first t : State × H) → Grew owns first t → (m : Eval H A) → Holds P first m → Holds P t m
  holds_later P first t g m k = record { runs = λ c u f. k.runs c u (further owns most first t u g f) }

  -- what goes on to hold
  abbrev pub Stable : {A : Type 0} → Claim owns most A → Type 0
  Stable {A = A} P = (a : A) (s t : State × H) → Grew owns s t → P a s → P a t

  module _ {A : Type 0} (P : Claim owns most A) (stable : Stable P) where
    behind : (ms : List (Eval H A)) (first : State × H) (c : ℕ) (done : List A) → All (λ a. P a first) done → All (Pays P first) ms
        → Runs owns most first c (length ms + c) (all_behind done ms) (λ xs t. All (λ a. P a t) xs × (length xs ≡ length done + length ms))
    behind [] first c done held ks = runs_less owns most (0 + c) (omega arith) (runs_pure owns most {c = c} done (λ t g. (All-weaker (λ a. P a first) (λ a. P a t) (λ a h. stable a first t g h) done held, omega arith)))
    behind (m ∷ ms) first c done held ks =
        runs_less owns most (suc (length ms) + c) (omega arith)
        (runs_bind owns most ((All-head (Pays P first) m ms ks).runs c first (same owns most first)) (λ a t g h.
        runs_post owns most (behind ms t (suc c) (done ++ a ∷ []) (All-push (λ a. P a t) done a (All-weaker (λ a. P a first) (λ a. P a t) (λ a h. stable a first t g h) done held) h) (All-weaker (Pays P first) (Pays P t) (pays_later P first t g) ms (All-tail (Pays P first) m ms ks)))
        (λ xs u f q. (q.0, q.1 ∙ omega (arith, length-append done (a ∷ []))))))

    pub runs_all : (ms : List (Eval H A)) (first : State × H) (c : ℕ) → All (Pays P first) ms → Runs owns most first c (length ms + c) (all ms) (λ xs t. All (λ a. P a t) xs × (length xs ≡ length ms))
    runs_all ms first c ks = runs_post owns most (behind ms first c [] (All-nil (λ a. P a first)) ks) (λ xs t g q. (q.0, q.1 ∙ omega arith))

    hold_behind : (ms : List (Eval H A)) (first : State × H) (c : ℕ) (done : List A) → All (λ a. P a first) done → All (Holds P first) ms
        → Runs owns most first c c (all_behind done ms) (λ xs t. All (λ a. P a t) xs × (length xs ≡ length done + length ms))
    hold_behind [] first c done held ks = runs_pure owns most done (λ t g. (All-weaker (λ a. P a first) (λ a. P a t) (λ a h. stable a first t g h) done held, omega arith))
    hold_behind (m ∷ ms) first c done held ks =
        runs_bind owns most ((All-head (Holds P first) m ms ks).runs c first (same owns most first)) (λ a t g h.
        runs_post owns most (hold_behind ms t c (done ++ a ∷ []) (All-push (λ a. P a t) done a (All-weaker (λ a. P a first) (λ a. P a t) (λ a h. stable a first t g h) done held) h) (All-weaker (Holds P first) (Holds P t) (holds_later P first t g) ms (All-tail (Holds P first) m ms ks)))
        (λ xs u f q. (q.0, q.1 ∙ omega (arith, length-append done (a ∷ [])))))

    pub runs_all_holding : (ms : List (Eval H A)) (first : State × H) (c : ℕ) → All (Holds P first) ms → Runs owns most first c c (all ms) (λ xs t. All (λ a. P a t) xs × (length xs ≡ length ms))
    runs_all_holding ms first c ks = runs_post owns most (hold_behind ms first c [] (All-nil (λ a. P a first)) ks) (λ xs t g q. (q.0, q.1 ∙ omega arith))

  -- ---- steps on the state alone, one after another

  pub beside_then : {A B : Type 0} (h : H) (r : Ran State A) (f : A → Run State B) → and_then (beside h r) (λ a. on_state (f a)) ≡ beside h (and_then r f)
  beside_then h (gives a s) f = refl
  beside_then h (leaves e s) f = refl

  pub runs_state_bind : {A B : Type 0} {first : State × H} {b c d : ℕ} (m : Run State A) (f : A → Run State B) {mid : Claim owns most A} {post : Claim owns most B} → Runs owns most first b c (on_state m) mid
      → ((a : A) (t : State × H) → Grew owns first t → mid a t → Runs owns most t c d (on_state (f a)) post) → Runs owns most first b d (on_state (λ s. and_then (m s) f)) post
  runs_state_bind {d = d} m f {post = post} k h = record {
    run = λ x s g good.
        subst (λ (r : Ran (State × H) _). After owns most s (left_with owns most x) (left_with owns most (d + x)) post r) (beside_then s.1 (m s.0) f)
        ((runs_bind owns most k h).run x s g good);
  }

  pub runs_or_throw : {A : Type 0} {first : State × H} (c : ℕ) (r : Result A ErrorKind) → Runs owns most first c c (on_state (or_throw r)) (λ a t. r ≡ Ok a)
  runs_or_throw c (Ok a) = runs_pure owns most a (λ t g. refl)
  runs_or_throw c (Err e) = runs_throw c c (omega arith) e
