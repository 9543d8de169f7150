-- Evaluations that keep a state good, from all that grew of a first one.
use Rattle.std.proofs.Common.{◌≡◌, ℕ, ◌+◌, ◌-◌, ◌≤◌, List, None, Some, refl, subst, arith}
use Rattle.std.specs.Prelude.{All, ◌^◌}
use Rattle.std.proofs.lemmas.List.Elements.{All-weaker}
use Rattle.mt_eval_keeps.specs.Between.{with_steps}
use Rattle.mt_eval_keeps.specs.Growth.{Owning, Thing, count_of, GrewTo, OwnValue, OwnCell, FitsCell, Fits, Good, Grew}
use Rattle.mt_eval_keeps.specs.Growth as thing
use Rattle.mt_eval_meaning.specs.Runs.{Ran, gives, leaves, and_then, caught}
use Rattle.mt_eval_meaning.specs.State.{Eval, with_budget, unmetered}
use Rattle.mt_eval_meaning.specs.declared.exit.Exit.{Exit}
use Rattle.mt_eval_meaning.specs.declared.exit.Exit.TheVariants as exit
use Rattle.mt_eval_meaning.specs.declared.state.State.{State}
use Rattle.mt_value.proofs.Laws.{keeps_all, value_kept}
use Rattle.mt_value.specs.declared.cell.Cell.{Cell}
use Rattle.mt_value.specs.declared.cell.Cell.TheVariants as cell
use Rattle.mt_value.specs.declared.value.Value.{Value}
use Rattle.mt_value.specs.declared.value.Value.TheVariants as value

pub same_cells : (store : List Cell) → GrewTo store store
same_cells store = record { kinds = λ kind at h. h; fixed = λ at c f h. h }

pub cells_then : (a b c : List Cell) → GrewTo a b → GrewTo b c → GrewTo a c
cells_then a b c f g = record { kinds = keeps_all a b c f.kinds g.kinds; fixed = λ at x is h. g.fixed at x is (f.fixed at x is h) }

module _ {H : Type 0} (owns : Owning H) (most : ℕ) where
  pub same : (s : State × H) → Grew owns s s
  same s = record { store = same_cells s.0.store; host = λ x h. h }

  pub further : (s t u : State × H) → Grew owns s t → Grew owns t u → Grew owns s u
  further s t u f g = record { store = cells_then s.0.store t.0.store u.0.store f.store g.store; host = λ x h. g.host x (f.host x h) }

  -- ---- what was own stays so

  pub own_kept : (h k : H) → ((x : Thing) → owns.has h x → owns.has k x) → (v : Value) → OwnValue owns h v → OwnValue owns k v
  own_kept h k f value.Undefined o = o
  own_kept h k f value.Null o = o
  own_kept h k f (value.Bool b) o = o
  own_kept h k f (value.Num n) o = o
  own_kept h k f (value.Text text) o = o
  own_kept h k f (value.Arr at) o = o
  own_kept h k f (value.Obj at) o = o
  own_kept h k f (value.Fun at) o = o
  own_kept h k f (value.Svc name) o = o
  own_kept h k f (value.Frame at) o = o
  own_kept h k f (value.Html at) o = o
  own_kept h k f (value.Code at) o = o
  own_kept h k f (value.Node n) o = f (thing.node n) o
  own_kept h k f (value.Event n) o = f (thing.event n) o
  own_kept h k f (value.Native n) o = o

  pub own_cell_kept : (h k : H) → ((x : Thing) → owns.has h x → owns.has k x) → (c : Cell) → OwnCell owns h c → OwnCell owns k c
  own_cell_kept h k f (cell.Variable None) o = o
  own_cell_kept h k f (cell.Variable (Some v)) o = own_kept h k f v o
  own_cell_kept h k f (cell.Arr items) o = All-weaker (OwnValue owns h) (OwnValue owns k) (own_kept h k f) items o
  own_cell_kept h k f (cell.Obj ps) o = All-weaker (λ p. OwnValue owns h p.value) (λ p. OwnValue owns k p.value) (λ p. own_kept h k f p.value) ps o
  own_cell_kept h k f (cell.Fun g) o = o
  own_cell_kept h k f (cell.Frame g) o = f (thing.frame g) o
  own_cell_kept h k f (cell.Html t) o = f (thing.html t) o
  own_cell_kept h k f (cell.Code c) o = f (thing.code c) o

  pub fits_kept : {s t : State × H} {v : Value} → Grew owns s t → Fits owns s v → Fits owns t v
  fits_kept {s = s} {t = t} {v = v} g h = record { lawful = value_kept s.0.store t.0.store g.store.kinds v h.lawful; own = own_kept s.1 t.1 g.host v h.own }

  -- ---- the ends of evaluations

  abbrev pub Claim : Type 0 → Type 1
  Claim A = A → State × H → Type 0

  abbrev pub FitsExit : Exit → State × H → Type 0
  FitsExit (exit.Throw v) t = Fits owns t v
  FitsExit _ t = Unit {0}

  pub record Given {A : Type 0} (s : State × H) (n : ℕ) (post : Claim A) (a : A) (t : State × H) : Type 0 where
    pub good : Good owns most n t
    pub grew : Grew owns s t
    pub budget : t.0.budget ≤ s.0.budget
    pub holds : post a t

  pub record Left (s : State × H) (n : ℕ) (e : Exit) (t : State × H) : Type 0 where
    pub good : Good owns most n t
    pub grew : Grew owns s t
    pub budget : t.0.budget ≤ s.0.budget
    pub exit : FitsExit e t

  -- with room for `n` where it gives a result, and for `m` where it leaves
  abbrev pub After : {A : Type 0} → State × H → (State × H → ℕ) → (State × H → ℕ) → Claim A → Ran (State × H) A → Type 0
  After s m n post (gives a t) = Given s (n t) post a t
  After s m n post (leaves e t) = Left s (m t) e t

  abbrev pub left_with : ℕ → State × H → ℕ
  left_with c t = t.0.budget + c

  abbrev pub fixed_at : ℕ → State × H → ℕ
  fixed_at n t = n

  -- From each state that grew of the first, with `c` steps to spare, to one with `d` steps to spare. So many further ones as one likes
  -- stay spared, also where it leaves.
  pub record Runs {A : Type 0} (first : State × H) (c d : ℕ) (m : Eval H A) (post : Claim A) : Type 0 where
    pub run : (x : ℕ) (s : State × H) → Grew owns first s → Good owns most (s.0.budget + (c + x)) s → After s (left_with x) (left_with (d + x)) post (m s)

  -- From each state that grew of the first; no array and no object grows, and the budget says nothing.
  pub record Still {A : Type 0} (first : State × H) (m : Eval H A) (post : Claim A) : Type 0 where
    pub run : (n : ℕ) (s : State × H) → Grew owns first s → Good owns most n s → After s (fixed_at n) (fixed_at n) post (m s)

  widen : {A : Type 0} (s t : State × H) (m n : State × H → ℕ) (post : Claim A) (r : Ran (State × H) A) → Grew owns s t → t.0.budget ≤ s.0.budget → After t m n post r → After s m n post r
  widen s t m n post (gives a u) g b k = record { good = k.good; grew = further s t u g k.grew; budget = omega (arith, b, k.budget); holds = k.holds }
  widen s t m n post (leaves e u) g b k = record { good = k.good; grew = further s t u g k.grew; budget = omega (arith, b, k.budget); exit = k.exit }

  -- ---- one after another

  bind_at : {A B : Type 0} (first s : State × H) (x c d : ℕ) (mid : Claim A) (post : Claim B) (f : A → Eval H B) (r : Ran (State × H) A) → Grew owns first s → After s (left_with x) (left_with (c + x)) mid r
      → ((a : A) (t : State × H) → Grew owns first t → mid a t → Runs t c d (f a) post) → After s (left_with x) (left_with (d + x)) post (and_then r f)
  bind_at first s x c d mid post f (gives a t) g k h =
      widen s t (left_with x) (left_with (d + x)) post (f a t) k.grew k.budget ((h a t (further first s t g k.grew) k.holds).run x t (same t) k.good)
  bind_at first s x c d mid post f (leaves e t) g k h = k

  pub runs_bind : {A B : Type 0} {first : State × H} {b c d : ℕ} {m : Eval H A} {f : A → Eval H B} {mid : Claim A} {post : Claim B} → Runs first b c m mid
      → ((a : A) (t : State × H) → Grew owns first t → mid a t → Runs t c d (f a) post) → Runs first b d (λ s. and_then (m s) f) post
  runs_bind {first = first} {c = c} {d = d} {m = m} {f = f} {mid = mid} {post = post} k h = record { run = λ x s g good. bind_at first s x c d mid post f (m s) g (k.run x s g good) h }

  pub runs_pure : {A : Type 0} {first : State × H} {c : ℕ} {post : Claim A} (a : A) → ((t : State × H) → Grew owns first t → post a t) → Runs first c c (λ s. gives a s) post
  runs_pure a h = record { run = λ x s g good. record { good = good; grew = same s; budget = omega arith; holds = h s g } }

  pub still_pure : {A : Type 0} {first : State × H} {post : Claim A} (a : A) → ((t : State × H) → Grew owns first t → post a t) → Still first (λ s. gives a s) post
  still_pure a h = record { run = λ n s g good. record { good = good; grew = same s; budget = omega arith; holds = h s g } }

  -- ---- less to spare, and less that is said

  less_room : (h : H) (m n : ℕ) → m ≤ n → (store : List Cell) → All (FitsCell owns most h n) store → All (FitsCell owns most h m) store
  less_room h m n le store k = All-weaker (FitsCell owns most h n) (FitsCell owns most h m) (λ c f. record { own = f.own; room = omega (arith, le, f.room) }) store k

  pub good_less : (n m : ℕ) (s : State × H) → m ≤ n → Good owns most n s → Good owns most m s
  good_less n m s le k = record { store = k.store; globals = k.globals; cells = less_room s.1 m n le s.0.store k.cells; room = omega (arith, le, k.room); host = k.host; addresses = k.addresses }

  weaker_at : {A : Type 0} (s : State × H) (y x c d : ℕ) (post post' : Claim A) (r : Ran (State × H) A) → x ≤ y → d ≤ c → ((a : A) (t : State × H) → Grew owns s t → post a t → post' a t) → After s (left_with y) (left_with c) post r → After s (left_with x) (left_with d) post' r
  weaker_at s y x c d post post' (gives a t) lower le h k = record { good = good_less (t.0.budget + c) (t.0.budget + d) t (omega (arith, le)) k.good; grew = k.grew; budget = k.budget; holds = h a t k.grew k.holds }
  weaker_at s y x c d post post' (leaves e t) lower le h k = record { good = good_less (t.0.budget + y) (t.0.budget + x) t (omega (arith, lower)) k.good; grew = k.grew; budget = k.budget; exit = k.exit }

  pub runs_less : {A : Type 0} {first : State × H} {b c : ℕ} {m : Eval H A} {post : Claim A} (d : ℕ) → d ≤ c → Runs first b c m post → Runs first b d m post
  runs_less {c = c} {m = m} {post = post} d le k = record { run = λ x s g good. weaker_at s x x (c + x) (d + x) post post (m s) (omega arith) (omega (arith, le)) (λ a t f h. h) (k.run x s g good) }

  pub runs_post : {A : Type 0} {first : State × H} {b c : ℕ} {m : Eval H A} {post post' : Claim A} → Runs first b c m post → ((a : A) (t : State × H) → Grew owns first t → post a t → post' a t) → Runs first b c m post'
  runs_post {first = first} {c = c} {m = m} {post = post} {post' = post'} k h = record { run = λ x s g good. weaker_at s x x (c + x) (c + x) post post' (m s) (omega arith) (omega arith) (λ a t f q. h a t (further first s t g f) q) (k.run x s g good) }

  -- what is spared stays so
  pub runs_spared : {A : Type 0} {first : State × H} {m : Eval H A} {post : Claim A} (c : ℕ) → Runs first 0 0 m post → Runs first c c m post
  runs_spared {m = m} {post = post} c k = record { run = λ x s g good. weaker_at s (c + x) x (0 + (c + x)) (c + x) post post (m s) (omega arith) (omega arith) (λ a t f h. h) (k.run (c + x) s g (subst (λ n. Good owns most n s) (omega arith) good)) }

  pub runs_leave : {A : Type 0} {first : State × H} {c d : ℕ} {post : Claim A} (e : Exit) → ((t : State × H) → Grew owns first t → FitsExit e t) → Runs first c d (λ s. leaves e s) post
  runs_leave {c = c} e h = record { run = λ x s g good. record { good = good_less (s.0.budget + (c + x)) (s.0.budget + x) s (omega arith) good; grew = same s; budget = omega arith; exit = h s g } }

  still_at : {A : Type 0} (s : State × H) (x n c d : ℕ) (post : Claim A) (r : Ran (State × H) A) → n ≡ s.0.budget + (c + x) → d ≤ c → After s (fixed_at n) (fixed_at n) post r → After s (left_with x) (left_with (d + x)) post r
  still_at s x n c d post (gives a t) e le k = record { good = good_less n (t.0.budget + (d + x)) t (omega (arith, e, le, k.budget)) k.good; grew = k.grew; budget = k.budget; holds = k.holds }
  still_at s x n c d post (leaves y t) e le k = record { good = good_less n (t.0.budget + x) t (omega (arith, e, le, k.budget)) k.good; grew = k.grew; budget = k.budget; exit = k.exit }

  pub still_runs : {A : Type 0} {first : State × H} {m : Eval H A} {post : Claim A} (c d : ℕ) → d ≤ c → Still first m post → Runs first c d m post
  still_runs {m = m} {post = post} c d le k = record { run = λ x s g good. still_at s x (s.0.budget + (c + x)) c d post (m s) refl le (k.run (s.0.budget + (c + x)) s g good) }

  -- ---- throws that are caught

  caught_at : {A : Type 0} (first s : State × H) (x d : ℕ) (post : Claim A) (handle : Value → Eval H A) (r : Ran (State × H) A) → Grew owns first s → After s (left_with x) (left_with (d + x)) post r
      → ((v : Value) (t : State × H) → Grew owns first t → Fits owns t v → Runs t 0 d (handle v) post) → After s (left_with x) (left_with (d + x)) post (caught r handle)
  caught_at first s x d post handle (gives a t) g k h = k
  caught_at first s x d post handle (leaves exit.NoMemory t) g k h = k
  caught_at first s x d post handle (leaves (exit.Throw v) t) g k h =
      widen s t (left_with x) (left_with (d + x)) post (handle v t) k.grew k.budget ((h v t (further first s t g k.grew) k.exit).run x t (same t) (subst (λ n. Good owns most n t) (omega arith) k.good))
  caught_at first s x d post handle (leaves (exit.Stop w) t) g k h = k

  pub runs_caught : {A : Type 0} {first : State × H} {c d : ℕ} {m : Eval H A} {handle : Value → Eval H A} {post : Claim A} → Runs first c d m post
      → ((v : Value) (t : State × H) → Grew owns first t → Fits owns t v → Runs t 0 d (handle v) post) → Runs first c d (λ s. caught (m s) handle) post
  runs_caught {first = first} {d = d} {m = m} {handle = handle} {post = post} k h = record { run = λ x s g good. caught_at first s x d post handle (m s) g (k.run x s g good) h }

  -- ---- evaluations that take no steps from what is left

  pub good_steps : (n b : ℕ) (s : State × H) → Good owns most n s → Good owns most n (with_steps b s)
  good_steps n b s k = record {
    store = k.store;
    globals = All-weaker (λ (v : List ℕ × Value). Fits owns s v.1) (λ (v : List ℕ × Value). Fits owns (with_steps b s) v.1) (λ v f. record { lawful = f.lawful; own = f.own }) s.0.globals k.globals;
    cells = k.cells;
    room = k.room;
    host = k.host;
    addresses = k.addresses;
  }

  grew_steps : (b d : ℕ) (s t : State × H) → Grew owns s t → Grew owns (with_steps b s) (with_steps d t)
  grew_steps b d s t g = record { store = record { kinds = g.store.kinds; fixed = g.store.fixed }; host = g.host }

  abbrev pub Value' : Claim Value
  Value' v t = Fits owns t v

  exit_steps : (b : ℕ) (e : Exit) (t : State × H) → FitsExit e t → FitsExit e (with_steps b t)
  exit_steps b (exit.Throw v) t h = record { lawful = h.lawful; own = h.own }
  exit_steps b exit.NoMemory t h = tt
  exit_steps b (exit.Stop w) t h = tt

  unmetered_at : (s : State × H) (x c d b : ℕ) (r : Ran (State × H) Value) → d ≤ c → After (with_steps b s) (fixed_at (s.0.budget + (c + x))) (fixed_at (s.0.budget + (c + x))) Value' r → After s (left_with x) (left_with (d + x)) Value' (with_budget s.0.budget r)
  unmetered_at s x c d b (gives v t) le k = record {
    good = good_less (s.0.budget + (c + x)) (s.0.budget + (d + x)) (with_steps s.0.budget t) (omega (arith, le)) (good_steps (s.0.budget + (c + x)) s.0.budget t k.good);
    grew = grew_steps s.0.budget s.0.budget (with_steps b s) t k.grew;
    budget = omega arith;
    holds = record { lawful = k.holds.lawful; own = k.holds.own };
  }
  unmetered_at s x c d b (leaves e t) le k = record {
    good = good_less (s.0.budget + (c + x)) (s.0.budget + x) (with_steps s.0.budget t) (omega arith) (good_steps (s.0.budget + (c + x)) s.0.budget t k.good);
    grew = grew_steps s.0.budget s.0.budget (with_steps b s) t k.grew;
    budget = omega arith;
    exit = exit_steps s.0.budget e t k.exit;
  }

  pub runs_unmetered : {first : State × H} {m : Eval H Value} (c d : ℕ) → d ≤ c → Still first m Value' → Runs first c d (unmetered m) Value'
  unfolding unmetered
  runs_unmetered {first = first} {m = m} c d le k = record {
    run = λ x s g good.
        let full = with_steps (2 ^ 64 - 1) s in
        unmetered_at s x c d (2 ^ 64 - 1) (m full) le
        (k.run (s.0.budget + (c + x)) full (further first s full g (record { store = record { kinds = λ kind at h. h; fixed = λ at x is h. h }; host = λ x h. h })) (good_steps (s.0.budget + (c + x)) (2 ^ 64 - 1) s good));
  }
