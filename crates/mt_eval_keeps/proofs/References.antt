-- Names, properties and the calls of the host.
use Rattle.std.proofs.Common.{◌≡◌, ℕ, suc, ◌+◌, ◌≤◌, ◌<◌, ◌^◌, min, List, [], ◌∷◌, ◌++◌, length, map, Option, None, Some, Bool, true, false, Result, Ok, Err, refl, ap, subst, arith}
use Rattle.std.specs.Prelude.{All, IsTrue, slice_get, slice_set, is_some, if◌then◌else◌}
use Rattle.std.specs.Option.{option_map}
use Rattle.std.proofs.lemmas.List.Elements.{All-nil, All-cons, All-head, All-tail, All-set, All-append, All-weaker}
use Rattle.mt_eval_keeps.specs.Growth.{Owning, Thing, count_of, is_fixed, GrewTo, OwnValue, OwnCell, FitsCell, Fits, Good, Grew}
use Rattle.mt_eval_keeps.specs.Growth as thing
use Rattle.mt_eval_keeps.specs.Hosts.{FitsDone, KeepsAnswer, KeepsCall, KeepsAll}
use Rattle.mt_eval_keeps.proofs.Changes.{written_leaves}
use Rattle.mt_eval_keeps.proofs.Operations.{all_at, own_property}
use Rattle.mt_eval_keeps.proofs.Runs.{same, fits_kept, own_cell_kept, Claim, After, Runs, Still, still_pure, still_runs, runs_bind, runs_pure, fixed_at, Value'}
use Rattle.mt_eval_keeps.proofs.Steps.{Any, added_grew, put_grew, store_grew, good_store, still_settled, still_throw, runs_operate}
use Rattle.mt_eval_meaning.specs.Host.{Answer, Answering, Meaning, Outside, added_cell, seen, does, done_ran, outside_by}
use Rattle.mt_eval_meaning.specs.References.{variable_value, assignable, global_value, read_variable, write_variable, read_global, write_global, write_name, variable_put, declare_variable, declare, declare_global, host_key, is_hosted, read_builtin, read_name, get, get_by, set, set_by, read, write}
use Rattle.mt_eval_meaning.specs.Runs.{gives, and_then}
use Rattle.mt_eval_meaning.specs.State.{Eval, throw, or_throw, put_cell, put_global, on_state, beside}
use Rattle.mt_eval_meaning.specs.declared.exit.Done.{Done}
use Rattle.mt_eval_meaning.specs.declared.exit.Done.TheVariants as done
use Rattle.mt_eval_meaning.specs.declared.named_value.NamedValue.{NamedValue}
use Rattle.mt_eval_meaning.specs.declared.reference.Reference.{Reference}
use Rattle.mt_eval_meaning.specs.declared.reference.Reference.TheVariants as reference
use Rattle.mt_eval_meaning.specs.declared.reference.Referent.{Referent}
use Rattle.mt_eval_meaning.specs.declared.reference.Referent.TheVariants as refers
use Rattle.mt_eval_meaning.specs.declared.state.State.{State}
use Rattle.mt_ops.specs.declared.error.ErrorKind.{ErrorKind}
use Rattle.mt_ops.specs.declared.error.ErrorKind.TheVariants as error
use Rattle.mt_ops_properties.proofs.Lawfulness.{property_lawful}
use Rattle.mt_ops_properties.specs.Properties.{property, written}
use Rattle.mt_value.proofs.Laws.{lawful_put, value_kept}
use Rattle.mt_value.specs.Globals.{Variables, value_of, assigned}
use Rattle.mt_value.specs.Lawful.{Kind, kind_of, Names, LawfulCell}
use Rattle.mt_value.specs.Limits.{text_fits}
use Rattle.mt_value.specs.Names.{is_same}
use Rattle.mt_value.specs.declared.cell.Cell.{Cell}
use Rattle.mt_value.specs.declared.cell.Cell.TheVariants as cell
use Rattle.mt_value.specs.declared.value.Native.{Native}
use Rattle.mt_value.specs.declared.value.Native.TheVariants as native
use Rattle.mt_value.specs.declared.value.Value.{Value}
use Rattle.mt_value.specs.declared.value.Value.TheVariants as value

module _ {H : Type 0} (owns : Owning H) (most : ℕ) where
  -- ---- variables

  abbrev FitsResult : {A : Type 0} → (A → Type 0) → Result A ErrorKind → Type 0
  FitsResult P (Ok a) = P a
  FitsResult P (Err e) = Unit {0}

  thrown_or : {A : Type 0} (n : ℕ) (s : State × H) (post : Claim owns most A) (r : Result A ErrorKind) → Good owns most n s → FitsResult (λ a. post a s) r → After owns most s (fixed_at owns most n) (fixed_at owns most n) post (beside s.1 (or_throw r s.0))
  thrown_or n s post (Ok a) good k = record { good = good; grew = same owns most s; budget = omega arith; holds = k }
  thrown_or n s post (Err e) good k = (still_throw owns most e).run n s (same owns most s) good

  variable_fits : (n : ℕ) (s : State × H) (text : List ℕ) (at : ℕ) (o : Option Cell) → slice_get s.0.store at ≡ o → Good owns most n s → FitsResult (λ v. Fits owns s v) (variable_value text o)
  variable_fits n s text at (Some (cell.Variable (Some v))) is good = record {
    lawful = all_at (LawfulCell s.0.store) s.0.store at (cell.Variable (Some v)) good.store.cells is;
    own = (all_at (FitsCell owns most s.1 n) s.0.store at (cell.Variable (Some v)) good.cells is).own;
  }
  variable_fits n s text at _ is good = tt

  still_read_variable : {first : State × H} (text : List ℕ) (at : ℕ) → Still owns most first (on_state (read_variable text at)) (Value' owns most)
  unfolding read_variable
  still_read_variable text at = record { run = λ n s g good. thrown_or n s (Value' owns most) (variable_value text (slice_get s.0.store at)) good (variable_fits n s text at (slice_get s.0.store at) refl good) }

  global_fits : (s : State × H) (text : List ℕ) (vs : Variables) → All (λ v. Fits owns s v.1) vs → FitsResult (λ v. Fits owns s v) (global_value text (value_of text vs))
  global_fits s text [] k = tt
  global_fits s text (v ∷ vs) k = by (is_same text v.0) (global_fits s text vs (All-tail (λ v. Fits owns s v.1) v vs k))
    where
      by : (b : Bool) → FitsResult (λ v. Fits owns s v) (global_value text (value_of text vs)) → FitsResult (λ v. Fits owns s v) (global_value text (if b then Some v.1 else value_of text vs))
      by true rest = All-head (λ v. Fits owns s v.1) v vs k
      by false rest = rest

  still_read_global : {first : State × H} (text : List ℕ) → Still owns most first (on_state (read_global text)) (Value' owns most)
  unfolding read_global
  still_read_global text = record { run = λ n s g good. thrown_or n s (Value' owns most) (global_value text (value_of text s.0.globals)) good (global_fits s text s.0.globals good.globals) }

  put_at : (n : ℕ) (s : State × H) (at : ℕ) (v : Value) → Names s.0.store Kind.variable at → Fits owns s v → Good owns most n s → After owns most s (fixed_at owns most n) (fixed_at owns most n) (Any owns most) (beside s.1 (put_cell at (cell.Variable (Some v)) s.0))
  unfolding put_cell
  put_at n s at v named fits good =
      let c = cell.Variable (Some v) in
      let new = slice_set s.0.store at c in
      let g = put_grew s.0.store at c refl named in
      record {
        good = good_store owns most n n s new (omega arith) good g (lawful_put s.0.store at c named good.store (value_kept s.0.store new g.kinds v fits.lawful)) (All-set (FitsCell owns most s.1 n) s.0.store at c (record { own = fits.own; room = omega (arith, good.room) }) good.cells);
        grew = store_grew owns most s new g;
        budget = omega arith;
        holds = tt;
      }

  write_at : (n : ℕ) (s : State × H) (text : List ℕ) (at : ℕ) (b : Bool) (v : Value) (o : Option Cell) → slice_get s.0.store at ≡ o → Fits owns s v → Good owns most n s
      → After owns most s (fixed_at owns most n) (fixed_at owns most n) (Any owns most) (beside s.1 (and_then (or_throw (assignable text b o) s.0) (λ _. put_cell at (cell.Variable (Some v)))))
  unfolding throw
  write_at n s text at true v (Some (cell.Variable (Some w))) is fits good = (still_throw owns most {A = Unit {0}} {post = Any owns most} (error.Constant text)).run n s (same owns most s) good
  write_at n s text at false v (Some (cell.Variable (Some w))) is fits good = put_at n s at v (ap (option_map kind_of) is) fits good
  write_at n s text at b v _ is fits good = (still_throw owns most {A = Unit {0}} {post = Any owns most} (error.BeforeDeclaration text)).run n s (same owns most s) good

  still_write_variable : {first : State × H} (text : List ℕ) (at : ℕ) (b : Bool) (v : Value) → Fits owns first v → Still owns most first (on_state (write_variable text at b v)) (Any owns most)
  unfolding write_variable
  still_write_variable text at b v fits = record { run = λ n s g good. write_at n s text at b v (slice_get s.0.store at) refl (fits_kept owns most g fits) good }

  assigned_fits : (s : State × H) (text : List ℕ) (v : Value) (vs : Variables) → Fits owns s v → All (λ v. Fits owns s v.1) vs → All (λ v. Fits owns s v.1) (assigned text v vs)
  assigned_fits s text v [] fits k = All-cons (λ v. Fits owns s v.1) (text, v) [] fits k
  assigned_fits s text v (w ∷ vs) fits k = by (is_same text w.0) (assigned_fits s text v vs fits (All-tail (λ v. Fits owns s v.1) w vs k))
    where
      by : (b : Bool) → All (λ v. Fits owns s v.1) (assigned text v vs) → All (λ v. Fits owns s v.1) (if b then (w.0, v) ∷ vs else w ∷ assigned text v vs)
      by true rest = All-cons (λ v. Fits owns s v.1) (w.0, v) vs fits (All-tail (λ v. Fits owns s v.1) w vs k)
      by false rest = All-cons (λ v. Fits owns s v.1) w (assigned text v vs) (All-head (λ v. Fits owns s v.1) w vs k) rest

  still_put_global : {first : State × H} (text : List ℕ) (v : Value) → Fits owns first v → Still owns most first (on_state (put_global text v)) (Any owns most)
  unfolding put_global
  still_put_global text v fits = record {
    run = λ n s g good.
        let t : State × H = (record s.0 { globals = assigned text v s.0.globals }, s.1) in
        record {
          good = record {
            store = good.store;
            globals = All-weaker (λ (v : List ℕ × Value). Fits owns s v.1) (λ (v : List ℕ × Value). Fits owns t v.1) (λ v f. record { lawful = f.lawful; own = f.own }) (assigned text v s.0.globals) (assigned_fits s text v s.0.globals (fits_kept owns most g fits) good.globals);
            cells = good.cells;
            room = good.room;
            host = good.host;
            addresses = good.addresses;
          };
          grew = record { store = record { kinds = λ kind at h. h; fixed = λ at x is h. h }; host = λ x h. h };
          budget = omega arith;
          holds = tt;
        };
  }

  global_at : (n : ℕ) (s : State × H) (text : List ℕ) (v : Value) (r : Result Value ErrorKind) → Fits owns s v → Good owns most n s
      → After owns most s (fixed_at owns most n) (fixed_at owns most n) (Any owns most) (beside s.1 (and_then (or_throw r s.0) (λ _. put_global text v)))
  unfolding throw
  global_at n s text v (Ok w) fits good = (still_put_global text v fits).run n s (same owns most s) good
  global_at n s text v (Err e) fits good = (still_throw owns most {A = Unit {0}} {post = Any owns most} e).run n s (same owns most s) good

  still_write_global : {first : State × H} (text : List ℕ) (v : Value) → Fits owns first v → Still owns most first (on_state (write_global text v)) (Any owns most)
  unfolding write_global
  still_write_global text v fits = record { run = λ n s g good. global_at n s text v (global_value text (value_of text s.0.globals)) (fits_kept owns most g fits) good }

  pub still_write_name : {first : State × H} (text : List ℕ) (r : Referent) (v : Value) → Fits owns first v → Still owns most first (on_state (write_name text r v)) (Any owns most)
  still_write_name text (refers.Variable at b) v fits = still_write_variable text at b v fits
  still_write_name text refers.Service v fits = still_throw owns most (error.Constant text)
  still_write_name text (refers.Builtin n) v fits = still_throw owns most (error.Constant text)
  still_write_name text refers.Global v fits = still_write_global text v fits

  declare_at : (n : ℕ) (s : State × H) (at : ℕ) (v : Value) (o : Option Cell) → slice_get s.0.store at ≡ o → Fits owns s v → Good owns most n s
      → After owns most s (fixed_at owns most n) (fixed_at owns most n) (Any owns most) (beside s.1 (variable_put o at v s.0))
  declare_at n s at v (Some (cell.Variable w)) is fits good = put_at n s at v (ap (option_map kind_of) is) fits good
  declare_at n s at v _ is fits good = record { good = good; grew = same owns most s; budget = omega arith; holds = tt }

  still_declare_variable : {first : State × H} (at : ℕ) (v : Value) → Fits owns first v → Still owns most first (on_state (declare_variable at v)) (Any owns most)
  unfolding declare_variable
  still_declare_variable at v fits = record { run = λ n s g good. declare_at n s at v (slice_get s.0.store at) refl (fits_kept owns most g fits) good }

  pub still_declare : {first : State × H} (text : List ℕ) (r : Referent) (v : Value) → Fits owns first v → Still owns most first (on_state (declare text r v)) (Any owns most)
  still_declare text (refers.Variable at b) v fits = still_declare_variable at v fits
  still_declare text refers.Service v fits = still_pure owns most tt (λ t g. tt)
  still_declare text (refers.Builtin n) v fits = still_pure owns most tt (λ t g. tt)
  still_declare text refers.Global v fits = still_put_global text v fits

  pub still_declare_global : {first : State × H} (text : List ℕ) → Still owns most first (on_state (declare_global text)) (Any owns most)
  unfolding declare_global
  still_declare_global {first = first} text = record { run = λ n s g good. by (is_some (value_of text s.0.globals)) n s good }
    where
      by : (b : Bool) (n : ℕ) (s : State × H) → Good owns most n s → After owns most s (fixed_at owns most n) (fixed_at owns most n) (Any owns most) (beside s.1 (if b then gives tt s.0 else put_global text value.Undefined s.0))
      by true n s good = record { good = good; grew = same owns most s; budget = omega arith; holds = tt }
      by false n s good = (still_put_global {first = s} text value.Undefined (record { lawful = tt; own = tt })).run n s (same owns most s) good

  -- ---- what lies outside

  module _ (allowed : List ℕ → List (List ℕ) → ℕ → Type 0) where
    -- each evaluation keeps all, where its values fit
    pub record OutsideKeeps (o : Outside H) : Type 0 where
      pub native : (which : Native) (arguments : List Value) (t : State × H) → All (Fits owns t) arguments → Still owns most t (o.native which arguments) (Value' owns most)
      pub method : (base : Value) (key : List ℕ) (arguments : List Value) (t : State × H) → Fits owns t base → IsTrue (text_fits key) → All (Fits owns t) arguments → Still owns most t (o.method base key arguments) (Value' owns most)
      pub get : (base : Value) (key : List ℕ) (t : State × H) → Fits owns t base → IsTrue (text_fits key) → Still owns most t (o.get base key) (Value' owns most)
      pub set : (base : Value) (key : List ℕ) (v : Value) (t : State × H) → Fits owns t base → IsTrue (text_fits key) → Fits owns t v → Still owns most t (o.set base key v) (Value' owns most)
      pub frame : (service : List ℕ) (arguments : List Value) (t : State × H) → IsTrue (text_fits service) → All (Fits owns t) arguments → Still owns most t (o.frame service arguments) (Value' owns most)
      pub staged : (tilde : ℕ) (values : List Value) (t : State × H) → owns.has t.1 (thing.tilde tilde (length values)) → All (Fits owns t) values → Still owns most t (o.staged tilde values) (Value' owns most)
      pub element : (tag : List ℕ) (attributes : List NamedValue) (children : List Value) (t : State × H) → allowed tag (map (λ a. a.name) attributes) (length children) → All (λ a. Fits owns t a.value) attributes → All (Fits owns t) children
          → Still owns most t (o.element tag attributes children) (Value' owns most)
      pub enter : (at : ℕ) (arguments : List Value) (c : ℕ) (t : State × H) → All (Fits owns t) arguments → Runs owns most t c c (o.enter at arguments) (Value' owns most)

    -- ---- the calls of a host

    done_at : (n : ℕ) (s : State × H) (o : Done) (t : State × H) → Good owns most n t → Grew owns s t → t.0.budget ≤ s.0.budget → FitsDone owns most allowed t.0.store t.1 o
        → After owns most s (fixed_at owns most n) (fixed_at owns most n) (Value' owns most) (done_ran o t)
    done_at n s (done.Value v) t good g b k = record { good = good; grew = g; budget = b; holds = record { lawful = k.0; own = k.1 } }
    done_at n s (done.Throw v) t good g b k = record { good = good; grew = g; budget = b; exit = record { lawful = k.0; own = k.1 } }
    done_at n s (done.Stop w) t good g b k = record { good = good; grew = g; budget = b; exit = tt }

    answer_at : (n : ℕ) (s : State × H) (a : Answer H) → Good owns most n s → KeepsAnswer owns most allowed s.1 s.0.store n a
        → After owns most s (fixed_at owns most n) (fixed_at owns most n) (Value' owns most) (done_ran a.outcome (record s.0 { store = s.0.store ++ map added_cell a.added; budget = min a.budget s.0.budget }, a.host))
    answer_at n s a good k =
        let new = s.0.store ++ map added_cell a.added in
        let t : State × H = (record s.0 { store = new; budget = min a.budget s.0.budget }, a.host) in
        let g : Grew owns s t = record { store = added_grew s.0.store (map added_cell a.added); host = k.host } in
        done_at n s a.outcome t (record {
          store = k.lawful;
          globals = All-weaker (λ (v : List ℕ × Value). Fits owns s v.1) (λ (v : List ℕ × Value). Fits owns t v.1) (λ v f. fits_kept owns most g f) s.0.globals good.globals;
          cells = All-append (FitsCell owns most a.host n) s.0.store (map added_cell a.added) (All-weaker (FitsCell owns most s.1 n) (FitsCell owns most a.host n) (λ c f. record { own = own_cell_kept owns most s.1 a.host k.host c f.own; room = f.room }) s.0.store good.cells) k.cells;
          room = good.room;
          host = k.host thing.itself good.host;
          addresses = k.addresses;
        }) g (omega arith) k.value

    still_does : {first : State × H} (pre : State × H → Type 0) (call : Answering H) → KeepsCall owns most allowed pre call → ((s : State × H) → Grew owns first s → pre s) → Still owns most first (does call) (Value' owns most)
    unfolding does
    still_does pre call k p = record { run = λ n s g good. answer_at n s (call s.1 (seen s.0.store) s.0.budget) good (k n s good (p s g)) }

    -- a host that keeps all, with calls of functions that do
    pub host_keeps : (host : Meaning H) (enter : ℕ → List Value → Eval H Value) → KeepsAll owns most allowed host → ((at : ℕ) (arguments : List Value) (c : ℕ) (t : State × H) → All (Fits owns t) arguments → Runs owns most t c c (enter at arguments) (Value' owns most))
        → OutsideKeeps (outside_by host (λ p. p) enter)
    host_keeps host enter k e = record {
      native = λ which vs t h. still_does (λ s. All (Fits owns s) vs) (host.native which vs) (k.native which vs) (λ s g. later vs t s g h);
      method = λ base key vs t b f h. still_does (λ s. Fits owns s base × IsTrue (text_fits key) × All (Fits owns s) vs) (host.method base key vs) (k.method base key vs) (λ s g. (fits_kept owns most g b, f, later vs t s g h));
      get = λ base key t b f. still_does (λ s. Fits owns s base × IsTrue (text_fits key)) (host.get base key) (k.get base key) (λ s g. (fits_kept owns most g b, f));
      set = λ base key v t b f w. still_does (λ s. Fits owns s base × IsTrue (text_fits key) × Fits owns s v) (host.set base key v) (k.set base key v) (λ s g. (fits_kept owns most g b, f, fits_kept owns most g w));
      frame = λ service vs t f h. still_does (λ s. IsTrue (text_fits service) × All (Fits owns s) vs) (host.frame service vs) (k.frame service vs) (λ s g. (f, later vs t s g h));
      staged = λ tilde vs t f h. still_does (λ s. owns.has s.1 (thing.tilde tilde (length vs)) × All (Fits owns s) vs) (host.staged tilde vs) (k.staged tilde vs) (λ s g. (g.host (thing.tilde tilde (length vs)) f, later vs t s g h));
      element = λ tag xs vs t f a h. still_does (λ s. allowed tag (map (λ a. a.name) xs) (length vs) × All (λ a. Fits owns s a.value) xs × All (Fits owns s) vs) (host.element tag xs vs) (k.element tag xs vs)
          (λ s g. (f, All-weaker (λ (a : NamedValue). Fits owns t a.value) (λ a. Fits owns s a.value) (λ a q. fits_kept owns most g q) xs a, later vs t s g h));
      enter = e;
    }
      where
        later : (vs : List Value) (t s : State × H) → Grew owns t s → All (Fits owns t) vs → All (Fits owns s) vs
        later vs t s g h = All-weaker (Fits owns t) (Fits owns s) (λ v f. fits_kept owns most g f) vs h

    module _ (small : most < 2 ^ 53) (o : Outside H) (keeps : OutsideKeeps o) where
      still_builtin : {first : State × H} (n : Native) → Still owns most first (read_builtin o n) (Value' owns most)
      still_builtin {first = first} native.Event = keeps.native native.Event [] first (All-nil (Fits owns first))
      still_builtin n = still_pure owns most (value.Native n) (λ t g. record { lawful = tt; own = tt })

      pub still_read_name : {first : State × H} (text : List ℕ) (r : Referent) → IsTrue (text_fits text) → Still owns most first (read_name o text r) (Value' owns most)
      still_read_name text (refers.Variable at b) fits = still_read_variable text at
      still_read_name text refers.Service fits = still_pure owns most (value.Svc text) (λ t g. record { lawful = fits; own = tt })
      still_read_name text (refers.Builtin n) fits = still_builtin n
      still_read_name text refers.Global fits = still_read_global text

      pub key_fits : (base key : Value) (text : List ℕ) (t : State × H) → host_key base key ≡ Some text → Fits owns t key → IsTrue (text_fits text)
      key_fits base (value.Text k) text t is fits = by (is_hosted base) is
        where
          by : (b : Bool) → (if b then Some k else None) ≡ Some text → IsTrue (text_fits text)
          by true e = let same : k ≡ text = cc in subst (λ x. IsTrue (text_fits x)) same fits.lawful
          by false e = absurd (cc)
      key_fits base _ text t is fits = absurd (cc)

      pub still_get : {first : State × H} (base key : Value) → Fits owns first base → Fits owns first key → Still owns most first (get o base key) (Value' owns most)
      unfolding get
      still_get {first = first} base key b k = by (host_key base key) refl
        where
          by : (x : Option (List ℕ)) → host_key base key ≡ x → Still owns most first (get_by o x base key) (Value' owns most)
          by (Some text) is = keeps.get base text first b (key_fits base key text first is k)
          by None is = still_settled owns most (λ store. property store base key) (λ n s g good. (property_lawful s.0.store base key good.store (fits_kept owns most g b).lawful, own_property owns most s.1 s.0.store base key (All-weaker (FitsCell owns most s.1 n) (OwnCell owns s.1) (λ c f. f.own) s.0.store good.cells)))

      pub runs_set : {first : State × H} (c : ℕ) (base key v : Value) → Fits owns first base → Fits owns first key → Fits owns first v → Runs owns most first (suc c) c (set o base key v) (Any owns most)
      unfolding set
      runs_set {first = first} c base key v b k w = runs_bind owns most (by (host_key base key) refl) (λ a t g h. runs_pure owns most tt (λ u f. tt))
        where
          by : (x : Option (List ℕ)) → host_key base key ≡ x → Runs owns most first (suc c) c (set_by o x base key v) (Value' owns most)
          by (Some text) is = still_runs owns most (suc c) c (omega arith) (keeps.set base text v first b (key_fits base key text first is k) w)
          by None is = runs_operate owns most (λ store. written store base key v) (omega arith) (λ x s g good.
              let l = fits_kept owns most g k in
              let r = fits_kept owns most g w in
              written_leaves owns most s.1 small (s.0.budget + (c + x)) s.0.store key v good.store l.lawful r.lawful r.own (subst (λ m. All (FitsCell owns most s.1 m) s.0.store) (omega arith) good.cells) (omega (arith, good.room)) base)

      -- ---- targets

      abbrev pub FitsReference : Claim owns most Reference
      FitsReference (reference.Name text r) t = IsTrue (text_fits text)
      FitsReference (reference.Property base key) t = Fits owns t base × Fits owns t key

      pub still_read : {first : State × H} (place : Reference) → FitsReference place first → Still owns most first (read o place) (Value' owns most)
      still_read (reference.Name text r) k = still_read_name text r k
      still_read (reference.Property base key) k = still_get base key k.0 k.1

      pub runs_write : {first : State × H} (c : ℕ) (place : Reference) (v : Value) → FitsReference place first → Fits owns first v → Runs owns most first (suc c) c (write o place v) (Any owns most)
      runs_write c (reference.Name text r) v k w = still_runs owns most (suc c) c (omega arith) (still_write_name text r v w)
      runs_write c (reference.Property base key) v k w = runs_set c base key v k.0 k.1 w
