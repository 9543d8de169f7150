-- The forms of expressions that use what lies outside of them: names, properties, calls, and what the host makes.
use Rattle.std.proofs.Common.{◌≡◌, ℕ, suc, ◌+◌, ◌<◌, ◌^◌, List, [], ◌∷◌, ◌++◌, length, map, Option, None, Some, Bool, true, false, refl, sym, subst, ◌∙◌, arith, append_assoc}
use Rattle.std.proofs.lemmas.List.{append-nil, map-append}
use Rattle.std.specs.Prelude.{All, IsTrue, if◌then◌else◌}
use Rattle.std.proofs.lemmas.List.Elements.{All-nil, All-push, All-weaker}
use Rattle.mt_eval_keeps.specs.Growth.{Owning, Thing, count_of, OwnValue, OwnCell, FitsCell, Fits, Good, Grew}
use Rattle.mt_eval_keeps.specs.Growth as thing
use Rattle.mt_eval_keeps.proofs.Changes.{method_leaves}
use Rattle.mt_eval_keeps.proofs.Operations.{own_stepped, stepped_lawful}
use Rattle.mt_eval_keeps.proofs.Forms.{stable_value, all_kept, still_binary}
use Rattle.mt_eval_keeps.proofs.References.{OutsideKeeps, FitsReference, still_read, runs_write, still_get, still_read_name, still_write_name}
use Rattle.mt_eval_keeps.proofs.Runs.{same, further, fits_kept, Claim, After, left_with, Runs, Still, still_runs, runs_bind, runs_pure, runs_less, runs_post, runs_unmetered, Value'}
use Rattle.mt_eval_keeps.proofs.Steps.{Pays, Holds, pays_later, holds_later, runs_spend, runs_operate, runs_throw, beside_then, runs_all, runs_all_holding, still_settled}
use Rattle.mt_eval_meaning.specs.Calls as calls
use Rattle.mt_eval_meaning.specs.Expressions as forms
use Rattle.mt_eval_meaning.specs.Host.{Outside}
use Rattle.mt_eval_meaning.specs.References.{host_key, read, write}
use Rattle.mt_eval_meaning.specs.Runs.{Ran, gives, and_then, all_behind}
use Rattle.mt_eval_meaning.specs.State.{Eval, spend, operate, on_state, unmetered}
use Rattle.mt_eval_meaning.specs.declared.callee.Callee.{Callee}
use Rattle.mt_eval_meaning.specs.declared.callee.Callee.TheVariants as callee
use Rattle.mt_eval_meaning.specs.declared.named_value.NamedValue.{NamedValue}
use Rattle.mt_eval_meaning.specs.declared.reference.Reference.{Reference}
use Rattle.mt_eval_meaning.specs.declared.reference.Reference.TheVariants as reference
use Rattle.mt_eval_meaning.specs.declared.reference.Referent.{Referent}
use Rattle.mt_eval_meaning.specs.declared.state.State.{State}
use Rattle.mt_ops_methods.specs.Costs.{method_cost}
use Rattle.mt_ops_methods.specs.Methods.{method as method_of}
use Rattle.mt_ops.specs.Errors.{settled}
use Rattle.mt_ops.specs.declared.error.ErrorKind.TheVariants as error
use Rattle.mt_ops_properties.specs.Costs.{steps, binary_units, property_units}
use Rattle.mt_tree.specs.declared.operators.Binary.{Binary}
use Rattle.mt_tree.specs.declared.operators.StepKind.{StepKind}
use Rattle.mt_tree.specs.declared.operators.StepKind.TheVariants as step
use Rattle.mt_value.specs.Lawful.{Kind, Names, LawfulValue}
use Rattle.mt_value.specs.Limits.{text_fits}
use Rattle.mt_value.specs.declared.value.Value.{Value}
use Rattle.mt_value.specs.declared.value.Value.TheVariants as value

module _ {H : Type 0} (owns : Owning H) (most : ℕ) where
  abbrev V : Claim owns most Value
  V = Value' owns most

  abbrev E : State × H → Eval H Value → Type 0
  E = Pays owns most V

  module _ (allowed : List ℕ → List (List ℕ) → ℕ → Type 0) (small : most < 2 ^ 53) (o : Outside H) (keeps : OutsideKeeps owns most allowed o) where
    abbrev Place : Claim owns most Reference
    Place = FitsReference owns most allowed small o keeps

    -- ---- names, properties and targets

    pub looked_up_pays : {first : State × H} {a : Eval H Value} → ((t : State × H) → Grew owns first t → Still owns most t a V) → E first (forms.looked_up o a)
    unfolding forms.looked_up
    looked_up_pays {first = first} k = record {
      runs = λ c t g.
          runs_bind owns most (runs_spend owns most (suc c) 0 (omega arith)) (λ _ u f _.
          still_runs owns most (suc c) (suc c) (omega arith) (k u (further owns most first t u g f)));
    }

    pub index_pays : {first : State × H} {a b : Eval H Value} → E first a → E first b → E first (forms.index o a b)
    unfolding forms.index
    index_pays {first = first} k l = record {
      runs = λ c t g.
          runs_bind owns most (k.runs c t g) (λ v u f h.
          runs_bind owns most (l.runs (suc c) u (further owns most first t u g f)) (λ w x e i.
          runs_bind owns most (runs_spend owns most (suc c) (steps (property_units v w)) (omega arith)) (λ _ y j _.
          still_runs owns most (suc c) (suc c) (omega arith) (still_get owns most allowed small o keeps v w (fits_kept owns most (further owns most u x y e j) h) (fits_kept owns most j i)))));
    }

    place_kept : {s t : State × H} (place : Reference) → Grew owns s t → Place place s → Place place t
    place_kept (reference.Name text r) g h = h
    place_kept (reference.Property base key) g h = (fits_kept owns most g h.0, fits_kept owns most g h.1)

    pub assignment_pays : {first : State × H} {target : Eval H Reference} {a : Eval H Value} → Holds owns most Place first target → E first a → E first (forms.assignment o target a)
    unfolding forms.assignment
    assignment_pays {first = first} k l = record {
      runs = λ c t g.
          runs_bind owns most (k.runs c t g) (λ place u f h.
          runs_bind owns most (l.runs c u (further owns most first t u g f)) (λ v w e i.
          runs_bind owns most (runs_spend owns most (suc (suc c)) 0 (omega arith)) (λ _ x j _.
          runs_bind owns most (runs_write owns most allowed small o keeps (suc c) place v (place_kept place (further owns most u w x e j) h) (fits_kept owns most j i)) (λ _ y d _.
          runs_pure owns most v (λ z b. fits_kept owns most (further owns most w y z (further owns most w x y j d) b) i)))));
    }

    pub update_pays : {first : State × H} {target : Eval H Reference} {a : Eval H Value} (op : Binary) → Holds owns most Place first target → E first a → E first (forms.update o op target a)
    unfolding forms.update
    update_pays {first = first} op k l = record {
      runs = λ c t g.
          runs_bind owns most (k.runs c t g) (λ place u f h.
          runs_bind owns most (runs_unmetered owns most c c (omega arith) (still_read owns most allowed small o keeps place h)) (λ old u' f' _.
          runs_bind owns most (l.runs c u' (further owns most first u u' (further owns most first t u g f) f')) (λ v w e i.
          runs_bind owns most (runs_spend owns most (suc (suc c)) (steps (binary_units op old v)) (omega arith)) (λ _ x j _.
          runs_bind owns most (still_runs owns most (suc (suc c)) (suc (suc c)) (omega arith) (still_binary owns most op old v)) (λ new y d n.
          runs_bind owns most (runs_write owns most allowed small o keeps (suc c) place new (place_kept place (further owns most u u' y f' (further owns most u' w y e (further owns most w x y j d))) h) n) (λ _ z b _.
          runs_pure owns most new (λ z' b'. fits_kept owns most (further owns most y z z' b b') n)))))));
    }

    value_stepped : {t : State × H} (kind : StepKind) (old new : Value) → Fits owns t old → Fits owns t new → Fits owns t (forms.step_value kind old new)
    value_stepped step.IncBefore old new a b = b
    value_stepped step.DecBefore old new a b = b
    value_stepped step.IncAfter old new a b = a
    value_stepped step.DecAfter old new a b = a

    still_stepped : {first : State × H} (kind : StepKind) (old : Value) → Still owns most first (on_state (operate (λ store. settled (forms.stepped kind old) store))) V
    still_stepped kind old = still_settled owns most (λ store. forms.stepped kind old) (λ n s g good. (stepped_lawful owns most s.1 s.0.store kind old, own_stepped owns most s.1 kind old))

    -- a target that takes a step
    pub count_pays : {first : State × H} {target : Eval H Reference} (kind : StepKind) → Pays owns most Place first target → E first (forms.count o kind target)
    unfolding forms.count
    count_pays {first = first} kind k = record {
      runs = λ c t g.
          runs_bind owns most (k.runs c t g) (λ place u f h.
          runs_bind owns most (runs_unmetered owns most (suc c) (suc c) (omega arith) (still_read owns most allowed small o keeps place h)) (λ old w e i.
          runs_bind owns most (runs_spend owns most (suc (suc c)) 0 (omega arith)) (λ _ x j _.
          runs_bind owns most (still_runs owns most (suc (suc c)) (suc (suc c)) (omega arith) (still_stepped kind old)) (λ new y d n.
          runs_bind owns most (runs_write owns most allowed small o keeps (suc c) place new (place_kept place (further owns most u w y e (further owns most w x y j d)) h) n) (λ _ z b _.
          runs_pure owns most (forms.step_value kind old new) (λ z' b'. value_stepped kind old new (fits_kept owns most (further owns most w x z' j (further owns most x y z' d (further owns most y z z' b b'))) i) (fits_kept owns most (further owns most y z z' b b') n)))))));
    }

    -- a name, whose write lets nothing grow
    pub count_name : {first : State × H} (kind : StepKind) (text : List ℕ) (r : Referent) → IsTrue (text_fits text) → E first (forms.count o kind (λ s. gives (reference.Name text r) s))
    unfolding forms.count
    count_name {first = first} kind text r fits = record {
      runs = λ c t g.
          runs_bind owns most {mid = λ p u. (p ≡ reference.Name text r)} (runs_pure owns most (reference.Name text r) (λ u f. refl)) (λ place u f h.
          subst (λ p. Runs owns most u c (suc c) (after p) V) (sym h) (rest c u));
    }
      where
        after : Reference → Eval H Value
        after place = λ s. and_then (unmetered (read o place) s) (λ old. λ s. and_then (on_state (spend 0) s) (λ _. λ s. and_then (on_state (operate (settled (forms.stepped kind old))) s) (λ new. λ s. and_then (write o place new s) (λ _. λ s. gives (forms.step_value kind old new) s))))

        rest : (c : ℕ) (u : State × H) → Runs owns most u c (suc c) (after (reference.Name text r)) V
        rest c u =
            runs_bind owns most (runs_unmetered owns most c c (omega arith) (still_read_name owns most allowed small o keeps text r fits)) (λ old w e i.
            runs_bind owns most (runs_spend owns most (suc c) 0 (omega arith)) (λ _ x j _.
            runs_bind owns most (still_runs owns most (suc c) (suc c) (omega arith) (still_stepped kind old)) (λ new y d n.
            runs_bind owns most (still_runs owns most (suc c) (suc c) (omega arith) (still_write_name owns most text r new n)) (λ _ z b _.
            runs_pure owns most (forms.step_value kind old new) (λ z' b'. value_stepped kind old new (fits_kept owns most (further owns most w x z' j (further owns most x y z' d (further owns most y z z' b b'))) i) (fits_kept owns most (further owns most y z z' b b') n))))))

    -- ---- what the host makes

    pub tilde_pays : {first : State × H} (id : ℕ) (dollars : List (Eval H Value)) → owns.has first.1 (thing.tilde id (length dollars)) → All (E first) dollars → E first (forms.tilde o id dollars)
    unfolding forms.tilde
    tilde_pays {first = first} id dollars own ks = record {
      runs = λ c t g.
          runs_bind owns most (runs_all owns most V (stable_value owns most) dollars t c (All-weaker (E first) (E t) (pays_later owns most V first t g) dollars ks)) (λ values u f h.
          runs_bind owns most (runs_spend owns most (suc c) 0 (omega arith)) (λ _ w e _.
          let kept = further owns most first t w g (further owns most t u w f e) in
          still_runs owns most (suc c) (suc c) (omega arith) (keeps.staged id values w (kept.host (thing.tilde id (length values)) (subst (λ n. owns.has first.1 (thing.tilde id n)) (sym h.1) own)) (all_kept owns most values u w e h.0))));
    }

    -- the value of an attribute with this name
    abbrev pub Attribute' : Claim owns most NamedValue
    Attribute' a t = Fits owns t a.value

    -- ---- calls

    abbrev pub FitsCallee : Claim owns most Callee
    FitsCallee (callee.Function f) t = Fits owns t f
    FitsCallee (callee.Method base key) t = Fits owns t base × IsTrue (text_fits key)

    callee_kept : {s t : State × H} (f : Callee) → Grew owns s t → FitsCallee f s → FitsCallee f t
    callee_kept (callee.Function f) g h = fits_kept owns most g h
    callee_kept (callee.Method base key) g h = (fits_kept owns most g h.0, h.1)

    pub plain_callee_pays : {first : State × H} {a : Eval H Value} → E first a → Pays owns most FitsCallee first (calls.plain_callee o a)
    unfolding calls.plain_callee
    plain_callee_pays k = record { runs = λ c t g. runs_bind owns most (k.runs c t g) (λ v u f h. runs_pure owns most (callee.Function v) (λ w e. fits_kept owns most e h)) }

    method_fits : (base key : Value) (text : List ℕ) (t : State × H) → calls.method_name base key ≡ Some text → Fits owns t key → IsTrue (text_fits text)
    method_fits base (value.Text k) text t is fits = by (calls.is_object base) is
      where
        by : (b : Bool) → (if b then None else Some k) ≡ Some text → IsTrue (text_fits text)
        by false e = let same : k ≡ text = cc in subst (λ x. IsTrue (text_fits x)) same fits.lawful
        by true e = absurd (cc)
    method_fits base _ text t is fits = absurd (cc)

    pub member_callee_pays : {first : State × H} {a b : Eval H Value} → E first a → E first b → Pays owns most FitsCallee first (calls.member_callee o a b)
    unfolding calls.member_callee
    member_callee_pays {first = first} k l = record {
      runs = λ c t g.
          runs_bind owns most (k.runs c t g) (λ v u f h.
          runs_bind owns most (l.runs (suc c) u (further owns most first t u g f)) (λ w x e i.
          by c v w x (calls.method_name v w) refl (fits_kept owns most e h) i));
    }
      where
        by : (c : ℕ) (v w : Value) (x : State × H) (n : Option (List ℕ)) → calls.method_name v w ≡ n → Fits owns x v → Fits owns x w → Runs owns most x (suc (suc c)) (suc c) (calls.member_by o n v w) FitsCallee
        by c v w x (Some key) is h i = runs_bind owns most (runs_spend owns most (suc c) 0 (omega arith)) (λ _ y j _. runs_pure owns most (callee.Method v key) (λ z b. (fits_kept owns most (further owns most x y z j b) h, method_fits v w key x is i)))
        by c v w x None is h i =
            runs_bind owns most (runs_spend owns most (suc c) (steps (property_units v w)) (omega arith)) (λ _ y j _.
            runs_bind owns most (still_runs owns most (suc c) (suc c) (omega arith) (still_get owns most allowed small o keeps v w (fits_kept owns most j h) (fits_kept owns most j i))) (λ f z d n.
            runs_pure owns most (callee.Function f) (λ z' b. fits_kept owns most b n)))

    pub runs_applied : {first : State × H} (c : ℕ) (f : Value) (values : List Value) → Fits owns first f → All (Fits owns first) values → Runs owns most first c c (calls.applied o f values) V
    runs_applied {first = first} c (value.Fun at) values f ks = keeps.enter at values c first ks
    runs_applied {first = first} c (value.Svc name) values f ks = still_runs owns most c c (omega arith) (keeps.frame name values first f.lawful ks)
    runs_applied {first = first} c (value.Native n) values f ks = still_runs owns most c c (omega arith) (keeps.native n values first ks)
    runs_applied c _ values f ks = runs_throw owns most c c (omega arith) error.NotFunction

    runs_plain_method : {first : State × H} (c : ℕ) (base : Value) (key : List ℕ) (values : List Value) → Fits owns first base → All (Fits owns first) values → Runs owns most first (suc c) (suc c) (on_state (calls.plain_method base key values)) V
    unfolding calls.plain_method
    runs_plain_method {first = first} c base key values h ks = record {
      run = λ y s g good.
          subst (λ (r : Ran (State × H) Value). After owns most s (left_with owns most y) (left_with owns most (suc c + y)) V r) (beside_then owns most s.1 (spend (method_cost base key values s.0.store) s.0) (λ _. operate (method_of base key values)))
          ((runs_bind owns most {first = first} {b = suc c} {d = suc c} (runs_spend owns most (suc (suc c)) (method_cost base key values s.0.store) (omega arith)) (λ _ u f _.
          runs_operate owns most {c = suc (suc c)} (method_of base key values) (omega arith) (λ z x e good.
          let fits = all_kept owns most values first x (further owns most first u x f e) ks in
          method_leaves owns most x.1 small (x.0.budget + (suc c + z)) x.0.store good.store (subst (λ n. All (FitsCell owns most x.1 n) x.0.store) (omega arith) good.cells) (omega (arith, good.room)) key values
          (All-weaker (Fits owns x) (LawfulValue x.0.store) (λ v f. f.lawful) values fits) (All-weaker (Fits owns x) (OwnValue owns x.1) (λ v f. f.own) values fits) base (fits_kept owns most (further owns most first u x f e) h).lawful))).run y s g good);
    }

    runs_invoked : {first : State × H} (c : ℕ) (f : Callee) (values : List Value) → FitsCallee f first → All (Fits owns first) values → Runs owns most first (suc c) (suc c) (calls.invoked o f values) V
    unfolding calls.applied_function calls.hosted_method
    runs_invoked {first = first} c (callee.Function f) values h ks =
        runs_bind owns most (runs_spend owns most (suc c) 0 (omega arith)) (λ _ u g _. runs_applied (suc c) f values (fits_kept owns most g h) (all_kept owns most values first u g ks))
    runs_invoked {first = first} c (callee.Method base key) values h ks = by (host_key base (value.Text key))
      where
        by : (x : Option (List ℕ)) → Runs owns most first (suc c) (suc c) (calls.method_by o x base key values) V
        by (Some text) = runs_bind owns most (runs_spend owns most (suc c) 0 (omega arith)) (λ _ u g _. still_runs owns most (suc c) (suc c) (omega arith) (keeps.method base key values u (fits_kept owns most g h.0) h.1 (all_kept owns most values first u g ks)))
        by None = runs_plain_method c base key values h.0 ks

    pub call_pays : {first : State × H} {f : Eval H Callee} (arguments : List (Eval H Value)) → Pays owns most FitsCallee first f → All (E first) arguments → E first (calls.call o f arguments)
    unfolding calls.call
    call_pays {first = first} arguments k ks = record {
      runs = λ c t g.
          runs_bind owns most (k.runs c t g) (λ f u e h.
          runs_bind owns most (runs_less owns most (suc c) (omega arith) (runs_all owns most V (stable_value owns most) arguments u (suc c) (All-weaker (E first) (E u) (pays_later owns most V first u (further owns most first t u g e)) arguments ks))) (λ values w i n.
          runs_invoked c f values (callee_kept f i h) n.0));
    }

    -- ---- elements

    abbrev pub Named' : List ℕ → Claim owns most NamedValue
    Named' name a t = Fits owns t a.value × (a.name ≡ name)

    pub attribute_holds : {first : State × H} {a : Eval H Value} (name : List ℕ) → Holds owns most V first a → Holds owns most (Named' name) first (forms.attribute o name a)
    unfolding forms.attribute
    attribute_holds name k = record { runs = λ c t g. runs_bind owns most (k.runs c t g) (λ v u f h. runs_pure owns most (record { name = name; value = v }) (λ w e. (fits_kept owns most e h, refl))) }

    abbrev pub NamedEach : State × H → List (List ℕ) → List (Eval H NamedValue) → Type 0
    NamedEach first [] [] = Unit {0}
    NamedEach first (n ∷ ns) (m ∷ ms) = Holds owns most (Named' n) first m × NamedEach first ns ms
    NamedEach first _ _ = ⊥

    named_later : (first t : State × H) → Grew owns first t → (ns : List (List ℕ)) (ms : List (Eval H NamedValue)) → NamedEach first ns ms → NamedEach t ns ms
    named_later first t g [] [] ks = tt
    named_later first t g (n ∷ ns) (m ∷ ms) ks = (holds_later owns most (Named' n) first t g m ks.0, named_later first t g ns ms ks.1)
    named_later first t g [] (m ∷ ms) ks = absurd ks
    named_later first t g (n ∷ ns) [] ks = absurd ks

    abbrev NamedAll : List (List ℕ) → Claim owns most (List NamedValue)
    NamedAll ns xs t = All (λ a. Fits owns t a.value) xs × (map (λ (a : NamedValue). a.name) xs ≡ ns)

    named_behind : (ns : List (List ℕ)) (ms : List (Eval H NamedValue)) (first : State × H) (c : ℕ) (before : List (List ℕ)) (done : List NamedValue) → NamedAll before done first → NamedEach first ns ms
        → Runs owns most first c c (all_behind done ms) (NamedAll (before ++ ns))
    named_behind [] [] first c before done h ks = runs_pure owns most done (λ t g. (All-weaker (λ (a : NamedValue). Fits owns first a.value) (λ a. Fits owns t a.value) (λ a k. fits_kept owns most g k) done h.0, h.1 ∙ sym (append-nil before)))
    named_behind (n ∷ ns) (m ∷ ms) first c before done h ks =
        runs_bind owns most (ks.0.runs c first (same owns most first)) (λ a t g k.
        runs_post owns most
        (named_behind ns ms t c (before ++ n ∷ []) (done ++ a ∷ []) (
          All-push (λ (a : NamedValue). Fits owns t a.value) done a (All-weaker (λ (a : NamedValue). Fits owns first a.value) (λ a. Fits owns t a.value) (λ a k. fits_kept owns most g k) done h.0) k.0,
          map-append (λ (a : NamedValue). a.name) done (a ∷ []) ∙ (λ i. h.1 i ++ k.1 i ∷ []),
        ) (named_later first t g ns ms ks.1))
        (λ xs u f q. (q.0, q.1 ∙ append_assoc before (n ∷ []) ns)))
    named_behind [] (m ∷ ms) first c before done h ks = absurd ks
    named_behind (n ∷ ns) [] first c before done h ks = absurd ks

    pub element_pays : {first : State × H} (tag : List ℕ) (names : List (List ℕ)) (attributes : List (Eval H NamedValue)) (children : List (Eval H Value)) → allowed tag names (length children) → NamedEach first names attributes → All (Holds owns most V first) children
        → E first (forms.element o tag attributes children)
    unfolding forms.element
    element_pays {first = first} tag names attributes children ok ks ls = record {
      runs = λ c t g.
          runs_bind owns most (named_behind names attributes t c [] [] (All-nil (λ (a : NamedValue). Fits owns t a.value), refl) (named_later first t g names attributes ks)) (λ named u f h.
          runs_bind owns most (runs_all_holding owns most V (stable_value owns most) children u c (All-weaker (Holds owns most V first) (Holds owns most V u) (holds_later owns most V first u (further owns most first t u g f)) children ls)) (λ values w e i.
          runs_bind owns most (runs_spend owns most (suc c) 0 (omega arith)) (λ _ x j _.
          still_runs owns most (suc c) (suc c) (omega arith)
          (keeps.element tag named values x (subst (λ ns. allowed tag ns (length values)) (sym h.1) (subst (λ n. allowed tag names n) (sym i.1) ok))
          (All-weaker (λ (a : NamedValue). Fits owns u a.value) (λ a. Fits owns x a.value) (λ a k. fits_kept owns most (further owns most u w x e j) k) named h.0) (all_kept owns most values w x j i.0)))));
    }

    -- ---- functions

    pub function_pays : {first : State × H} {capture : Eval H ℕ} → Holds owns most (λ at t. Names t.0.store Kind.function at) first capture → E first (forms.function capture)
    unfolding forms.function
    function_pays {first = first} k = record {
      runs = λ c t g.
          runs_bind owns most (runs_spend owns most (suc c) 0 (omega arith)) (λ _ u f _.
          runs_bind owns most (k.runs (suc c) u (further owns most first t u g f)) (λ at w e named.
          runs_pure owns most (value.Fun at) (λ x j. record { lawful = j.store.kinds Kind.function at named; own = tt })));
    }
