-- The forms of expressions.
use Rattle.std.proofs.Common.{◌≡◌, ℕ, suc, ◌+◌, ◌≤◌, ◌<◌, ◌^◌, List, [], ◌∷◌, ◌++◌, length, Some, Bool, true, false, Result, Ok, Err, refl, ap, subst, arith}
use Rattle.std.specs.Prelude.{All, IsTrue, slice_get, slice_set, if◌then◌else◌}
use Rattle.std.proofs.lemmas.List.Elements.{All-nil, All-head, All-tail, All-weaker}
use Rattle.mt_eval_keeps.specs.Growth.{Owning, OwnValue, FitsCell, Fits, Good, Grew}
use Rattle.mt_eval_keeps.proofs.Changes.{Grown, object_grown}
use Rattle.mt_eval_keeps.proofs.Operations.{all_at, own_binary, own_unary}
use Rattle.mt_eval_keeps.proofs.Runs.{further, fits_kept, Claim, Runs, Still, still_runs, runs_bind, runs_pure, runs_less, Value'}
use Rattle.mt_eval_keeps.proofs.Steps.{Stable, Pays, pays_later, runs_spend, runs_add, runs_all, runs_or_throw, still_settled, added_grew}
use Rattle.mt_eval_meaning.specs.Expressions as forms
use Rattle.mt_eval_meaning.specs.Runs.{gives, and_then}
use Rattle.mt_eval_meaning.specs.State.{Eval, spend, operate, on_state}
use Rattle.mt_eval_meaning.specs.declared.state.State.{State}
use Rattle.mt_ops.proofs.Lawfulness.{binary_lawful, unary_lawful}
use Rattle.mt_ops.specs.Errors.{settled}
use Rattle.mt_ops.specs.Operators.{binary_of, unary_of, is_truthy}
use Rattle.mt_ops.specs.declared.error.ErrorKind.{ErrorKind}
use Rattle.mt_ops_properties.proofs.Lawfulness.{changed_lawful}
use Rattle.mt_ops_properties.specs.Objects.{object_written}
use Rattle.mt_ops_properties.specs.Properties.{object_cell}
use Rattle.mt_ops_properties.specs.Costs.{steps, binary_units, unary_units}
use Rattle.mt_tree.specs.declared.operators.Binary.{Binary}
use Rattle.mt_tree.specs.declared.operators.Unary.{Unary}
use Rattle.mt_value.proofs.Laws.{lawful_added, value_kept, values_kept}
use Rattle.mt_value.specs.Lawful.{Kind, LawfulValue, LawfulCell, Lawful}
use Rattle.mt_value.specs.Limits.{text_fits}
use Rattle.mt_value.specs.declared.cell.Cell.{Cell}
use Rattle.mt_value.specs.declared.cell.Cell.TheVariants as cell
use Rattle.mt_value.specs.declared.cell.Property.{Property}
use Rattle.mt_value.specs.declared.value.Value.{Value}
use Rattle.mt_value.specs.declared.value.Value.TheVariants as value

module _ {H : Type 0} (owns : Owning H) (most : ℕ) where
  abbrev V : Claim owns most Value
  V = Value' owns most

  abbrev E : State × H → Eval H Value → Type 0
  E = Pays owns most V

  pub stable_value : Stable owns most V
  stable_value v s t g h = fits_kept owns most g h

  pub all_kept : (xs : List Value) (s t : State × H) → Grew owns s t → All (Fits owns s) xs → All (Fits owns t) xs
  all_kept xs s t g h = All-weaker (Fits owns s) (Fits owns t) (λ v k. fits_kept owns most g k) xs h

  pub still_binary : {first : State × H} (op : Binary) (v w : Value) → Still owns most first (on_state (operate (λ store. settled (binary_of op v w) store))) V
  still_binary op v w = still_settled owns most (λ store. binary_of op v w) (λ n s g good. (binary_lawful s.0.store op v w, own_binary owns most s.1 op v w))

  -- ---- literals

  pub constant_pays : {first : State × H} (v : Value) → ((t : State × H) → Fits owns t v) → E first (forms.constant v)
  unfolding forms.constant
  constant_pays v k = record { runs = λ c t g. runs_bind owns most (runs_spend owns most (suc c) 0 (omega arith)) (λ _ u f h. runs_pure owns most v (λ w e. k w)) }

  array_fits : (values : List Value) (n d : ℕ) (s : State × H) → Good owns most n s → length values + d ≤ most → most < 2 ^ 53 → All (Fits owns s) values
      → LawfulCell (s.0.store ++ cell.Arr values ∷ []) (cell.Arr values) × FitsCell owns most s.1 d (cell.Arr values)
  array_fits values n d s good room small fits =
      let new = s.0.store ++ cell.Arr values ∷ [] in
      let g = added_grew s.0.store (cell.Arr values ∷ []) in (
        record {
          values = values_kept s.0.store new g.kinds values (All-weaker (Fits owns s) (LawfulValue s.0.store) (λ v f. f.lawful) values fits);
          count = omega (arith, room, small);
        },
        record { own = All-weaker (Fits owns s) (OwnValue owns s.1) (λ v f. f.own) values fits; room = room },
      )

  pub array_pays : {first : State × H} (items : List (Eval H Value)) → most < 2 ^ 53 → All (E first) items → E first (forms.array items)
  unfolding forms.array
  array_pays {first = first} items small ks = record {
    runs = λ c t g.
        runs_bind owns most (runs_all owns most V stable_value items t c (All-weaker (E first) (E t) (pays_later owns most V first t g) items ks)) (λ values u f h.
        runs_bind owns most (runs_spend owns most (suc (length items + c)) 0 (omega arith)) (λ _ w e _.
        runs_bind owns most (runs_add owns most {d = suc c} (cell.Arr values) (omega arith) (λ x s i good. array_fits values (s.0.budget + (suc (length items + c) + x)) (s.0.budget + (suc c + x)) s good (omega (arith, good.room, h.1)) small (all_kept values u s (further owns most u w s e i) h.0))) (λ at x i named.
        runs_pure owns most (value.Arr at) (λ y j. record { lawful = j.store.kinds Kind.array at named; own = tt }))));
  }

  -- ---- objects

  abbrev pub Property' : Claim owns most Property
  Property' p t = Fits owns t p.value × IsTrue (text_fits p.name)

  pub stable_property : Stable owns most Property'
  stable_property p s t g h = (fits_kept owns most g h.0, h.1)

  pub entry_pays : {first : State × H} {a : Eval H Value} (name : List ℕ) → IsTrue (text_fits name) → E first a → Pays owns most Property' first (forms.entry name a)
  unfolding forms.entry
  entry_pays name fits k = record { runs = λ c t g. runs_bind owns most (k.runs c t g) (λ v u f h. runs_pure owns most (record { name = name; value = v }) (λ w e. (fits_kept owns most e h, fits))) }

  put_last : (store : List Cell) (old new : Cell) → slice_set (store ++ old ∷ []) (length store) new ≡ store ++ new ∷ []
  put_last [] old new = refl
  put_last (c ∷ store) old new = ap (λ (cs : List Cell). c ∷ cs) (put_last store old new)

  get_last : (store : List Cell) (c : Cell) → slice_get (store ++ c ∷ []) (length store) ≡ Some c
  get_last [] c = refl
  get_last (d ∷ store) c = get_last store c

  module _ (small : most < 2 ^ 53) (s : State × H) where
    -- a store with the object lasts
    abbrev Made : ℕ → Result (List Property) ErrorKind → Type 0
    Made n (Ok ps) = Lawful (s.0.store ++ cell.Obj ps ∷ []) × All (λ p. OwnValue owns s.1 p.value) ps × (length ps ≤ n)
    Made n (Err e) = Unit {0}

    made_more : (m n : ℕ) → m ≤ n → (r : Result (List Property) ErrorKind) → Made m r → Made n r
    made_more m n le (Ok ps) h = (h.0, h.1, omega (arith, le, h.2))
    made_more m n le (Err e) h = tt

    written_made : (done : List Property) (p : Property) → length done < most → Made (length done) (Ok done) → Property' p s → Made (suc (length done)) (object_written done (value.Text p.name) p.value)
    written_made done p few h k = by (object_written done (value.Text p.name) p.value) refl (object_grown owns most s.1 small 0 done (value.Text p.name) p.value h.1 k.0.own)
      where
        old : List Cell
        old = s.0.store ++ cell.Obj done ∷ []

        by : (r : Result (List Property) ErrorKind) → object_written done (value.Text p.name) p.value ≡ r → Grown owns most s.1 small 0 (λ q. OwnValue owns s.1 q.value) (length done) r → Made (suc (length done)) r
        by (Ok new) made g =
            let l = changed_lawful old (length s.0.store) (cell.Obj done) (cell.Obj new) (value.Text p.name) p.value (Ok tt) (get_last s.0.store (cell.Obj done)) (ap object_cell made) (λ _. omega (arith, g.1, few, small)) h.0 k.1 (value_kept s.0.store old (added_grew s.0.store (cell.Obj done ∷ [])).kinds p.value k.0.lawful) in
            (subst Lawful (put_last s.0.store (cell.Obj done) (cell.Obj new)) l.0, g.0, g.1)
        by (Err e) made g = tt

    behind_made : (ps done : List Property) → length done + length ps ≤ most → Made (length done) (Ok done) → All (λ p. Property' p s) ps → Made (length done + length ps) (forms.literal_behind (Ok done) ps)
    behind_made [] done few h ks = made_more (length done) (length done + 0) (omega arith) (Ok done) h
    behind_made (p ∷ ps) done few h ks = by (object_written done (value.Text p.name) p.value) (written_made done p (omega (arith, few)) h (All-head (λ p. Property' p s) p ps ks))
        (λ new le m. made_more (length new + length ps) (length done + length (p ∷ ps)) (omega (arith, le)) (forms.literal_behind (Ok new) ps) (behind_made ps new (omega (arith, le, few)) m (All-tail (λ p. Property' p s) p ps ks)))
      where
        by : (r : Result (List Property) ErrorKind) → Made (suc (length done)) r → ((new : List Property) → length new ≤ suc (length done) → Made (length new) (Ok new) → Made (length done + length (p ∷ ps)) (forms.literal_behind (Ok new) ps)) → Made (length done + length (p ∷ ps)) (forms.literal_behind r ps)
        by (Ok new) m rest = rest new m.2 (m.0, m.1, omega arith)
        by (Err e) m rest = tt

    pub literal_made : (ps : List Property) → length ps ≤ most → Lawful s.0.store → All (λ p. Property' p s) ps → Made (length ps) (forms.literal ps)
    literal_made ps few lawful ks =
        let none : LawfulCell (s.0.store ++ cell.Obj [] ∷ []) (cell.Obj []) = record { values = All-nil (λ p. LawfulValue (s.0.store ++ cell.Obj [] ∷ []) p.value); texts = All-nil (λ p. IsTrue (text_fits p.name)); names = refl; count = omega arith } in
        made_more (0 + length ps) (length ps) (omega arith) (forms.literal ps) (behind_made ps [] (omega (arith, few)) (lawful_added s.0.store (cell.Obj []) lawful none, All-nil (λ p. OwnValue owns s.1 p.value), omega arith) ks)

    pub object_fits : (ps made : List Property) (d : ℕ) → forms.literal ps ≡ Ok made → length ps + d ≤ most → Lawful s.0.store → All (λ p. Property' p s) ps → LawfulCell (s.0.store ++ cell.Obj made ∷ []) (cell.Obj made) × FitsCell owns most s.1 d (cell.Obj made)
    object_fits ps made d is room lawful ks =
        let new = s.0.store ++ cell.Obj made ∷ [] in
        let m : Made (length ps) (Ok made) = subst (Made (length ps)) is (literal_made ps (omega (arith, room)) lawful ks) in
        (all_at (LawfulCell new) new (length s.0.store) (cell.Obj made) m.0.cells (get_last s.0.store (cell.Obj made)), record { own = m.1; room = omega (arith, m.2, room) })

  pub object_pays : {first : State × H} (entries : List (Eval H Property)) → most < 2 ^ 53 → All (Pays owns most Property' first) entries → E first (forms.object entries)
  unfolding forms.object
  object_pays {first = first} entries small ks = record {
    runs = λ c t g.
        runs_bind owns most (runs_all owns most Property' stable_property entries t c (All-weaker (Pays owns most Property' first) (Pays owns most Property' t) (pays_later owns most Property' first t g) entries ks)) (λ ps u f h.
        runs_bind owns most (runs_spend owns most (suc (length entries + c)) 0 (omega arith)) (λ _ w e _.
        runs_bind owns most (runs_or_throw owns most (suc (length entries + c)) (forms.literal ps)) (λ made z j is.
        runs_bind owns most (runs_add owns most {d = suc c} (cell.Obj made) (omega arith) (λ x s i good. object_fits small s ps made (s.0.budget + (suc c + x)) is (omega (arith, good.room, h.1)) good.store (All-weaker (λ p. Property' p u) (λ p. Property' p s) (λ p q. stable_property p u s (further owns most u z s (further owns most u w z e j) i) q) ps h.0))) (λ at y i named.
        runs_pure owns most (value.Obj at) (λ y' j'. record { lawful = j'.store.kinds Kind.object at named; own = tt })))));
  }

  -- ---- operators

  pub unary_pays : {first : State × H} {a : Eval H Value} (op : Unary) → E first a → E first (forms.unary op a)
  unfolding forms.unary
  unary_pays op k = record {
    runs = λ c t g.
        runs_bind owns most (k.runs c t g) (λ v u f h.
        runs_bind owns most (runs_spend owns most (suc c) (steps (unary_units op v)) (omega arith)) (λ _ w e _.
        still_runs owns most (suc c) (suc c) (omega arith) (still_settled owns most (λ store. unary_of op v) (λ n s i good. (unary_lawful s.0.store op v (fits_kept owns most (further owns most u w s e i) h).lawful, own_unary owns most s.1 op v)))));
  }

  pub operation_pays : {first : State × H} {a b : Eval H Value} (op : Binary) → E first a → E first b → E first (forms.operation op a b)
  unfolding forms.operation
  operation_pays {first = first} op k l = record {
    runs = λ c t g.
        runs_bind owns most (k.runs c t g) (λ v u f h.
        runs_bind owns most (l.runs (suc c) u (further owns most first t u g f)) (λ w x e i.
        runs_bind owns most (runs_spend owns most (suc c) (steps (binary_units op v w)) (omega arith)) (λ _ y j _.
        still_runs owns most (suc c) (suc c) (omega arith) (still_binary op v w))));
  }

  -- one of two, without a step of its own
  chosen : {first : State × H} {a b : Eval H Value} (test : Bool) (c : ℕ) → Runs owns most first (suc c) (suc c) a V → Runs owns most first (suc c) (suc c) b V → Runs owns most first (suc c) (suc c) (if test then a else b) V
  chosen true c k l = k
  chosen false c k l = l

  ended : {first : State × H} (c : ℕ) (w : Value) → Fits owns first w → Runs owns most first (suc c) (suc c) (λ s. and_then (on_state (spend 0) s) (λ _ s. gives w s)) V
  ended c w h = runs_bind owns most (runs_spend owns most (suc c) 0 (omega arith)) (λ _ u f _. runs_pure owns most w (λ x e. fits_kept owns most (further owns most _ u x f e) h))

  pub conjunction_pays : {first : State × H} {a b : Eval H Value} → E first a → E first b → E first (forms.conjunction a b)
  unfolding forms.conjunction
  conjunction_pays {first = first} k l = record {
    runs = λ c t g.
        runs_bind owns most (k.runs c t g) (λ v u f h.
        runs_bind owns most (chosen (is_truthy v) c (runs_less owns most (suc c) (omega arith) (l.runs (suc c) u (further owns most first t u g f))) (runs_pure owns most v (λ w e. fits_kept owns most e h))) (λ w x e i. ended c w i));
  }

  pub disjunction_pays : {first : State × H} {a b : Eval H Value} → E first a → E first b → E first (forms.disjunction a b)
  unfolding forms.disjunction
  disjunction_pays {first = first} k l = record {
    runs = λ c t g.
        runs_bind owns most (k.runs c t g) (λ v u f h.
        runs_bind owns most (chosen (is_truthy v) c (runs_pure owns most v (λ w e. fits_kept owns most e h)) (runs_less owns most (suc c) (omega arith) (l.runs (suc c) u (further owns most first t u g f)))) (λ w x e i. ended c w i));
  }

  pub conditional_pays : {first : State × H} {test a b : Eval H Value} → E first test → E first a → E first b → E first (forms.conditional test a b)
  unfolding forms.conditional
  conditional_pays {first = first} k l m = record {
    runs = λ c t g.
        runs_bind owns most (k.runs c t g) (λ v u f h.
        runs_bind owns most (chosen (is_truthy v) c (runs_less owns most (suc c) (omega arith) (l.runs (suc c) u (further owns most first t u g f))) (runs_less owns most (suc c) (omega arith) (m.runs (suc c) u (further owns most first t u g f)))) (λ w x e i. ended c w i));
  }
