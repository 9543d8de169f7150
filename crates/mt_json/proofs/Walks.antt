-- A list of JSON values, one after another.
use Rattle.std.proofs.Common.{◌≡◌, ℕ, zero, suc, ◌+◌, ◌<◌, ◌≤◌, List, [], ◌∷◌, ◌++◌, length, get_or, take, Option, Some, None, refl, sym, ap, ap₂, ◌∙◌, arith}
use Rattle.std.proofs.lemmas.List.{take_more}
use Rattle.mt_tree.specs.declared.data.Data.{Data}
use Rattle.mt_tree.specs.declared.data.Entry.{Entry}
use Rattle.serde_json.specs.View.{view, items_view}
use Rattle.serde_json.specs.declared.value.Value.{Value}
use Rattle.mt_json.specs.declared.refusal.DataRefusal.{DataRefusal}
use Rattle.mt_json.specs.declared.refusal.DataRefusal.TheVariants.{NotData, NoMemory}
use Rattle.mt_json.specs.Outcome.{Refuses}
use Rattle.mt_json.specs.Reading.{◌>>=◌}
use Rattle.mt_json.specs.Tagged.{for_each, datum_of, data_of, entries_of, entry_of, pair_of, text_of}

module _ {A B : Type 0} (f : A → Option B) where
  with_last : Option (List B) → Option B → Option (List B)
  with_last r o = r >>= λ bs. o >>= λ b. Some (bs ++ b ∷ [])

  in_front : Option B → Option (List B) → Option (List B)
  in_front o r = o >>= λ c. r >>= λ cs. Some (c ∷ cs)

  regroup : (p : Option B) (q : Option (List B)) (r : Option B) → in_front p (with_last q r) ≡ with_last (in_front p q) r
  unfolding with_last in_front
  regroup None q r = refl
  regroup (Some c) None r = refl
  regroup (Some c) (Some cs) None = refl
  regroup (Some c) (Some cs) (Some b) = refl

  pushed : (xs : List A) (x : A) → for_each f (xs ++ x ∷ []) ≡ with_last (for_each f xs) (f x)
  unfolding with_last in_front
  pushed [] x = refl
  pushed (y ∷ xs) x = ap (in_front (f y)) (pushed xs x) ∙ regroup (f y) (for_each f xs) (f x)

  next : (xs : List A) (i : ℕ) (x : A) (bs : List B) (b : B) → x ≡ get_or xs i x → i < length xs → for_each f (take i xs) ≡ Some bs → f x ≡ Some b → for_each f (take (i + 1) xs) ≡ Some (bs ++ b ∷ [])
  unfolding with_last
  next xs i x bs b is lt so_far one =
      ap (for_each f) (take_more xs i x lt) ∙ pushed (take i xs) (get_or xs i x) ∙ ap₂ with_last so_far (ap f (sym is) ∙ one)

  none_behind : (p : Option B) → in_front p None ≡ None
  unfolding in_front
  none_behind None = refl
  none_behind (Some c) = refl

  nothing : (xs : List A) (i : ℕ) (x : A) → i < length xs → f (get_or xs i x) ≡ None → for_each f xs ≡ None
  unfolding in_front
  nothing [] i x lt none = absurd (omega arith)
  nothing (y ∷ xs) zero x lt none = rw none refl
  nothing (y ∷ xs) (suc i) x lt none = ap (in_front (f y)) (nothing xs i x (omega arith) none) ∙ none_behind (f y)

data_by_each : (vs : List Value) → data_of (items_view vs) ≡ for_each (λ v. datum_of (view v)) vs
data_by_each [] = refl
data_by_each (v ∷ vs) = ap (λ r. datum_of (view v) >>= λ x. r >>= λ xs. Some (x ∷ xs)) (data_by_each vs)

entries_by_each : (vs : List Value) → entries_of (items_view vs) ≡ for_each (λ v. entry_of (view v)) vs
entries_by_each [] = refl
entries_by_each (v ∷ vs) = ap (λ r. entry_of (view v) >>= λ x. r >>= λ xs. Some (x ∷ xs)) (entries_by_each vs)

pub data_next : (vs : List Value) (i : ℕ) (v : Value) (ds : List Data) (d : Data) → v ≡ get_or vs i v → i < length vs → data_of (items_view (take i vs)) ≡ Some ds → datum_of (view v) ≡ Some d
    → data_of (items_view (take (i + 1) vs)) ≡ Some (ds ++ d ∷ [])
data_next vs i v ds d is lt so_far one =
    data_by_each (take (i + 1) vs) ∙ next (λ v. datum_of (view v)) vs i v ds d is lt (sym (data_by_each (take i vs)) ∙ so_far) one

pub entries_next : (vs : List Value) (i : ℕ) (v : Value) (es : List Entry) (e : Entry) → v ≡ get_or vs i v → i < length vs → entries_of (items_view (take i vs)) ≡ Some es → entry_of (view v) ≡ Some e
    → entries_of (items_view (take (i + 1) vs)) ≡ Some (es ++ e ∷ [])
entries_next vs i v es e is lt so_far one =
    entries_by_each (take (i + 1) vs) ∙ next (λ v. entry_of (view v)) vs i v es e is lt (sym (entries_by_each (take i vs)) ∙ so_far) one

pub data_refused : (r : DataRefusal) (vs : List Value) (i : ℕ) (v : Value) → v ≡ get_or vs i v → i < length vs → Refuses r (datum_of (view v)) → Refuses r (data_of (items_view vs))
data_refused NoMemory vs i v is lt one = tt
data_refused NotData vs i v is lt one = data_by_each vs ∙ nothing (λ v. datum_of (view v)) vs i v lt (ap (λ w. datum_of (view w)) (sym is) ∙ one)

pub entries_refused : (r : DataRefusal) (vs : List Value) (i : ℕ) (v : Value) → v ≡ get_or vs i v → i < length vs → Refuses r (entry_of (view v)) → Refuses r (entries_of (items_view vs))
entries_refused NoMemory vs i v is lt one = tt
entries_refused NotData vs i v is lt one = entries_by_each vs ∙ nothing (λ v. entry_of (view v)) vs i v lt (ap (λ w. entry_of (view w)) (sym is) ∙ one)

-- ---- a name and a value

pub too_short : (vs : List Value) → length vs < 2 → pair_of (items_view vs) ≡ None
too_short [] lt = refl
too_short (a ∷ []) lt = refl
too_short (a ∷ b ∷ vs) lt = absurd (omega arith)

pub too_long : (vs : List Value) → 3 ≤ length vs → pair_of (items_view vs) ≡ None
too_long [] lt = absurd (omega arith)
too_long (a ∷ []) lt = absurd (omega arith)
too_long (a ∷ b ∷ []) lt = absurd (omega arith)
too_long (a ∷ b ∷ c ∷ vs) lt = refl

pub pair : (vs : List Value) (a b : Value) → length vs ≡ 2 → a ≡ get_or vs 0 a → b ≡ get_or vs 1 b
    → pair_of (items_view vs) ≡ (text_of (view a) >>= λ k. datum_of (view b) >>= λ v. Some (record { name = k; value = v }))
pair [] a b two first second = absurd (omega arith)
pair (x ∷ []) a b two first second = absurd (omega arith)
pair (x ∷ y ∷ []) a b two first second = rw (first, second) refl
pair (x ∷ y ∷ z ∷ vs) a b two first second = absurd (omega arith)

pub pair_refused : (r : DataRefusal) (o : Option Data) (k : List ℕ) → Refuses r o → Refuses {X = Entry} r (o >>= λ v. Some (record { name = k; value = v }))
pair_refused NoMemory o k one = tt
pair_refused NotData o k one = rw one refl
