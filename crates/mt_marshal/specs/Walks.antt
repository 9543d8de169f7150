-- Walks: steps that count nodes and bytes, each of which gives something or is refused.
use Rattle.std.specs.Prelude.{◌≡◌, ◌≢◌, List, [], ◌∷◌, ◌++◌, Result, Ok, Err}
use Rattle.mt_marshal.specs.declared.counts.Counts.{Counts}
use Rattle.mt_marshal.specs.declared.refusal.Refused.{Refused}
use Rattle.mt_marshal.specs.declared.refusal.Refused.TheVariants as refused

-- from what was counted before; no walk is refused for want of memory
abbrev pub Walk : Type 0 → Type 0
Walk A = Counts → Result (A × Counts) Refused

abbrev pub and_then : {A B : Type 0} → Result (A × Counts) Refused → (A → Walk B) → Result (B × Counts) Refused
and_then (Ok r) f = f r.0 r.1
and_then (Err e) f = Err e

infixl 10 ◌>>=◌
abbrev pub ◌>>=◌ : {A B : Type 0} → Walk A → (A → Walk B) → Walk B
p >>= f = λ c. and_then (p c) f

abbrev pub pure : {A : Type 0} → A → Walk A
pure a = λ c. Ok (a, c)

-- walks one after another
abbrev pub all_behind : {A : Type 0} → List A → List (Walk A) → Walk (List A)
all_behind done [] = pure done
all_behind done (p ∷ ps) = p >>= (λ a. all_behind (done ++ a ∷ []) ps)

abbrev pub all : {A : Type 0} → List (Walk A) → Walk (List A)
all ps = all_behind [] ps

-- the code did what the walk does, or had no memory
abbrev pub Does : {A : Type 0} → Result (A × Counts) Refused → Result A Refused → Counts → Type 0
Does walked (Ok a) new = walked ≡ Ok (a, new)
Does walked (Err e) new = e ≢ refused.NoMemory → walked ≡ Err e
