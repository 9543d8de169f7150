-- Evaluations: steps on a state, each of which gives a result or leaves by a throw or a stop.
use Rattle.std.specs.Prelude.{◌≡◌, ◌≢◌, List, [], ◌∷◌, ◌++◌, Result, Ok, Err}
use Rattle.mt_eval_meaning.specs.declared.exit.Exit.{Exit}
use Rattle.mt_eval_meaning.specs.declared.exit.Exit.TheVariants as exit
use Rattle.mt_value.specs.declared.value.Value.{Value}

-- how an evaluation ends, with the state that it leaves; no definition leaves for want of memory
pub data Ran (S A : Type 0) : Type 0 where
  gives : A → S → Ran S A
  leaves : Exit → S → Ran S A

abbrev pub Run : Type 0 → Type 0 → Type 0
Run S A = S → Ran S A

abbrev pub and_then : {S A B : Type 0} → Ran S A → (A → Run S B) → Ran S B
and_then (gives a s) f = f a s
and_then (leaves e s) f = leaves e s

infixl 10 ◌>>=◌
abbrev pub ◌>>=◌ : {S A B : Type 0} → Run S A → (A → Run S B) → Run S B
p >>= f = λ s. and_then (p s) f

infixl 10 ◌>>◌
abbrev pub ◌>>◌ : {S A B : Type 0} → Run S A → Run S B → Run S B
p >> q = p >>= (λ _. q)

abbrev pub pure : {S A : Type 0} → A → Run S A
pure a = λ s. gives a s

abbrev pub leave : {S A : Type 0} → Exit → Run S A
leave e = λ s. leaves e s

-- the results of evaluations one after another, behind those that are there
abbrev pub all_behind : {S A : Type 0} → List A → List (Run S A) → Run S (List A)
all_behind done [] = pure done
all_behind done (p ∷ ps) = p >>= (λ a. all_behind (done ++ a ∷ []) ps)

abbrev pub all : {S A : Type 0} → List (Run S A) → Run S (List A)
all ps = all_behind [] ps

-- evaluations one after another, whose results say nothing
abbrev pub each : {S : Type 0} → List (Run S (Unit {0})) → Run S (Unit {0})
each [] = pure tt
each (p ∷ ps) = p >> each ps

-- what was thrown is handled; a stop can't be caught
abbrev pub caught : {S A : Type 0} → Ran S A → (Value → Run S A) → Ran S A
caught (gives a s) handle = gives a s
caught (leaves exit.NoMemory s) handle = leaves exit.NoMemory s
caught (leaves (exit.Throw v) s) handle = handle v s
caught (leaves (exit.Stop w) s) handle = leaves (exit.Stop w) s

-- the code did what is meant, or had no memory
abbrev pub Evals : {S A : Type 0} → Ran S A → Result A Exit → S → Type 0
Evals ran (Ok a) new = ran ≡ gives a new
Evals ran (Err e) new = e ≢ exit.NoMemory → ran ≡ leaves e new
