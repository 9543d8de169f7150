-- What the forms of statements do with the evaluations of their parts. Each statement takes one step before its parts.
use Rattle.std.specs.Prelude.{ℕ, zero, suc, nat_lt, if◌then◌else◌, List, [], ◌∷◌, Option, None, Some}
use Rattle.mt_eval_meaning.specs.Runs.{Ran, gives, leaves, and_then, ◌>>=◌, ◌>>◌, pure, leave, caught}
use Rattle.mt_eval_meaning.specs.State.{Eval}
use Rattle.mt_eval_meaning.specs.declared.completion.Completion.{Completion}
use Rattle.mt_eval_meaning.specs.declared.completion.Completion.TheVariants as completion
use Rattle.mt_eval_meaning.specs.declared.exit.Exit.TheVariants as exit
use Rattle.mt_eval_meaning.specs.declared.exit.Stop.TheVariants as stop
use Rattle.mt_ops.specs.Operators.{is_truthy}
use Rattle.mt_value.specs.declared.value.Value.{Value}
use Rattle.mt_value.specs.declared.value.Value.TheVariants as value

-- the value of a function whose body ends so
abbrev pub returned : Completion → Value
returned (completion.Return v) = v
returned _ = value.Undefined

module _ {K : Type 0} where
  unfoldable pub expression : Eval K Value → Eval K Completion
  expression e = do
    v ← e
    pure completion.Normal

  -- what says nothing ends normally
  unfoldable pub finished : Eval K (Unit {0}) → Eval K Completion
  finished p = do
    p
    pure completion.Normal

  unfoldable pub given_back : Eval K Value → Eval K Completion
  given_back e = do
    v ← e
    pure (completion.Return v)

  unfoldable pub thrown : Eval K Value → Eval K Completion
  thrown e = do
    v ← e
    leave (exit.Throw v)

  -- the next evaluation follows where a statement ends normally
  abbrev pub on_normal : Completion → Eval K Completion → Eval K Completion
  on_normal completion.Normal next = next
  on_normal completion.Break next = pure completion.Break
  on_normal completion.Continue next = pure completion.Continue
  on_normal (completion.Return v) next = pure (completion.Return v)

  abbrev pub sequence : List (Eval K Completion) → Eval K Completion
  sequence [] = pure completion.Normal
  sequence (t ∷ ts) = t >>= (λ c. on_normal c (sequence ts))

  unfoldable pub choice : Eval K Value → Eval K Completion → Eval K Completion → Eval K Completion
  choice test a b = do
    v ← test
    if is_truthy v then a else b

  -- ---- loops: a test, a body, and what is done between the turns

  -- nothing where another turn follows
  abbrev pub after_body : Eval K (Unit {0}) → Completion → Eval K (Option Completion)
  after_body step completion.Normal = step >> pure None
  after_body step completion.Continue = step >> pure None
  after_body step completion.Break = pure (Some completion.Normal)
  after_body step (completion.Return v) = pure (Some (completion.Return v))

  unfoldable pub turn_body : Eval K Completion → Eval K (Unit {0}) → Eval K (Option Completion)
  turn_body body step = do
    c ← body
    after_body step c

  unfoldable pub turn : Eval K Value → Eval K Completion → Eval K (Unit {0}) → Eval K (Option Completion)
  turn test body step = do
    v ← test
    if is_truthy v then turn_body body step else pure (Some completion.Normal)

  -- Another turn begins with less budget than the one before had. So it always is, since each turn takes a step.
  abbrev pub followed : ℕ → Option Completion → Eval K Completion → Eval K Completion
  followed before None next = λ s. if nat_lt s.0.budget before then next s else leaves (exit.Stop stop.Budget) s
  followed before (Some c) next = pure c

  -- at most that many turns
  abbrev pub turns : ℕ → Eval K (Option Completion) → Eval K Completion
  turns zero one = leave (exit.Stop stop.Budget)
  turns (suc n) one = λ s. and_then (one s) (λ c. followed s.0.budget c (turns n one))

  -- no loop has more turns than its budget has steps
  unfoldable pub turning : Eval K (Option Completion) → Eval K Completion
  turning one = λ s. turns (suc s.0.budget) one s

  abbrev pub loop : Eval K Value → Eval K Completion → Eval K (Unit {0}) → Eval K Completion
  loop test body step = turning (turn test body step)

  unfoldable pub starting : Eval K (Unit {0}) → Eval K Completion → Eval K Completion
  starting start rest = do
    start
    rest

  -- ---- throws

  unfoldable pub attempt : Eval K Completion → (Value → Eval K Completion) → Eval K Completion
  attempt body handler = λ s. caught (body s) handler
