-- What functions keep of the environments in which they are made, and what the numbers of functions stand for.
use Rattle.std.specs.Prelude.{ℕ, List, map, Option}
use Rattle.mt_eval_meaning.specs.Free.{cut, free_of}
use Rattle.mt_eval_meaning.specs.Entering.{Closure, Named}
use Rattle.mt_eval_meaning.specs.Hoisting.{Lexical}
use Rattle.mt_eval_meaning.specs.Names.{Environment, Surroundings, whole}
use Rattle.mt_eval_meaning.specs.Runs.{Ran, gives, leaves}
use Rattle.mt_eval_meaning.specs.declared.state.State.{State}
use Rattle.mt_syntax.specs.declared.program.Tilde.{Tilde}
use Rattle.mt_syntax.specs.declared.tree.Function.{Function}

-- what the number of a function stands for: its syntax, the name that it has inside, and the names whose variables it captures, newest
-- first
pub record Numbered : Type 0 where
  pub own : Option (List ℕ)
  pub function : Function
  pub names : List Lexical

-- ---- functions that keep their whole environments, and those that keep what is free in them

abbrev pub kept_free : List Tilde → Option (List ℕ) → Function → Environment → Environment
kept_free tildes own f environment = cut (λ b. b.name) (free_of tildes own f) environment

abbrev pub keeping_free : Surroundings → Surroundings
keeping_free around = record around { kept = kept_free around.tildes }

abbrev pub keeping_whole : Surroundings → Surroundings
keeping_whole around = record around { kept = whole }

abbrev pub trim_closure : List Tilde → Closure → Closure
trim_closure tildes c = record c { environment = kept_free tildes c.own c.function c.environment }

-- a state by names whose functions keep their whole environments, cut to what is free in them
abbrev pub trim : {H : Type 0} → List Tilde → State × Named H → State × Named H
trim tildes s = (s.0, record s.1 { closures = map (λ c. (c.0, trim_closure tildes c.1)) s.1.closures })

abbrev pub trimmed : {H A : Type 0} → List Tilde → Ran (State × Named H) A → Ran (State × Named H) A
trimmed tildes (gives a s) = gives a (trim tildes s)
trimmed tildes (leaves e s) = leaves e (trim tildes s)
