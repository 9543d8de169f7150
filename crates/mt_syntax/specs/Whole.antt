-- Results on a whole program, whose tildes and dollars stand apart: the result on a tilde's body takes the place of the tilde,
-- and the result on a dollar's expression the place of the dollar.
use Rattle.std.specs.Prelude.{ℕ, zero, suc, List, map, length, Option, None, Some, slice_get}
use Rattle.mt_syntax.specs.Fold.{Every, Steps, on_expr, on_stmt}
use Rattle.mt_syntax.specs.declared.tree.Expr.{Expr}
use Rattle.mt_syntax.specs.declared.tree.Stmt.{Stmt}
use Rattle.mt_syntax.specs.declared.program.Program.{Program}
use Rattle.mt_syntax.specs.declared.program.Tilde.{Tilde}

-- The steps are given the results by the numbers of tildes and of dollars. A number that names none has the result `absent`, a
-- list of statements the result `joined` of their results, and a tilde what `numbered` makes of its number and the result on it.
module _ {X : Type 0} (steps : (ℕ → X) → (ℕ → X) → Steps (Every X)) (absent : X) (joined : List X → X) (numbered : ℕ → X → X) where
  abbrev pub on_body : (ℕ → X) → (ℕ → X) → List Stmt → X
  on_body tilde dollar body = joined (map (on_stmt (steps tilde dollar)) body)

  -- a dollar's expression is server code, and has no dollars of its own
  abbrev pub on_dollar : (ℕ → X) → Option Expr → X
  on_dollar tilde None = absent
  on_dollar tilde (Some e) = on_expr (steps tilde (λ at. absent)) e

  abbrev pub on_tilde : (ℕ → X) → Option Tilde → X
  on_tilde tilde None = absent
  on_tilde tilde (Some t) = on_body tilde (λ at. on_dollar tilde (slice_get t.dollars at)) t.body

  -- tildes that nest in one another at most so deep
  abbrev pub on_tilde_number : List Tilde → ℕ → ℕ → X
  on_tilde_number tildes zero id = absent
  on_tilde_number tildes (suc n) id = numbered id (on_tilde (on_tilde_number tildes n) (slice_get tildes id))

  -- there is no deeper nest than of all tildes, and of a number that names none
  abbrev pub on_program : Program → X
  on_program p = on_body (on_tilde_number p.tildes (suc (length p.tildes))) (λ at. absent) p.items
