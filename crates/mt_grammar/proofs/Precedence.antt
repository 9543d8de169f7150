-- The precedences at which tokens go on with an expression.
use Rattle.std.proofs.Common.{◌&&◌, nat_le, ◌≡◌, ℕ, ◌≤◌, ◌<◌, Bool, true, false, [], ◌∷◌, refl, arith}
use Rattle.std.proofs.lemmas.Bool.{lt-leb}
use Rattle.mt_tree.specs.declared.operators.Binary.TheVariants as binary_op
use Rattle.mt_grammar.specs.declared.terminal.Infix.{Infix}
use Rattle.mt_grammar.specs.declared.terminal.Infix.TheVariants as infix_op
use Rattle.mt_grammar.specs.declared.terminal.Terminal.{Terminal}
use Rattle.mt_grammar.specs.declared.terminal.Terminal.TheVariants as k
use Rattle.mt_grammar.specs.Token.{Tokens, terminal}
use Rattle.mt_grammar.specs.Stack.{Level, Focus}
use Rattle.mt_grammar.specs.Stack as f
use Rattle.mt_grammar.specs.Grammar.{precedence_of}
use Rattle.mt_grammar.specs.Machine.{awaits_at, binding, made_at, reduces}

-- the token after doesn't go on with an expression of this precedence
abbrev pub Stops : ℕ → Tokens → Type 0
Stops l [] = Unit {0}
Stops l (t ∷ ts) = binding (terminal t) ≤ l

-- ---- precedences

pub precedence_between : (o : Infix) → (2 ≤ precedence_of o) × (precedence_of o ≤ 7)
precedence_between infix_op.Or = (omega arith, omega arith)
precedence_between infix_op.And = (omega arith, omega arith)
precedence_between (infix_op.Binary binary_op.Same) = (omega arith, omega arith)
precedence_between (infix_op.Binary binary_op.Different) = (omega arith, omega arith)
precedence_between (infix_op.Binary binary_op.Less) = (omega arith, omega arith)
precedence_between (infix_op.Binary binary_op.LessEqual) = (omega arith, omega arith)
precedence_between (infix_op.Binary binary_op.Greater) = (omega arith, omega arith)
precedence_between (infix_op.Binary binary_op.GreaterEqual) = (omega arith, omega arith)
precedence_between (infix_op.Binary binary_op.Add) = (omega arith, omega arith)
precedence_between (infix_op.Binary binary_op.Sub) = (omega arith, omega arith)
precedence_between (infix_op.Binary binary_op.Mul) = (omega arith, omega arith)
precedence_between (infix_op.Binary binary_op.Div) = (omega arith, omega arith)
precedence_between (infix_op.Binary binary_op.Rem) = (omega arith, omega arith)

-- what is known of the precedence at which a token goes on
pub record Bound (y : Terminal) : Type 0 where
  pub small : binding y ≤ 10
  pub less : made_at y ≤ binding y
  -- a token goes on at a precedence above 7 only behind a Call
  pub tight : 8 ≤ binding y → 10 ≤ binding y
  -- no token binds at precedence 9
  pub not_nine : binding y ≤ 9 → binding y ≤ 8
  -- nor at precedence 1
  pub not_one : binding y ≤ 1 → binding y ≤ 0
  pub made : made_at y ≤ 10

pub bound : (y : Terminal) → Bound y
bound k.Dot = record { small = omega arith; less = omega arith; tight = λ h. omega arith; not_nine = λ h. absurd (omega arith); not_one = λ h. absurd (omega arith); made = omega arith }
bound k.OpenSquare = record { small = omega arith; less = omega arith; tight = λ h. omega arith; not_nine = λ h. absurd (omega arith); not_one = λ h. absurd (omega arith); made = omega arith }
bound k.Open = record { small = omega arith; less = omega arith; tight = λ h. omega arith; not_nine = λ h. absurd (omega arith); not_one = λ h. absurd (omega arith); made = omega arith }
bound (k.Assign o) = record { small = omega arith; less = omega arith; tight = λ h. omega arith; not_nine = λ h. absurd (omega arith); not_one = λ h. absurd (omega arith); made = omega arith }
bound (k.Step d) = record { small = omega arith; less = omega arith; tight = λ h. omega arith; not_nine = λ h. absurd (omega arith); not_one = λ h. absurd (omega arith); made = omega arith }
bound (k.Infix o) =
    let b = precedence_between o in let low = b.0 in let high = b.1 in
    record { small = omega arith; less = omega arith; tight = λ h. absurd (omega arith); not_nine = λ h. omega arith; not_one = λ h. absurd (omega arith); made = omega arith }
bound k.Question = record { small = omega arith; less = omega arith; tight = λ h. absurd (omega arith); not_nine = λ h. omega arith; not_one = λ h. absurd (omega arith); made = omega arith }
bound _ = record { small = omega arith; less = omega arith; tight = λ h. absurd (omega arith); not_nine = λ h. omega arith; not_one = λ h. omega arith; made = omega arith }

pub no_reduce : (y : Terminal) (v : Bool) (x : Level) → awaits_at x ≤ made_at y → 0 < binding y → reduces y v x ≡ false
no_reduce y v (f.Operation o s) h p = let b = (bound y).less in lt-leb _ _ (omega arith)
no_reduce y v (f.Unary u s) h p = let b = (bound y).less in let c = (bound y).tight (omega arith) in lt-leb _ _ (omega arith)
no_reduce y v (f.StepBefore d s) h p = let b = (bound y).less in never v (nat_le (binding y) 9) (lt-leb _ _ (omega arith))
  where
    never : (v b : Bool) → b ≡ false → (v && b) ≡ false
    never true b e = e
    never false b e = refl
no_reduce y v (f.StepAfter d s) h p = let b = (bound y).made in absurd (omega arith)
no_reduce y v (f.Assign o s) h p = lt-leb _ _ p
no_reduce y v (f.CondElse s) h p = lt-leb _ _ p
no_reduce y v x h p = refl
