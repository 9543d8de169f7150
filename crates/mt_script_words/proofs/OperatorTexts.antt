-- Each operator is read as itself.
use Rattle.std.proofs.Common.{◌≡◌, ℕ, true, List, ◌∷◌, ◌++◌, Option, Some, None, refl}
use Rattle.std.specs.Prelude.{codes}
use Rattle.mt_syntax.specs.CodeText.{assign_text, binary_text}
use Rattle.mt_syntax.specs.Shape.{is_assignment}
use Rattle.mt_tree.specs.declared.operators.Binary.{Binary}
use Rattle.mt_tree.specs.declared.operators.Binary.TheVariants as binary
use Rattle.mt_script_words.specs.Operators.{operator_at}
use Rattle.mt_script_words.specs.declared.operators.Operator.TheVariants as operator

pub binary_read : (op : Binary) (rest : List ℕ) → operator_at (binary_text op ++ 32 ∷ rest) ≡ Some (operator.Binary op, rest)
unfolding operator_at
binary_read binary.Add rest = refl
binary_read binary.Sub rest = refl
binary_read binary.Mul rest = refl
binary_read binary.Div rest = refl
binary_read binary.Rem rest = refl
binary_read binary.Less rest = refl
binary_read binary.LessEqual rest = refl
binary_read binary.Greater rest = refl
binary_read binary.GreaterEqual rest = refl
binary_read binary.Same rest = refl
binary_read binary.Different rest = refl

pub and_read : (rest : List ℕ) → operator_at (codes "&&" ++ 32 ∷ rest) ≡ Some (operator.And, rest)
unfolding operator_at
and_read rest = refl

pub or_read : (rest : List ℕ) → operator_at (codes "||" ++ 32 ∷ rest) ≡ Some (operator.Or, rest)
unfolding operator_at
or_read rest = refl

pub choice_read : (rest : List ℕ) → operator_at (codes "?" ++ 32 ∷ rest) ≡ Some (operator.Choice, rest)
unfolding operator_at
choice_read rest = refl

pub assign_read : (op : Option Binary) (rest : List ℕ) → is_assignment op ≡ true → operator_at (assign_text op ++ 32 ∷ rest) ≡ Some (operator.Assign op, rest)
unfolding operator_at
assign_read None rest h = refl
assign_read (Some binary.Add) rest h = refl
assign_read (Some binary.Sub) rest h = refl
assign_read (Some binary.Mul) rest h = refl
assign_read (Some binary.Div) rest h = refl
assign_read (Some binary.Rem) rest h = refl
assign_read (Some binary.Less) rest h = absurd cc
assign_read (Some binary.LessEqual) rest h = absurd cc
assign_read (Some binary.Greater) rest h = absurd cc
assign_read (Some binary.GreaterEqual) rest h = absurd cc
assign_read (Some binary.Same) rest h = absurd cc
assign_read (Some binary.Different) rest h = absurd cc
