-- The operators, as functions of their operands.
use Rattle.std.specs.Prelude.{ℕ, ℤ, neg_ℤ, ◌==◌, ◌||◌, int_lt, int_le, List, [], ◌∷◌, Bool, true, false, not, Option, Some, Result, Ok, Err, if◌then◌else◌, unsigned_abs}
use Rattle.mt_ops.specs.Equality.{same}
use Rattle.mt_ops.specs.Numbers.{sum, difference, product, quotient, remainder, within}
use Rattle.mt_ops.specs.Texts.{join_text, joined, type_name}
use Rattle.mt_ops.specs.Order.{comes_before}
use Rattle.mt_ops.specs.declared.error.ErrorKind.{ErrorKind}
use Rattle.mt_ops.specs.declared.error.ErrorKind.TheVariants as error
use Rattle.mt_ops.specs.declared.error.Operator.{Operator}
use Rattle.mt_ops.specs.declared.error.Operator.TheVariants as operator
use Rattle.mt_tree.specs.declared.operators.Binary.{Binary}
use Rattle.mt_tree.specs.declared.operators.Binary.TheVariants as binary
use Rattle.mt_tree.specs.declared.operators.Unary.{Unary}
use Rattle.mt_tree.specs.declared.operators.Unary.TheVariants as unary
use Rattle.mt_value.specs.declared.value.Value.{Value}
use Rattle.mt_value.specs.declared.value.Value.TheVariants as value

abbrev pub number_or_error : Result ℤ ErrorKind → Result Value ErrorKind
number_or_error (Ok n) = Ok (value.Num n)
number_or_error (Err e) = Err e

-- an operation on two numbers
unfoldable pub arithmetic : Operator → (ℤ → ℤ → Result ℤ ErrorKind) → Value → Value → Result Value ErrorKind
arithmetic op f (value.Num a) (value.Num b) = number_or_error (f a b)
arithmetic op f _ _ = Err (error.OperandsDoNotFit op)

abbrev pub is_text : Value → Bool
is_text (value.Text text) = true
is_text _ = false

abbrev pub both : Option (List ℕ) → Option (List ℕ) → Result Value ErrorKind
both (Some a) (Some b) = joined a b
both _ _ = Err (error.OperandsDoNotFit operator.Plus)

-- one is a text, and the other has a text that stands for it
unfoldable pub concatenation : Value → Value → Result Value ErrorKind
concatenation a b = if is_text a || is_text b then both (join_text a) (join_text b) else Err (error.OperandsDoNotFit operator.Plus)

unfoldable pub addition : Value → Value → Result Value ErrorKind
addition (value.Num a) (value.Num b) = number_or_error (sum a b)
addition a b = concatenation a b

-- a test of two numbers, or of two texts
unfoldable pub comparison : Operator → (ℤ → ℤ → Bool) → (List ℕ → List ℕ → Bool) → Value → Value → Result Value ErrorKind
comparison op numbers texts (value.Num a) (value.Num b) = Ok (value.Bool (numbers a b))
comparison op numbers texts (value.Text a) (value.Text b) = Ok (value.Bool (texts a b))
comparison op numbers texts _ _ = Err (error.OperandsDoNotFit op)

unfoldable pub binary_of : Binary → Value → Value → Result Value ErrorKind
binary_of binary.Add a b = addition a b
binary_of binary.Sub a b = arithmetic operator.Minus difference a b
binary_of binary.Mul a b = arithmetic operator.Times product a b
binary_of binary.Div a b = arithmetic operator.Over quotient a b
binary_of binary.Rem a b = arithmetic operator.Remainder remainder a b
binary_of binary.Less a b = comparison operator.Less int_lt comes_before a b
binary_of binary.LessEqual a b = comparison operator.LessEqual int_le (λ s t. not (comes_before t s)) a b
binary_of binary.Greater a b = comparison operator.Greater (λ m n. int_lt n m) (λ s t. comes_before t s) a b
binary_of binary.GreaterEqual a b = comparison operator.GreaterEqual (λ m n. int_le n m) (λ s t. not (comes_before s t)) a b
binary_of binary.Same a b = Ok (value.Bool (same a b))
binary_of binary.Different a b = Ok (value.Bool (not (same a b)))

abbrev pub is_empty : List ℕ → Bool
is_empty [] = true
is_empty (c ∷ cs) = false

-- undefined, null, false, 0 and the empty text are not
unfoldable pub is_truthy : Value → Bool
is_truthy value.Undefined = false
is_truthy value.Null = false
is_truthy (value.Bool b) = b
is_truthy (value.Num n) = not (unsigned_abs n == 0)
is_truthy (value.Text text) = not (is_empty text)
is_truthy _ = true

unfoldable pub negation : Value → Result Value ErrorKind
negation (value.Num n) = number_or_error (within (neg_ℤ n))
negation _ = Err (error.OperandsDoNotFit operator.Minus)

unfoldable pub itself : Value → Result Value ErrorKind
itself (value.Num n) = Ok (value.Num n)
itself _ = Err (error.OperandsDoNotFit operator.Plus)

unfoldable pub unary_of : Unary → Value → Result Value ErrorKind
unary_of unary.Not v = Ok (value.Bool (not (is_truthy v)))
unary_of unary.Minus v = negation v
unary_of unary.Plus v = itself v
unary_of unary.Typeof v = Ok (value.Text (type_name v))
