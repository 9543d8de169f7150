-- The errors that a program can catch: their names and messages, and the objects that they are thrown as.
use Rattle.std.specs.Prelude.{◌≡◌, ℕ, List, [], ◌∷◌, ◌++◌, codes, take, length, Result, Ok, Err}
use Rattle.mt_ops.specs.declared.error.ErrorKind.{ErrorKind}
use Rattle.mt_ops.specs.declared.error.ErrorKind.TheVariants as error
use Rattle.mt_ops.specs.declared.error.Operator.{Operator}
use Rattle.mt_ops.specs.declared.error.Operator.TheVariants as operator
use Rattle.mt_ops.specs.declared.outcome.Outcome.{Outcome}
use Rattle.mt_ops.specs.declared.outcome.Outcome.TheVariants as outcome
use Rattle.mt_ops.specs.declared.outcome.Refusal.{Refusal}
use Rattle.mt_ops.specs.declared.outcome.Refusal.TheVariants as refusal
use Rattle.mt_value.specs.declared.cell.Cell.{Cell}
use Rattle.mt_value.specs.declared.cell.Cell.TheVariants as cell
use Rattle.mt_value.specs.declared.cell.Property.{Property}
use Rattle.mt_value.specs.declared.value.Value.{Value}
use Rattle.mt_value.specs.declared.value.Value.TheVariants as value

abbrev pub operator_text : Operator → List ℕ
operator_text operator.Plus = codes "+"
operator_text operator.Minus = codes "-"
operator_text operator.Times = codes "*"
operator_text operator.Over = codes "/"
operator_text operator.Remainder = codes "%"
operator_text operator.Less = codes "<"
operator_text operator.LessEqual = codes "<="
operator_text operator.Greater = codes ">"
operator_text operator.GreaterEqual = codes ">="
operator_text operator.Increment = codes "++"
operator_text operator.Decrement = codes "--"

-- a name is cut to its first 64 characters
abbrev pub cut : List ℕ → List ℕ
cut name = take 64 name

unfoldable pub error_name : ErrorKind → List ℕ
error_name (error.NotDefined name) = codes "ReferenceError"
error_name (error.BeforeDeclaration name) = codes "ReferenceError"
error_name error.NumberOutOfRange = codes "RangeError"
error_name error.InexactDivision = codes "RangeError"
error_name error.DivisionByZero = codes "RangeError"
error_name error.TextTooLong = codes "RangeError"
error_name error.CutInsideCharacter = codes "RangeError"
error_name error.IndexOutOfRange = codes "RangeError"
error_name error.HtmlTooLarge = codes "RangeError"
error_name error.TooManyPosts = codes "RangeError"
error_name _ = codes "TypeError"

unfoldable pub error_message : ErrorKind → List ℕ
error_message (error.NotDefined name) = cut name ++ codes " is not defined"
error_message (error.BeforeDeclaration name) = cut name ++ codes " is read before its declaration"
error_message (error.Constant name) = cut name ++ codes " is a constant"
error_message (error.OperandsDoNotFit op) = codes "operands do not fit " ++ operator_text op
error_message error.NumberOutOfRange = codes "number out of range"
error_message error.InexactDivision = codes "division is not exact"
error_message error.DivisionByZero = codes "division by zero"
error_message error.TextTooLong = codes "text too long"
error_message error.CutInsideCharacter = codes "cut inside a character"
error_message error.NotFunction = codes "not a function"
error_message (error.NoSuchProperty key) = codes "no such property: " ++ cut key
error_message (error.BadPropertyName key) = codes "bad property name: " ++ cut key
error_message error.IndexOutOfRange = codes "index out of range"
error_message (error.BadArgument name) = codes "bad argument of " ++ cut name
error_message error.NulInHtml = codes "NUL in HTML text"
error_message error.CannotStandInHtml = codes "value cannot stand in HTML"
error_message error.HtmlTooLarge = codes "HTML too large"
error_message error.TooManyPosts = codes "too many posts"
error_message (error.UnknownTag tag) = codes "unknown tag: " ++ cut tag
error_message (error.BadAttribute name) = codes "bad attribute: " ++ cut name
error_message error.CannotHoldChildren = codes "node cannot hold children"
error_message error.CannotBeMoved = codes "node cannot be moved there"
error_message error.NotPage = codes "not a page"

-- a property whose value is a text
abbrev pub text_property : List ℕ → List ℕ → Property
text_property name text = record { name = name; value = value.Text text }

-- an object with a name and a message
abbrev pub error_cell : ErrorKind → Cell
error_cell e = cell.Obj (text_property (codes "name") (error_name e) ∷ text_property (codes "message") (error_message e) ∷ [])

-- what an operation comes to, with the store after it: an error is thrown as a fresh object
abbrev pub settled : Result Value ErrorKind → List Cell → Outcome × List Cell
settled (Ok v) store = (outcome.Value v, store)
settled (Err e) store = (outcome.Throw (value.Obj (length store)), store ++ error_cell e ∷ [])

-- the code's answer is the one meant, or want of memory
abbrev pub Answers : {A : Type 0} → Result A ErrorKind → Result A Refusal → Type 0
Answers meant (Ok a) = meant ≡ Ok a
Answers meant (Err (refusal.Error e)) = meant ≡ Err e
Answers meant (Err refusal.NoMemory) = Unit {0}
