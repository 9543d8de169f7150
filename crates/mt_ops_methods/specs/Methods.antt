-- The methods of values.
use Rattle.std.specs.Prelude.{ℕ, List, Err}
use Rattle.mt_ops_methods.specs.Arguments.{named}
use Rattle.mt_ops_methods.specs.Arrays.{array_method}
use Rattle.mt_ops_methods.specs.Texts.{text_method}
use Rattle.mt_ops.specs.Errors.{settled}
use Rattle.mt_ops.specs.declared.error.ErrorKind.TheVariants as error
use Rattle.mt_ops.specs.declared.outcome.Outcome.{Outcome}
use Rattle.mt_value.specs.declared.cell.Cell.{Cell}
use Rattle.mt_value.specs.declared.value.Value.{Value}
use Rattle.mt_value.specs.declared.value.Value.TheVariants as value

-- what a call of a method comes to, with the store after it; a text and an array alone have methods
unfoldable pub method : Value → List ℕ → List Value → List Cell → Outcome × List Cell
method (value.Text text) key arguments store = settled (text_method text (named key) key arguments) store
method (value.Arr at) key arguments store = array_method (named key) at key arguments store
method _ key arguments store = settled (Err (error.NoSuchProperty key)) store
