-- What new variables hold.
use Rattle.std.specs.Prelude.{Bool, true, false, Option, None, Some}
use Rattle.mt_value.specs.declared.value.Value.{Value}
use Rattle.mt_value.specs.declared.value.Value.TheVariants as value

-- a declared variable is undefined
abbrev pub initial : Bool → Option Value
initial true = Some value.Undefined
initial false = None
