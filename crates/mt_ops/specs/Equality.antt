-- Equality by `===`: of kind and value.
use Rattle.std.specs.Prelude.{Bool, true, false, ◌==◌}
use Rattle.std.specs.Ordering.{int_eq}
use Rattle.mt_value.specs.Names.{is_same}
use Rattle.mt_value.specs.declared.value.Native.{Native}
use Rattle.mt_value.specs.declared.value.Native.TheVariants as native
use Rattle.mt_value.specs.declared.value.Value.{Value}
use Rattle.mt_value.specs.declared.value.Value.TheVariants as value

abbrev pub same_native : Native → Native → Bool
same_native native.Object native.Object = true
same_native native.Array native.Array = true
same_native native.Document native.Document = true
same_native native.String native.String = true
same_native native.Number native.Number = true
same_native native.Error native.Error = true
same_native native.Log native.Log = true
same_native native.Alert native.Alert = true
same_native native.Event native.Event = true
same_native _ _ = false

abbrev pub same_bool : Bool → Bool → Bool
same_bool true b = b
same_bool false true = false
same_bool false false = true

-- arrays, objects and functions are equal by identity, services by name, nodes and events by number; calls of services,
-- HTML trees and client code equal nothing
unfoldable pub same : Value → Value → Bool
same value.Undefined value.Undefined = true
same value.Null value.Null = true
same (value.Bool a) (value.Bool b) = same_bool a b
same (value.Num a) (value.Num b) = int_eq a b
same (value.Text a) (value.Text b) = is_same a b
same (value.Arr a) (value.Arr b) = a == b
same (value.Obj a) (value.Obj b) = a == b
same (value.Fun a) (value.Fun b) = a == b
same (value.Svc a) (value.Svc b) = is_same a b
same (value.Node a) (value.Node b) = a == b
same (value.Event a) (value.Event b) = a == b
same (value.Native a) (value.Native b) = same_native a b
same _ _ = false
