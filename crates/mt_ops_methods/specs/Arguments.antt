-- The names of methods, and what their arguments stand for.
use Rattle.std.specs.Prelude.{ℕ, ℤ, pos, negsuc, nat_le, if◌then◌else◌, List, codes, Option, None, Some, Result, Ok, Err}
use Rattle.mt_ops_methods.specs.declared.name.MethodName.{MethodName}
use Rattle.mt_ops_methods.specs.declared.name.MethodName.TheVariants as name
use Rattle.mt_ops.specs.declared.error.ErrorKind.{ErrorKind}
use Rattle.mt_ops.specs.declared.error.ErrorKind.TheVariants as error
use Rattle.mt_value.specs.Names.{is_same}
use Rattle.mt_value.specs.declared.value.Value.{Value}
use Rattle.mt_value.specs.declared.value.Value.TheVariants as value

abbrev pub word : MethodName → List ℕ
word name.Slice = codes "slice"
word name.IndexOf = codes "indexOf"
word name.Push = codes "push"
word name.Pop = codes "pop"
word name.Join = codes "join"

unfoldable pub named : List ℕ → Option MethodName
named key =
    if is_same key (word name.Slice) then Some name.Slice else
    if is_same key (word name.IndexOf) then Some name.IndexOf else
    if is_same key (word name.Push) then Some name.Push else
    if is_same key (word name.Pop) then Some name.Pop else
    if is_same key (word name.Join) then Some name.Join else None

-- the error of an argument that the method doesn't take
abbrev pub bad_argument : MethodName → ErrorKind
bad_argument m = error.BadArgument (word m)

-- a missing argument is undefined
abbrev pub given : Option Value → Value
given None = value.Undefined
given (Some v) = v

-- a number as a place from 0 to a length
abbrev pub place : ℕ → ℤ → Option ℕ
place length (pos n) = if nat_le n length then Some n else None
place length (negsuc n) = None

-- the places that the two arguments of `slice` name, where both are numbers; one that is left out is the length
unfoldable pub bounds : ℕ → Option Value → Option Value → Option (Option ℕ × Option ℕ)
bounds length (Some (value.Num a)) None = Some (place length a, Some length)
bounds length (Some (value.Num a)) (Some (value.Num b)) = Some (place length a, place length b)
bounds length _ _ = None

-- the first is at most the second
abbrev pub ordered : Option ℕ → Option ℕ → Result (ℕ × ℕ) ErrorKind
ordered (Some a) (Some b) = if nat_le a b then Ok (a, b) else Err error.IndexOutOfRange
ordered _ _ = Err error.IndexOutOfRange

abbrev pub range_of : Option (Option ℕ × Option ℕ) → Result (ℕ × ℕ) ErrorKind
range_of (Some p) = ordered p.0 p.1
range_of None = Err (bad_argument name.Slice)

-- the range that they name
abbrev pub range : ℕ → Option Value → Option Value → Result (ℕ × ℕ) ErrorKind
range length from to = range_of (bounds length from to)

-- the number that stands for a place, and -1 for none
abbrev pub place_number : Option ℕ → Value
place_number None = value.Num (negsuc 0)
place_number (Some n) = value.Num (pos n)
