-- The texts that values have, and the joining of texts.
use Rattle.std.specs.Prelude.{ℕ, List, ◌++◌, codes, Bool, true, false, Option, None, Some, Result, Ok, Err, if◌then◌else◌, nat_lt}
use Rattle.std.specs.List.{list_all}
use Rattle.std.specs.Fmt.{signed_decimal}
use Rattle.mt_ops.specs.declared.error.ErrorKind.{ErrorKind}
use Rattle.mt_ops.specs.declared.error.ErrorKind.TheVariants as error
use Rattle.mt_value.specs.Limits.{text_fits}
use Rattle.mt_value.specs.declared.value.Native.{Native}
use Rattle.mt_value.specs.declared.value.Native.TheVariants as native
use Rattle.mt_value.specs.declared.value.Value.{Value}
use Rattle.mt_value.specs.declared.value.Value.TheVariants as value

-- all are characters of ASCII, each of which is one byte
abbrev pub is_plain : List ℕ → Bool
is_plain text = list_all (λ c. nat_lt c 128) text

-- what stands in a text for a value: a number in decimal form, `true` and its like, and a text itself
unfoldable pub join_text : Value → Option (List ℕ)
join_text value.Undefined = Some (codes "undefined")
join_text value.Null = Some (codes "null")
join_text (value.Bool true) = Some (codes "true")
join_text (value.Bool false) = Some (codes "false")
join_text (value.Num n) = Some (signed_decimal n)
join_text (value.Text text) = Some text
join_text _ = None

-- two texts as one, where it isn't too long
abbrev pub joined : List ℕ → List ℕ → Result Value ErrorKind
joined a b = if text_fits (a ++ b) then Ok (value.Text (a ++ b)) else Err error.TextTooLong

abbrev pub native_type : Native → List ℕ
native_type native.Document = codes "object"
native_type native.Event = codes "object"
native_type _ = codes "function"

-- what `typeof` answers
unfoldable pub type_name : Value → List ℕ
type_name value.Undefined = codes "undefined"
type_name (value.Bool b) = codes "boolean"
type_name (value.Num n) = codes "number"
type_name (value.Text text) = codes "string"
type_name (value.Fun at) = codes "function"
type_name (value.Svc name) = codes "function"
type_name (value.Native n) = native_type n
type_name _ = codes "object"
