-- The joining of the items of an array.
use Rattle.std.specs.Prelude.{ℕ, List, [], Bool, if◌then◌else◌, Option, None, Some, Result, Ok, Err, is_some}
use Rattle.std.specs.List.{list_all, join_by}
use Rattle.mt_ops_methods.specs.Arguments.{bad_argument}
use Rattle.mt_ops_methods.specs.declared.name.MethodName.TheVariants as name
use Rattle.mt_ops.specs.Texts.{join_text}
use Rattle.mt_ops.specs.declared.error.ErrorKind.{ErrorKind}
use Rattle.mt_ops.specs.declared.error.ErrorKind.TheVariants as error
use Rattle.mt_value.specs.Limits.{text_fits}
use Rattle.mt_value.specs.declared.value.Value.{Value}
use Rattle.mt_value.specs.declared.value.Value.TheVariants as value

abbrev pub text_or_none : Option (List ℕ) → List ℕ
text_or_none None = []
text_or_none (Some text) = text

-- what stands in a text for a value, and nothing where nothing does
abbrev pub shown : Value → List ℕ
shown v = text_or_none (join_text v)

abbrev pub is_shown : Value → Bool
is_shown v = is_some (join_text v)

-- the texts of the items, with the separator between each two
abbrev pub joined : List ℕ → List Value → List ℕ
joined separator items = join_by shown separator items

abbrev pub fitting : List ℕ → Result Value ErrorKind
fitting text = if text_fits text then Ok (value.Text text) else Err error.TextTooLong

-- each item has a text that stands for it
unfoldable pub join : List Value → Option Value → Result Value ErrorKind
join items (Some (value.Text separator)) = if list_all is_shown items then fitting (joined separator items) else Err (bad_argument name.Join)
join items _ = Err (bad_argument name.Join)
