-- The text of a value that is thrown and not caught.
use Rattle.std.specs.Prelude.{ℕ, ◌-◌, nat_le, List, [], ◌∷◌, ◌++◌, codes, if◌then◌else◌, Option, None, Some, slice_get}
use Rattle.std.specs.Char.{len_utf8}
use Rattle.mt_ops_properties.specs.Keys.{text_or, key_text}
use Rattle.mt_ops_properties.specs.Objects.{place_of, value_at}
use Rattle.mt_value.specs.declared.cell.Cell.{Cell}
use Rattle.mt_value.specs.declared.cell.Cell.TheVariants as cell
use Rattle.mt_value.specs.declared.cell.Property.{Property}
use Rattle.mt_value.specs.declared.value.Value.{Value}
use Rattle.mt_value.specs.declared.value.Value.TheVariants as value
use Rattle.mt_tree.specs.Limits.{error_limit}

abbrev pub property_named : List ℕ → List Property → Option Value
property_named name properties = value_at properties (place_of name properties)

abbrev pub titled : Option Value → Option Value → Option (List ℕ)
titled (Some (value.Text name)) (Some (value.Text message)) = Some (name ++ (codes ": " ++ message))
titled _ _ = None

-- the name and the message of an object that has both as texts
abbrev pub error_of : Option Cell → Option (List ℕ)
error_of (Some (cell.Obj properties)) = titled (property_named (codes "name") properties) (property_named (codes "message") properties)
error_of _ = None

-- else what stands for the value in a text, else the name of its type
unfoldable pub thrown_text : List Cell → Value → List ℕ
thrown_text store (value.Obj at) = text_or (error_of (slice_get store at)) (key_text (value.Obj at))
thrown_text store v = key_text v

-- as many whole characters as UTF-8 writes in that many bytes
abbrev pub within_bytes : ℕ → List ℕ → List ℕ
within_bytes room [] = []
within_bytes room (c ∷ cs) = if nat_le (len_utf8 c) room then c ∷ within_bytes (room - len_utf8 c) cs else []

abbrev pub error_text : List Cell → Value → List ℕ
error_text store v = within_bytes error_limit (thrown_text store v)
