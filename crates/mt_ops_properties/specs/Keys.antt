-- Keys, as an error names them.
use Rattle.std.specs.Prelude.{ℕ, List, Option, None, Some, Result, Err}
use Rattle.mt_ops.specs.Texts.{join_text, type_name}
use Rattle.mt_ops.specs.declared.error.ErrorKind.{ErrorKind}
use Rattle.mt_ops.specs.declared.error.ErrorKind.TheVariants as error
use Rattle.mt_value.specs.declared.value.Value.{Value}

abbrev pub text_or : Option (List ℕ) → List ℕ → List ℕ
text_or (Some text) other = text
text_or None other = other

-- a text itself, else what stands for the value in a text, else the name of its type
abbrev pub key_text : Value → List ℕ
key_text key = text_or (join_text key) (type_name key)

-- the value has no property of that key
abbrev pub no_such : {A : Type 0} → Value → Result A ErrorKind
no_such key = Err (error.NoSuchProperty (key_text key))

-- the key can't name a property of an object
abbrev pub bad_name : {A : Type 0} → Value → Result A ErrorKind
bad_name key = Err (error.BadPropertyName (key_text key))
