-- The words of the language, by their bytes: those that are reserved, and the names that it gives a meaning.
use Rattle.std.specs.Prelude.{ℕ, Bool, List, [], ◌∷◌, codes}
use Rattle.mt_tree.specs.Tables.{is_among}

abbrev pub reserved_words : List (List ℕ)
reserved_words =
    codes "break" ∷ codes "case" ∷ codes "catch" ∷ codes "class" ∷ codes "const" ∷ codes "continue" ∷ codes "debugger" ∷ codes "default"
    ∷ codes "delete" ∷ codes "do" ∷ codes "else" ∷ codes "export" ∷ codes "extends" ∷ codes "false" ∷ codes "finally" ∷ codes "for"
    ∷ codes "function" ∷ codes "if" ∷ codes "import" ∷ codes "in" ∷ codes "instanceof" ∷ codes "let" ∷ codes "new" ∷ codes "null"
    ∷ codes "return" ∷ codes "service" ∷ codes "super" ∷ codes "switch" ∷ codes "this" ∷ codes "throw" ∷ codes "true" ∷ codes "try"
    ∷ codes "typeof" ∷ codes "undefined" ∷ codes "var" ∷ codes "void" ∷ codes "while" ∷ codes "with" ∷ codes "yield" ∷ []

abbrev pub is_reserved : List ℕ → Bool
is_reserved word = is_among reserved_words word

-- the reserved words that are operands
abbrev pub constant_words : List (List ℕ)
constant_words = codes "false" ∷ codes "null" ∷ codes "true" ∷ codes "undefined" ∷ []

-- ---- the names of the builtins: of both tiers

abbrev pub object_name : List ℕ
object_name = codes "Object"

abbrev pub array_name : List ℕ
array_name = codes "Array"

abbrev pub string_name : List ℕ
string_name = codes "String"

abbrev pub number_name : List ℕ
number_name = codes "Number"

abbrev pub error_name : List ℕ
error_name = codes "Error"

-- of the server alone

abbrev pub log_name : List ℕ
log_name = codes "log"

-- of the client alone

abbrev pub alert_name : List ℕ
alert_name = codes "alert"

abbrev pub document_name : List ℕ
document_name = codes "document"

abbrev pub event_name : List ℕ
event_name = codes "event"
