-- Names of services and targets: lower-case ASCII letters.
use Rattle.std.specs.Prelude.{◌&&◌, ℕ, Bool, not, List, [], ◌∷◌, length, take, drop, codes, nat_le}
use Rattle.std.specs.Str.{bytes_eq}
use Rattle.std.specs.List.{list_all}
use Rattle.mt_tree.specs.Tables.{is_among}
use Rattle.mt_tree.specs.Words.{object_name, array_name, string_name, number_name, error_name, log_name, alert_name, document_name, event_name, reserved_words}

abbrev pub is_lower : ℕ → Bool
is_lower byte = nat_le 97 byte && nat_le byte 122

-- 1 to 32 lower-case letters
abbrev pub is_name : List ℕ → Bool
is_name bytes = nat_le 1 (length bytes) && (nat_le (length bytes) 32 && list_all is_lower bytes)

-- where services are reached
abbrev pub hop : List ℕ
hop = codes "/hop/"

-- the path of a service is a target, and so is that of a name that no service has
abbrev pub is_target : List ℕ → Bool
is_target target = bytes_eq (take 5 target) hop && is_name (drop 5 target)

-- the names that the language gives a meaning
abbrev pub builtins : List (List ℕ)
builtins =
    object_name ∷ array_name ∷ string_name ∷ number_name ∷ error_name ∷ log_name ∷ alert_name ∷ document_name ∷ event_name ∷ []

abbrev pub is_service_name : List ℕ → Bool
is_service_name name = is_name name && (not (is_among reserved_words name) && not (is_among builtins name))
