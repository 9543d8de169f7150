-- The builtins, by the tiers that have them.
use Rattle.std.specs.Prelude.{ℕ, Bool, ◌||◌, List}
use Rattle.std.specs.Str.{chars}
use Rattle.mt_stage_declared.specs.Names.{is_same}
use Rattle.mt_tree.specs.Words.{object_name, array_name, string_name, number_name, error_name, log_name, alert_name, document_name, event_name}

-- the name is the text that these bytes spell
abbrev pub is_spelled : List ℕ → List ℕ → Bool
is_spelled name bytes = is_same name (chars bytes)

abbrev pub is_builtin_of_both : List ℕ → Bool
is_builtin_of_both name =
    is_spelled name object_name || is_spelled name array_name || is_spelled name string_name || is_spelled name number_name || is_spelled name error_name

-- of the server alone
abbrev pub is_server_builtin : List ℕ → Bool
is_server_builtin name = is_spelled name log_name

-- of the client alone
abbrev pub is_client_builtin : List ℕ → Bool
is_client_builtin name = is_spelled name alert_name || is_spelled name document_name || is_spelled name event_name

abbrev pub is_builtin : List ℕ → Bool
is_builtin name = is_builtin_of_both name || is_server_builtin name || is_client_builtin name
