-- How a command is found in any line: what the functions of the reader compute. That this is the one command that the
-- line spells is proved in proofs/Commands.
use Rattle.std.specs.Prelude.{◌==◌, ℕ, List, [], ◌∷◌, drop, codes, option_and_then, if◌then◌else◌, Option, None, Some}
use Rattle.std.specs.Str.{chars, is_utf8, bytes_eq}
use Rattle.serde_json.specs.Find.{as_str}
use Rattle.serde_json.specs.Read.{read}
use Rattle.mt_tree.specs.declared.event.EventKind.{EventKind}
use Rattle.mt_tree.specs.declared.event.EventKind.TheVariants as kind
use Rattle.mt_tree.specs.declared.event.NodeName.{NodeName}
use Rattle.mt_tree.specs.declared.event.NodeName.TheVariants.{Id, Number}
use Rattle.mt_http_types.specs.Target.{is_target}
use Rattle.mt_lines.specs.Number.{number_in}
use Rattle.mt_lines.specs.Words.{before, from, after_spaces}
use Rattle.mt_schedule.specs.declared.command.Command.{Command}
use Rattle.mt_schedule.specs.declared.command.Command.TheVariants.{Load, Event, Serve, Deliver, Lose}
use Rattle.mt_schedule.specs.declared.keyword.Keyword.{Keyword}
use Rattle.mt_schedule.specs.declared.keyword.Keyword.TheVariants as word
use Rattle.mt_schedule.specs.declared.line_reader.LineKind.{LineKind}
use Rattle.mt_schedule.specs.declared.line_reader.LineKind.TheVariants as line
use Rattle.mt_schedule.specs.Command.{client_limit, is_id, is_quoted, fits_field}

abbrev pub client_in : ℕ → List ℕ → Option ℕ
client_in version bytes = number_in (client_limit version) bytes

-- ---- texts and elements

abbrev pub fitting : Option (List ℕ) → Option (List ℕ)
fitting None = None
fitting (Some spelled) = if fits_field (chars spelled) then Some (chars spelled) else None

-- what a JSON string spells
abbrev pub string_in : List ℕ → Option (List ℕ)
string_in bytes = option_and_then as_str (read bytes)

abbrev pub text_in : List ℕ → Option (List ℕ)
text_in bytes = if is_quoted bytes then (if is_utf8 bytes then fitting (string_in bytes) else None) else None

abbrev pub numbered : Option ℕ → Option NodeName
numbered None = None
numbered (Some n) = Some (Number n)

abbrev pub id_in : List ℕ → Option NodeName
id_in bytes = if is_utf8 bytes then (if is_id (chars bytes) then Some (Id (chars bytes)) else None) else None

abbrev pub node_in : List ℕ → Option NodeName
node_in [] = None
node_in (sign ∷ bytes) = if sign == 35 then id_in bytes else (if sign == 64 then numbered (number_in 4294967295 bytes) else None)

-- ---- what follows the first word

abbrev pub load_with : Option ℕ → Option (List ℕ) → Option Command
load_with None target = None
load_with (Some client) None = None
load_with (Some client) (Some target) = if is_target target then Some (Load client (record { 0 = target })) else None

abbrev pub load_in : ℕ → List ℕ → Option Command
load_in version words = load_with (client_in version (before 32 words)) (after_spaces (from 32 words))

-- a click or a change
abbrev pub acted : EventKind → ℕ → Option NodeName → Option Command
acted kind client None = None
acted kind client (Some node) = Some (Event client kind node None)

abbrev pub put : ℕ → Option NodeName → Option (List ℕ) → Option Command
put client None text = None
put client (Some node) None = None
put client (Some node) (Some text) = Some (Event client kind.Input node (Some text))

-- where spaces follow the element
abbrev pub put_in : ℕ → List ℕ → Option (List ℕ) → Option Command
put_in client node None = None
put_in client node (Some json) = put client (node_in node) (text_in json)

abbrev pub event_of : EventKind → ℕ → List ℕ → Option Command
event_of kind.Click client rest = acted kind.Click client (node_in rest)
event_of kind.Change client rest = acted kind.Change client (node_in rest)
event_of kind.Input client rest = put_in client (before 32 rest) (after_spaces (from 32 rest))

abbrev pub event_with : EventKind → Option ℕ → Option (List ℕ) → Option Command
event_with kind None rest = None
event_with kind (Some client) None = None
event_with kind (Some client) (Some rest) = event_of kind client rest

abbrev pub event_in : ℕ → EventKind → List ℕ → Option Command
event_in version kind words = event_with kind (client_in version (before 32 words)) (after_spaces (from 32 words))

abbrev pub pair_of : Option ℕ → Option ℕ → Option (ℕ × ℕ)
pair_of (Some client) (Some message) = Some (client, message)
pair_of (Some client) None = None
pair_of None message = None

-- the client and the message that a word names
abbrev pub message_in : ℕ → List ℕ → Option (ℕ × ℕ)
message_in version words = pair_of (client_in version (before 46 words)) (number_in 1000000 (drop 1 (from 46 words)))

abbrev pub serve_with : Option (ℕ × ℕ) → Option Command
serve_with None = None
serve_with (Some message) = Some (Serve message.0 message.1)

abbrev pub deliver_with : Option (ℕ × ℕ) → Option Command
deliver_with None = None
deliver_with (Some message) = Some (Deliver message.0 message.1)

abbrev pub lose_with : Option (ℕ × ℕ) → Option Command
lose_with None = None
lose_with (Some message) = Some (Lose message.0 message.1)

abbrev pub arguments_in : ℕ → Keyword → List ℕ → Option Command
arguments_in version word.Load words = load_in version words
arguments_in version (word.Event kind) words = event_in version kind words
arguments_in version word.Serve words = serve_with (message_in version words)
arguments_in version word.Deliver words = deliver_with (message_in version words)
arguments_in version word.Lose words = lose_with (message_in version words)

-- ---- a line

abbrev pub keyword_in : List ℕ → Option Keyword
keyword_in bytes =
    if bytes_eq bytes (codes "load") then Some word.Load
    else if bytes_eq bytes (codes "click") then Some (word.Event kind.Click)
    else if bytes_eq bytes (codes "input") then Some (word.Event kind.Input)
    else if bytes_eq bytes (codes "change") then Some (word.Event kind.Change)
    else if bytes_eq bytes (codes "serve") then Some word.Serve
    else if bytes_eq bytes (codes "deliver") then Some word.Deliver
    else if bytes_eq bytes (codes "lose") then Some word.Lose
    else None

abbrev pub command_with : ℕ → Option Keyword → Option (List ℕ) → Option Command
command_with version None words = None
command_with version (Some keyword) None = None
command_with version (Some keyword) (Some words) = arguments_in version keyword words

-- the command of a line
abbrev pub command_in : ℕ → List ℕ → Option Command
command_in version bytes = command_with version (keyword_in (before 32 bytes)) (after_spaces (from 32 bytes))

abbrev pub kind_with : Option Command → LineKind
kind_with None = line.Bad
kind_with (Some command) = line.Command command

-- what a line is
abbrev pub kind_of : ℕ → List ℕ → LineKind
kind_of version [] = line.Skipped
kind_of version (byte ∷ bytes) =
    if byte == 35 then (if is_utf8 (byte ∷ bytes) then line.Skipped else line.Bad) else kind_with (command_in version (byte ∷ bytes))
