-- The lines that spell a command, and those that are skipped.
use Rattle.std.specs.Prelude.{◌≡◌, ◌≤◌, ◌⊎◌, ◌-◌, ◌++◌, ◌==◌, ◌&&◌, ◌||◌, ℕ, Bool, true, not, List, [], ◌∷◌, length, slice_index, codes, decimal, encode_utf8_all, nat_le, nat_lt, if◌then◌else◌, Option, Some, None}
use Rattle.std.specs.List.{list_all}
use Rattle.std.specs.Str.{IsUtf8, chars, all_scalars}
use Rattle.serde_json.specs.Data.{string}
use Rattle.serde_json.specs.Read.{read}
use Rattle.mt_tree.specs.Limits.{text_limit}
use Rattle.mt_tree.specs.Text.{units_of}
use Rattle.mt_tree.specs.declared.event.EventKind.{EventKind}
use Rattle.mt_tree.specs.declared.event.EventKind.TheVariants as kind
use Rattle.mt_tree.specs.declared.event.NodeName.{NodeName}
use Rattle.mt_tree.specs.declared.event.NodeName.TheVariants.{Id, Number}
use Rattle.mt_html.specs.Refusals.{has_nul}
use Rattle.mt_http_types.specs.Target.{IsTarget}
use Rattle.mt_lines.specs.Words.{gap}
use Rattle.mt_schedule.specs.declared.command.Command.{Command}
use Rattle.mt_schedule.specs.declared.command.Command.TheVariants.{Load, Event, Serve, Deliver, Lose}

-- the greatest number of a client in a version
abbrev pub client_limit : ℕ → ℕ
client_limit version = if version == 2 then 512 else 64

abbrev pub IsClient : ℕ → ℕ → Type 0
IsClient version k = (1 ≤ k) × (k ≤ client_limit version)

abbrev pub IsMessageNumber : ℕ → Type 0
IsMessageNumber m = (1 ≤ m) × (m ≤ 1000000)

-- a client's message, as its number, a dot and the message's number
abbrev pub message_name : ℕ → ℕ → List ℕ
message_name k m = decimal k ++ 46 ∷ decimal m

-- the white space of the language
abbrev pub is_white_space : ℕ → Bool
is_white_space c =
    (nat_le 9 c && nat_le c 13) || (c == 0x20) || (c == 0xA0) || (c == 0xFEFF) || (c == 0x2028) || (c == 0x2029)

-- a character of an element's id as a line can name it
abbrev pub is_id_character : ℕ → Bool
is_id_character c = nat_le 32 c && not (is_white_space c)

-- one or more of them
abbrev pub is_id : List ℕ → Bool
is_id cs = nat_lt 0 (length cs) && list_all is_id_character cs

abbrev pub IsNodeName : NodeName → Type 0
IsNodeName (Id id) = (all_scalars id ≡ true) × (is_id id ≡ true)
IsNodeName (Number n) = (1 ≤ n) × (n ≤ 4294967295)

abbrev pub node_text : NodeName → List ℕ
node_text (Id id) = 35 ∷ encode_utf8_all id
node_text (Number n) = 64 ∷ decimal n

-- what stands between quotes, and the quotes
abbrev pub is_quoted : List ℕ → Bool
is_quoted bytes = nat_lt 0 (length bytes) && ((slice_index bytes 0 == 34) && (slice_index bytes (length bytes - 1) == 34))

-- what may be written into a field
abbrev pub fits_field : List ℕ → Bool
fits_field text = nat_le (units_of text) text_limit && not (has_nul text)

-- the bytes are a JSON string (RFC 8259), as serde_json reads it, and nothing before or behind it
pub record SpellsText (bytes text : List ℕ) : Type 0 where
  pub quoted : is_quoted bytes ≡ true
  pub utf8 : IsUtf8 bytes
  pub spelled : List ℕ
  pub string : read bytes ≡ Some (string spelled)
  pub characters : text ≡ chars spelled
  pub fits : fits_field text ≡ true

abbrev pub kind_word : EventKind → List ℕ
kind_word kind.Click = codes "click"
kind_word kind.Input = codes "input"
kind_word kind.Change = codes "change"

-- the first word of a command
abbrev pub command_word : Command → List ℕ
command_word (Load k target) = codes "load"
command_word (Event k kind node text) = kind_word kind
command_word (Serve k m) = codes "serve"
command_word (Deliver k m) = codes "deliver"
command_word (Lose k m) = codes "lose"

-- what follows the client of an event: an element, and for `input` the text that is put in
abbrev pub SpellsEvent : EventKind → NodeName → Option (List ℕ) → List ℕ → Type 0
SpellsEvent kind.Click node None words = IsNodeName node × (words ≡ node_text node)
SpellsEvent kind.Click node (Some text) words = ⊥
SpellsEvent kind.Change node None words = IsNodeName node × (words ≡ node_text node)
SpellsEvent kind.Change node (Some text) words = ⊥
SpellsEvent kind.Input node None words = ⊥
SpellsEvent kind.Input node (Some text) words =
    (c : ℕ) × (json : List ℕ) × IsNodeName node × (words ≡ node_text node ++ (gap c ++ json)) × SpellsText json text

-- what follows the first word of a command
abbrev pub SpellsArguments : ℕ → Command → List ℕ → Type 0
SpellsArguments version (Load k target) words =
    (b : ℕ) × IsClient version k × IsTarget target × (words ≡ decimal k ++ (gap b ++ encode_utf8_all target.0))
SpellsArguments version (Event k kind node text) words =
    (b : ℕ) × (rest : List ℕ) × IsClient version k × (words ≡ decimal k ++ (gap b ++ rest)) × SpellsEvent kind node text rest
SpellsArguments version (Serve k m) words = IsClient version k × IsMessageNumber m × (words ≡ message_name k m)
SpellsArguments version (Deliver k m) words = IsClient version k × IsMessageNumber m × (words ≡ message_name k m)
SpellsArguments version (Lose k m) words = IsClient version k × IsMessageNumber m × (words ≡ message_name k m)

-- a line that spells a command in a version: words parted by one or more spaces, with none before or after
abbrev pub SpellsCommand : ℕ → List ℕ → Command → Type 0
SpellsCommand version line command =
    (a : ℕ) × (words : List ℕ) × (line ≡ command_word command ++ (gap a ++ words)) × SpellsArguments version command words

-- an empty line, or a comment in UTF-8
abbrev pub IsSkipped : List ℕ → Type 0
IsSkipped [] = Unit {0}
IsSkipped (byte ∷ bytes) = (byte ≡ 35) × IsUtf8 (byte ∷ bytes)

abbrev pub IsGoodLine : ℕ → List ℕ → Type 0
IsGoodLine version line = IsSkipped line ⊎ ((command : Command) × SpellsCommand version line command)
