-- How a command is found in any line: what the functions of the reader compute. That this is the one command that the
-- line spells is proved in proofs/Commands.
use Rattle.std.specs.Prelude.{◌==◌, ℕ, List, [], ◌∷◌, drop, codes, option_and_then, if◌then◌else◌, Option, None, Some}
use Rattle.std.specs.Str.{chars, is_utf8}
use Rattle.mt_small.specs.declared.command.SmallCommand.{SmallCommand}
use Rattle.mt_small.specs.declared.command.SmallCommand.TheVariants.{Load, Serve, Deliver}
use Rattle.mt_small.specs.declared.command_reader.LineKind.{LineKind}
use Rattle.mt_small.specs.declared.command_reader.LineKind.TheVariants.{Skipped, Command, Bad}
use Rattle.mt_small.specs.Name.{is_target}
use Rattle.mt_small.specs.Number.{number_in}
use Rattle.mt_small.specs.Splitting.{before, from, after_front, after_spaces}

-- what follows this word and one or more spaces
abbrev pub after_word : List ℕ → List ℕ → Option (List ℕ)
after_word word line = option_and_then after_spaces (after_front word line)

abbrev pub load_with : Option ℕ → Option (List ℕ) → Option SmallCommand
load_with (Some client) (Some target) = if is_target target then Some (Load client (chars target)) else None
load_with (Some client) None = None
load_with None target = None

-- the load with these words
abbrev pub load_in : List ℕ → Option SmallCommand
load_in words = load_with (number_in 64 (before 32 words)) (after_spaces (from 32 words))

abbrev pub pair_of : Option ℕ → Option ℕ → Option (ℕ × ℕ)
pair_of (Some client) (Some message) = Some (client, message)
pair_of (Some client) None = None
pair_of None message = None

-- the client and the message that a word names
abbrev pub message_in : List ℕ → Option (ℕ × ℕ)
message_in word = pair_of (number_in 64 (before 46 word)) (number_in 1000000 (drop 1 (from 46 word)))

abbrev pub serve_with : Option (ℕ × ℕ) → Option SmallCommand
serve_with None = None
serve_with (Some message) = Some (Serve message.0 message.1)

abbrev pub deliver_with : Option (ℕ × ℕ) → Option SmallCommand
deliver_with None = None
deliver_with (Some message) = Some (Deliver message.0 message.1)

-- the command, by what follows the word load, serve or deliver
abbrev pub command_with : Option (List ℕ) → Option (List ℕ) → Option (List ℕ) → Option SmallCommand
command_with (Some words) serve deliver = load_in words
command_with None (Some word) deliver = serve_with (message_in word)
command_with None None (Some word) = deliver_with (message_in word)
command_with None None None = None

-- the command of a line
abbrev pub command_in : List ℕ → Option SmallCommand
command_in line = command_with (after_word (codes "load") line) (after_word (codes "serve") line) (after_word (codes "deliver") line)

abbrev pub kind_with : Option SmallCommand → LineKind
kind_with None = Bad
kind_with (Some command) = Command command

-- what a line is
abbrev pub kind_of : List ℕ → LineKind
kind_of [] = Skipped
kind_of (byte ∷ bytes) =
    if byte == 35 then (if is_utf8 (byte ∷ bytes) then Skipped else Bad) else kind_with (command_in (byte ∷ bytes))
