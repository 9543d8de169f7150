-- A command as a transcript shows it: its words with single spaces, a text that is put in as its JSON text.
use Rattle.std.specs.Prelude.{◌++◌, ℕ, List, [], ◌∷◌, decimal, encode_utf8_all, Option, Some, None}
use Rattle.mt_syntax.specs.DataText.{json_text}
use Rattle.mt_schedule.specs.declared.command.Command.{Command}
use Rattle.mt_schedule.specs.declared.command.Command.TheVariants.{Load, Event, Serve, Deliver, Lose}
use Rattle.mt_schedule.specs.Command.{message_name, node_text, command_word}

-- behind the element
abbrev pub put_text : Option (List ℕ) → List ℕ
put_text None = []
put_text (Some text) = 32 ∷ json_text text

-- behind the first word and a space
abbrev pub arguments_text : Command → List ℕ
arguments_text (Load k target) = decimal k ++ 32 ∷ encode_utf8_all target.0
arguments_text (Event k kind node text) = decimal k ++ 32 ∷ (node_text node ++ put_text text)
arguments_text (Serve k m) = message_name k m
arguments_text (Deliver k m) = message_name k m
arguments_text (Lose k m) = message_name k m

abbrev pub command_text : Command → List ℕ
command_text command = command_word command ++ 32 ∷ arguments_text command
