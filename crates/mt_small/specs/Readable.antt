-- The messages that their reader takes for what they are.
use Rattle.std.specs.Prelude.{◌≡◌, true, ⊤, encode_utf8_all}
use Rattle.mt_small.specs.declared.command.SmallCommand.{SmallCommand}
use Rattle.mt_small.specs.declared.command.SmallCommand.TheVariants.{Load, Serve, Deliver}
use Rattle.mt_small.specs.declared.message.Reply.{Reply}
use Rattle.mt_small.specs.declared.message.Reply.TheVariants as reply
use Rattle.mt_small.specs.Name.{is_target}
use Rattle.mt_small.specs.Paragraph.{is_paragraph}
use Rattle.mt_small.specs.Wire.{Message, request, answer}

-- a page whose text is a paragraph, or a failure
abbrev pub IsReadableReply : Reply → Type 0
IsReadableReply (reply.Page text) = is_paragraph (encode_utf8_all text) ≡ true
IsReadableReply (reply.Failure failure) = ⊤

-- the request of a target, or such a reply
abbrev pub IsReadable : Message → Type 0
IsReadable (request target) = is_target (encode_utf8_all target) ≡ true
IsReadable (answer r) = IsReadableReply r

-- a command that sends, if it sends a request, a readable one
abbrev pub AsksForTarget : SmallCommand → Type 0
AsksForTarget (Load k target) = is_target (encode_utf8_all target) ≡ true
AsksForTarget (Serve k m) = ⊤
AsksForTarget (Deliver k m) = ⊤
