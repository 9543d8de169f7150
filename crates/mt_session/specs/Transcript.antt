-- The lines of a transcript.
use Rattle.std.specs.Prelude.{◌+◌, ◌++◌, ℕ, Bool, true, false, List, [], ◌∷◌, length, codes, decimal, encode_utf8_all, Option, None, Some}
use Rattle.mt_small.specs.declared.command.SmallCommand.{SmallCommand}
use Rattle.mt_small.specs.declared.command.SmallCommand.TheVariants.{Load, Serve, Deliver}
use Rattle.mt_small.specs.declared.message.Failure.{Failure}
use Rattle.mt_small.specs.declared.message.Failure.TheVariants.{BadRequest, NotFound}
use Rattle.mt_small.specs.declared.message.Reply.{Reply}
use Rattle.mt_small.specs.declared.message.Reply.TheVariants as reply
use Rattle.mt_small.specs.Schedule.{message_name}

abbrev pub line_end : List ℕ
line_end = 10 ∷ []

abbrev pub load_head : ℕ → List ℕ
load_head k = codes "> load " ++ decimal k ++ codes " "

-- a command as it stands in the transcript, its words parted by single spaces
abbrev pub echo : SmallCommand → List ℕ
echo (Load k target) = load_head k ++ encode_utf8_all target ++ line_end
echo (Serve k m) = codes "> serve " ++ message_name k m ++ line_end
echo (Deliver k m) = codes "> deliver " ++ message_name k m ++ line_end

abbrev pub kind_word : Bool → List ℕ
kind_word true = codes " reply "
kind_word false = codes " request "

abbrev pub entry_head : ℕ → ℕ → Bool → List ℕ
entry_head k m is_reply = codes "message " ++ message_name k m ++ kind_word is_reply

-- the entry of a message: its name, its length in bytes, and its bytes
abbrev pub entry : ℕ → ℕ → Bool → List ℕ → List ℕ
entry k m is_reply bytes = entry_head k m is_reply ++ (decimal (length bytes) ++ line_end) ++ (bytes ++ line_end)

abbrev pub page_line : ℕ → List ℕ
page_line number = codes "page " ++ decimal number ++ codes " 2\nelement 1 0 p\ntext 2 1 \""

-- a page of one paragraph: its number, its two nodes
abbrev pub page_lines : ℕ → List ℕ → List ℕ
page_lines number text = page_line number ++ text ++ codes "\"\n"

abbrev pub failure_line : Failure → List ℕ
failure_line BadRequest = codes "failed 400 \"bad request\"\n"
failure_line NotFound = codes "failed 404 \"no such service\"\n"

-- what a client that has read so many pages writes of a reply, or of bytes that are none
abbrev pub reply_lines : ℕ → Option Reply → List ℕ
reply_lines pages (Some (reply.Page text)) = page_lines (pages + 1) (encode_utf8_all text)
reply_lines pages (Some (reply.Failure failure)) = failure_line failure
reply_lines pages None = codes "unreadable\n"

-- how many pages it is
abbrev pub pages_in : Option Reply → ℕ
pages_in (Some (reply.Page text)) = 1
pages_in (Some (reply.Failure failure)) = 0
pages_in None = 0

-- a command that finds nothing to act on, for a client that is there or not
abbrev pub skip_line : Bool → List ℕ
skip_line true = codes "skip no-message\n"
skip_line false = codes "skip no-client\n"

-- the last line, after so many commands
abbrev pub end_line : ℕ → List ℕ
end_line n = codes "end " ++ decimal n ++ line_end
