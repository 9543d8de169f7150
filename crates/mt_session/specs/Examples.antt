-- Two transcripts written out, of an application whose service hello gives a page with the text hi.
use Rattle.std.specs.Prelude.{◌++◌, ℕ, List, [], ◌∷◌, codes}
use Rattle.mt_small.specs.declared.command.SmallCommand.{SmallCommand}
use Rattle.mt_small.specs.declared.command.SmallCommand.TheVariants.{Load, Serve, Deliver}
use Rattle.mt_small.specs.Wire.{crlf}

-- a load, and its page
abbrev pub page_commands : List SmallCommand
page_commands = Load 1 (codes "/hop/hello") ∷ Serve 1 1 ∷ Deliver 1 1 ∷ []

unfoldable pub page_transcript : List ℕ
page_transcript =
    codes "> load 1 /hop/hello\nmessage 1.1 request 63\n"
    ++ codes "GET /hop/hello HTTP/1.1" ++ crlf ++ codes "Host: localhost" ++ crlf ++ codes "Connection: close" ++ crlf ++ crlf
    ++ codes "\n> serve 1.1\nmessage 1.1 reply 122\n"
    ++ codes "HTTP/1.1 200 OK" ++ crlf ++ codes "Content-Type: text/html; charset=utf-8" ++ crlf
    ++ codes "Content-Length: 24" ++ crlf ++ codes "Connection: close" ++ crlf ++ crlf ++ codes "<!DOCTYPE html><p>hi</p>"
    ++ codes "\n> deliver 1.1\npage 1 2\nelement 1 0 p\ntext 2 1 \"hi\"\nend 3\n"

-- a load of a name that no service has, with commands that find nothing to act on
abbrev pub refused_commands : List SmallCommand
refused_commands = Serve 2 1 ∷ Load 1 (codes "/hop/nobody") ∷ Serve 1 1 ∷ Serve 1 1 ∷ Deliver 1 1 ∷ []

unfoldable pub refused_transcript : List ℕ
refused_transcript =
    codes "> serve 2.1\nskip no-client\n> load 1 /hop/nobody\nmessage 1.1 request 64\n"
    ++ codes "GET /hop/nobody HTTP/1.1" ++ crlf ++ codes "Host: localhost" ++ crlf ++ codes "Connection: close" ++ crlf ++ crlf
    ++ codes "\n> serve 1.1\nmessage 1.1 reply 121\n"
    ++ codes "HTTP/1.1 404 Not Found" ++ crlf ++ codes "Content-Type: text/plain; charset=utf-8" ++ crlf
    ++ codes "Content-Length: 15" ++ crlf ++ codes "Connection: close" ++ crlf ++ crlf ++ codes "no such service"
    ++ codes "\n> serve 1.1\nskip no-message\n> deliver 1.1\nfailed 404 \"no such service\"\nend 5\n"
