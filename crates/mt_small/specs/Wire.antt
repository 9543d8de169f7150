-- The messages between a client and the server, and their bytes in HTTP/1.1.
use Rattle.std.specs.Prelude.{◌≤◌, ◌+◌, ◌++◌, ℕ, List, [], ◌∷◌, length, codes, decimal, encode_utf8_all}
use Rattle.mt_small.specs.declared.message.Failure.{Failure}
use Rattle.mt_small.specs.declared.message.Failure.TheVariants.{BadRequest, NotFound}
use Rattle.mt_small.specs.declared.message.Reply.{Reply}
use Rattle.mt_small.specs.declared.message.Reply.TheVariants as reply

abbrev pub crlf : List ℕ
crlf = 13 ∷ 10 ∷ []

abbrev pub load_front : List ℕ
load_front = codes "GET "

unfoldable pub load_back : List ℕ
load_back = codes " HTTP/1.1" ++ crlf ++ codes "Host: localhost" ++ crlf ++ codes "Connection: close" ++ crlf ++ crlf

-- the request of a page, by its target in UTF-8
abbrev pub load_wire : List ℕ → List ℕ
load_wire target = load_front ++ target ++ load_back

unfoldable pub page_front : List ℕ
page_front = codes "HTTP/1.1 200 OK" ++ crlf ++ codes "Content-Type: text/html; charset=utf-8" ++ crlf ++ codes "Content-Length: "

unfoldable pub page_middle : List ℕ
page_middle = crlf ++ codes "Connection: close" ++ crlf ++ crlf ++ codes "<!DOCTYPE html><p>"

abbrev pub page_back : List ℕ
page_back = codes "</p>"

-- all that stands before the text of a page, whose body has 22 bytes beside it
abbrev pub page_head : ℕ → List ℕ
page_head size = page_front ++ decimal (size + 22) ++ page_middle

-- the reply with a page, by its text in UTF-8
abbrev pub page_wire : List ℕ → List ℕ
page_wire text = page_head (length text) ++ text ++ page_back

unfoldable pub not_found_wire : List ℕ
not_found_wire =
    codes "HTTP/1.1 404 Not Found" ++ crlf ++ codes "Content-Type: text/plain; charset=utf-8" ++ crlf
    ++ codes "Content-Length: 15" ++ crlf ++ codes "Connection: close" ++ crlf ++ crlf ++ codes "no such service"

unfoldable pub bad_request_wire : List ℕ
bad_request_wire =
    codes "HTTP/1.1 400 Bad Request" ++ crlf ++ codes "Content-Type: text/plain; charset=utf-8" ++ crlf
    ++ codes "Content-Length: 11" ++ crlf ++ codes "Connection: close" ++ crlf ++ crlf ++ codes "bad request"

abbrev pub failure_wire : Failure → List ℕ
failure_wire BadRequest = bad_request_wire
failure_wire NotFound = not_found_wire

abbrev pub reply_wire : Reply → List ℕ
reply_wire (reply.Page text) = page_wire (encode_utf8_all text)
reply_wire (reply.Failure failure) = failure_wire failure

-- a message as it was meant, before it is bytes
pub data Message : Type 0 where
  request : List ℕ → Message
  answer : Reply → Message

-- its bytes; a request is given by its target
abbrev pub wire : Message → List ℕ
wire (request target) = load_wire (encode_utf8_all target)
wire (answer r) = reply_wire r

-- a reply whose page has at most 1,000,000 bytes of text
abbrev pub IsShort : Reply → Type 0
IsShort (reply.Page text) = length (encode_utf8_all text) ≤ 1000000
IsShort (reply.Failure failure) = Unit {0}
