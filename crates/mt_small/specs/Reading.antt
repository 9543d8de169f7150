-- What the server and the client read of any bytes.
use Rattle.std.specs.Prelude.{◌&&◌, ◌+◌, ◌-◌, ◌++◌, ℕ, Bool, List, length, take, drop, encode_utf8_all, if◌then◌else◌, Option, None, Some}
use Rattle.std.specs.Str.{bytes_eq, chars}
use Rattle.mt_small.specs.declared.application.Small.{Small}
use Rattle.mt_small.specs.declared.message.Failure.{Failure}
use Rattle.mt_small.specs.declared.message.Failure.TheVariants.{BadRequest, NotFound}
use Rattle.mt_small.specs.declared.message.Asked.{Asked}
use Rattle.mt_small.specs.declared.message.Asked.TheVariants as asked
use Rattle.mt_small.specs.declared.message.Reply.{Reply}
use Rattle.mt_small.specs.declared.message.Reply.TheVariants as reply
use Rattle.mt_small.specs.Name.{hop, is_target}
use Rattle.mt_small.specs.Paragraph.{is_paragraph}
use Rattle.mt_small.specs.Wire.{load_front, load_back, load_wire, page_front, page_middle, page_back, page_wire, not_found_wire, bad_request_wire}

-- what stands between a front of so many bytes and a back of so many
abbrev pub between : ℕ → ℕ → List ℕ → List ℕ
between front back bytes = take (length bytes - (front + back)) (drop front bytes)

-- the target that stands in a request
abbrev pub target_in : List ℕ → List ℕ
target_in bytes = between (length load_front) (length load_back) bytes

-- the target of the request that these bytes are, where they are one
abbrev pub request_in : List ℕ → Option (List ℕ)
request_in bytes =
    if is_target (target_in bytes) && bytes_eq bytes (load_wire (target_in bytes)) then Some (target_in bytes) else None

-- how the server takes a request: by the target in UTF-8, or None where there is no request
abbrev pub understood : Small → Option (List ℕ) → Asked
understood small None = asked.Refused BadRequest
understood small (Some target) =
    if bytes_eq target (hop ++ encode_utf8_all small.service) then asked.Page else asked.Refused NotFound

-- how the server takes any bytes
abbrev pub reads_request : Small → List ℕ → Asked
reads_request small bytes = understood small (request_in bytes)

-- what the server answers
abbrev pub server_job : Small → Asked → Reply
server_job small asked.Page = reply.Page small.text
server_job small (asked.Refused failure) = reply.Failure failure

-- the text that stands in a page whose length is written in so many digits
abbrev pub text_in : ℕ → List ℕ → List ℕ
text_in digits bytes = between (length page_front + digits + length page_middle) (length page_back) bytes

-- whether these bytes are the page of a text
abbrev pub is_page_of : List ℕ → List ℕ → Bool
is_page_of bytes text = is_paragraph text && bytes_eq bytes (page_wire text)

-- the text of the page that these bytes are, where they are one; a length has two to four digits
abbrev pub page_in : List ℕ → Option (List ℕ)
page_in bytes =
    if is_page_of bytes (text_in 2 bytes) then Some (text_in 2 bytes)
    else if is_page_of bytes (text_in 3 bytes) then Some (text_in 3 bytes)
    else if is_page_of bytes (text_in 4 bytes) then Some (text_in 4 bytes)
    else None

-- the failure that these bytes are, where they are one
abbrev pub failure_in : List ℕ → Option Failure
failure_in bytes =
    if bytes_eq bytes not_found_wire then Some NotFound
    else if bytes_eq bytes bad_request_wire then Some BadRequest
    else None

abbrev pub reply_from : Option (List ℕ) → Option Failure → Option Reply
reply_from (Some text) failure = Some (reply.Page (chars text))
reply_from None (Some failure) = Some (reply.Failure failure)
reply_from None None = None

-- the one reply whose bytes these are, where there is one
abbrev pub reads_reply : List ℕ → Option Reply
reads_reply bytes = reply_from (page_in bytes) (failure_in bytes)
