-- Replies in HTTP/1.1 (RFC 9112), in bytes.
use Rattle.std.specs.Prelude.{◌≡◌, ℕ, ◌≤◌, ◌==◌, Bool, true, List, [], ◌∷◌, ◌++◌, length, codes, decimal, if◌then◌else◌}
use Rattle.std.specs.List.{list_any}
use Rattle.mt_http_types.specs.declared.reply.Content.{Content}
use Rattle.mt_http_types.specs.declared.reply.Content.TheVariants.{Html, Json, Plain}
use Rattle.mt_http_types.specs.declared.reply.Reply.{Reply}
use Rattle.mt_http_types.specs.declared.reply.ReplyHead.{ReplyHead}
use Rattle.mt_http_types.specs.Lines.{crlf, line}

-- the statuses of failures
abbrev pub failure_statuses : List ℕ
failure_statuses = 400 ∷ 404 ∷ 405 ∷ 411 ∷ 413 ∷ 431 ∷ 500 ∷ 501 ∷ []

-- a page, a fragment and data come with status 200, and a failure with one of the others
abbrev pub is_status_of : Content → ℕ → Bool
is_status_of Html status = status == 200
is_status_of Json status = status == 200
is_status_of Plain status = list_any (λ failure. failure == status) failure_statuses

-- the most bytes of a body
abbrev pub body_limit : ℕ
body_limit = 4194304

-- the head of a reply of the language
pub record IsReplyHead (head : ReplyHead) : Type 0 where
  pub status : is_status_of head.content head.status ≡ true
  pub length : head.length ≤ body_limit

abbrev pub head_of : Reply → ReplyHead
head_of reply = record { status = reply.status; content = reply.content; length = length reply.body }

-- a reply of the language
abbrev pub IsReply : Reply → Type 0
IsReply reply = IsReplyHead (head_of reply)

-- the reason phrase of each of the statuses
abbrev pub phrase : ℕ → List ℕ
phrase status =
    if status == 200 then codes "OK" else
    if status == 400 then codes "Bad Request" else
    if status == 404 then codes "Not Found" else
    if status == 405 then codes "Method Not Allowed" else
    if status == 411 then codes "Length Required" else
    if status == 413 then codes "Payload Too Large" else
    if status == 431 then codes "Request Header Fields Too Large" else
    if status == 500 then codes "Internal Server Error" else codes "Not Implemented"

abbrev pub media_type : Content → List ℕ
media_type Html = codes "text/html; charset=utf-8"
media_type Json = codes "application/json"
media_type Plain = codes "text/plain; charset=utf-8"

-- with 405 stand the methods that there are
abbrev pub allowed_methods : ℕ → List ℕ → List ℕ
allowed_methods status more = if status == 405 then line (codes "Allow: GET, POST") more else more

abbrev pub status_line : ℕ → List ℕ
status_line status = codes "HTTP/1.1 " ++ (decimal status ++ 32 ∷ phrase status)

-- what stands in a head before the length of the body
unfoldable pub head_start : ℕ → Content → List ℕ
head_start status content =
    line (status_line status) (line (codes "Content-Type: " ++ media_type content) (codes "Content-Length: "))

-- what stands behind it
unfoldable pub head_end : ℕ → List ℕ
head_end status = crlf ++ allowed_methods status (line (codes "Connection: close") crlf)

abbrev pub head_text : ReplyHead → List ℕ
head_text head = head_start head.status head.content ++ (decimal head.length ++ head_end head.status)

abbrev pub reply_text : Reply → List ℕ
reply_text reply = head_text (head_of reply) ++ reply.body
