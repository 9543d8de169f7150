-- What is known of a reply when a part of its bytes is there.
use Rattle.std.specs.Prelude.{◌≡◌, ◌-◌, ◌+◌, ◌⊎◌, ℕ, List, [], ◌++◌, length, take, drop}
use Rattle.mt_http_types.specs.declared.reply.Content.{Content}
use Rattle.mt_http_types.specs.declared.reply.Reply.{Reply}
use Rattle.mt_http_types.specs.declared.reply.ReplyHead.{ReplyHead}
use Rattle.mt_http_reply.specs.ReplyText.{head_text, head_of, reply_text, IsReply, IsReplyHead}

-- the bytes are this head, and then these
abbrev pub ReadsHead : List ℕ → ReplyHead → List ℕ → Type 0
ReadsHead bytes head rest = IsReplyHead head × (bytes ≡ head_text head ++ rest)

-- no reply's head is whole among the bytes
abbrev pub HasNoHead : List ℕ → Type 0
HasNoHead bytes = (head : ReplyHead) (rest : List ℕ) → ReadsHead bytes head rest → ⊥

-- a reply's head is whole among the bytes, and it is this one
abbrev pub HasHead : List ℕ → ReplyHead → Type 0
HasHead bytes head = (rest : List ℕ) × ReadsHead bytes head rest

-- these bytes of the body are there, of which a head tells how many there may be
abbrev pub HasBody : List ℕ → List ℕ → Type 0
HasBody bytes body =
    (HasNoHead bytes × (body ≡ []))
    ⊎ ((head : ReplyHead) × (rest : List ℕ) × ReadsHead bytes head rest × (body ≡ take head.length rest))

-- no reply's text begins with the bytes
abbrev pub BeginsNoReply : List ℕ → Type 0
BeginsNoReply bytes = (reply : Reply) (more : List ℕ) → IsReply reply → reply_text reply ≡ bytes ++ more → ⊥

-- the bytes are the text of a reply with this head
abbrev pub IsReplyWith : List ℕ → ReplyHead → Type 0
IsReplyWith bytes head = (reply : Reply) × IsReply reply × (reply_text reply ≡ bytes) × (head_of reply ≡ head)

-- the bytes are no reply's text
abbrev pub IsNoReply : List ℕ → Type 0
IsNoReply bytes = (reply : Reply) → IsReply reply → reply_text reply ≡ bytes → ⊥

-- ---- how a head is read

-- what stands between a front and a back of so many bytes
abbrev pub between : ℕ → ℕ → List ℕ → List ℕ
between front back bytes = take (length bytes - (front + back)) (drop front bytes)

-- the bytes are this head
abbrev pub IsHeadWith : List ℕ → ReplyHead → Type 0
IsHeadWith bytes head = IsReplyHead head × (head_text head ≡ bytes)

-- they are no head
abbrev pub IsNoHead : List ℕ → Type 0
IsNoHead bytes = (head : ReplyHead) → IsReplyHead head → head_text head ≡ bytes → ⊥

-- they are no head with this content and this status
abbrev pub HasNoHeadWith : Content → ℕ → List ℕ → Type 0
HasNoHeadWith content status bytes =
    (head : ReplyHead) → IsReplyHead head → head.content ≡ content → head.status ≡ status → head_text head ≡ bytes → ⊥

-- they are no head with this content
abbrev pub HasNoHeadOf : Content → List ℕ → Type 0
HasNoHeadOf content bytes = (head : ReplyHead) → IsReplyHead head → head.content ≡ content → head_text head ≡ bytes → ⊥
