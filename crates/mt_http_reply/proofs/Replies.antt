-- No two replies have one text, and none's text is a proper prefix of another's.
use Rattle.std.proofs.Common.{◌≡◌, ℕ, List, [], ◌++◌, length, sym, ap, ◌∙◌, arith, append_assoc}
use Rattle.std.proofs.lemmas.List.{append-nil, length-append, nil_from_length}
use Rattle.mt_http_types.specs.declared.reply.Reply.{Reply}
use Rattle.mt_http_types.specs.declared.reply.ReplyHead.{ReplyHead}
use Rattle.mt_http_reply.specs.ReplyText.{head_of, head_text, reply_text, IsReply}
use Rattle.mt_http_reply.specs.Reading.{BeginsNoReply, IsNoReply}
use Rattle.mt_http_reply.proofs.Heads.{one_head}

pub one_text : (a b : Reply) (more : List ℕ) → IsReply a → IsReply b → reply_text b ≡ reply_text a ++ more → (a ≡ b) × (more ≡ [])
one_text a b more first second same =
    let parts = one_head (head_of b) (head_of a) b.body (a.body ++ more) second first (same ∙ append_assoc (head_text (head_of a)) a.body more) in
    let sizes : length b.body ≡ length a.body = ap (λ (h : ReplyHead). h.length) parts.0 in
    let none : length more ≡ 0 = omega (arith, ap length parts.1, length-append a.body more) in
    let nothing : more ≡ [] = nil_from_length more none in
    let bodies : a.body ≡ b.body = sym (parts.1 ∙ ap (λ (l : List ℕ). a.body ++ l) nothing ∙ append-nil a.body) in (
      ap (λ (h : ReplyHead). record { status = h.status; content = h.content; body = a.body }) (sym parts.0)
          ∙ ap (λ (l : List ℕ). record { status = b.status; content = b.content; body = l }) bodies,
      nothing,
    )

pub none_behind : (bytes more : List ℕ) → BeginsNoReply bytes → IsNoReply (bytes ++ more)
none_behind bytes more none reply good is = none reply more good is
