use Rattle.std.proofs.Common.{◌≡◌, ◌++◌, ◌∷◌, codes, subst, append_assoc}
use Rattle.std.specs.Prelude.{OnOk}
use Rattle.mt_http_reply.specs.ReplyText.{head_start}
use Rattle.mt_http_reply.proofs.writer.append_head_start.Goals as goal

pub returns-clause-text : goal.returns-clause-text
unfolding head_start
returns-clause-text c =
    let whole : c.append-2.new.into.items ++ (13 ∷ 10 ∷ codes "Content-Length: ") ≡ c.args.into.now.items ++ head_start c.args.status c.args.content =
    rw (c.in_ok-append-2.ensures.text, c.media_type.ensures, c.in_ok-append.ensures.text, c.in_ok-append_status.ensures.text) (simp append_assoc) in
    subst (λ s. OnOk c.append-3.result (c.append-3.new.into.items ≡ s)) whole c.append-3.ensures.text
