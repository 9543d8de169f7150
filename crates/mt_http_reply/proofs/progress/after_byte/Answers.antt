use Rattle.std.proofs.Common.{subst, sym}
use Rattle.mt_http_reply.specs.Reading.{HasNoHead, IsNoHead}
use Rattle.mt_http_reply.proofs.StreamSteps.{no_head_after}
use Rattle.mt_http_reply.proofs.progress.after_byte.Goals as goal

pub returns-clause-head : goal.returns-clause-head
returns-clause-head c = λ none.
    let said = rw c.items.ensures at c.in_ok-over.ensures.head in
    said (λ isnt. subst HasNoHead (sym c.in_ok-push.ensures.ok) (no_head_after c.args.bytes.now c.args.byte none (subst IsNoHead c.in_ok-push.ensures.ok isnt)))
