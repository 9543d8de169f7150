use Rattle.mt_http_stream.proofs.Steps.{over_post}
use Rattle.mt_http_stream.proofs.progress.behind_head.Goals as goal

pub returns-then-size-eq0 : goal.returns-then-size-eq0
returns-then-size-eq0 c = λ services fed begins.
    rw c.new.ensures (over_post services fed c.in-Post.service c.in-Post.size c.if-size-eq0.true (rw c.in-Post.is at begins))
