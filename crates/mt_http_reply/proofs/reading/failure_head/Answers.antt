use Rattle.mt_http_types.specs.declared.reply.Content.TheVariants.{Plain}
use Rattle.mt_http_reply.specs.Reading.{HasNoHeadWith}
use Rattle.mt_http_reply.specs.ReplyText.{failure_statuses}
use Rattle.mt_http_reply.proofs.Moves.{each_more, no_failure}
use Rattle.mt_http_reply.proofs.reading.failure_head.Goals as goal

pub loop-status-preserved : goal.loop-status-preserved
loop-status-preserved c =
    each_more (λ status. HasNoHeadWith Plain status c.args.bytes.now) failure_statuses c.loop-status.status-index c.loop-status-test.true c.loop-status.invariant
    (rw c.in_default.is at c.in_ok-head.ensures)

pub returns : goal.returns
returns c = no_failure c.args.bytes.now c.loop-status.status-index c.loop-status-test.false c.loop-status.invariant
