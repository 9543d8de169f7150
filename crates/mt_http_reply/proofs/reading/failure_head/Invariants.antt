use Rattle.std.proofs.Common.{take}
use Rattle.std.specs.List.{AllByRecursion}
use Rattle.mt_http_types.specs.declared.reply.Content.TheVariants.{Plain}
use Rattle.mt_http_reply.specs.Reading.{HasNoHeadWith}
use Rattle.mt_http_reply.specs.ReplyText.{failure_statuses}
use Rattle.mt_http_reply.proofs.reading.failure_head.Given as goal

abbrev pub invariant-loop-status : goal.invariant-loop-status
invariant-loop-status l = AllByRecursion (λ status. HasNoHeadWith Plain status l.bytes) (take l.status-index failure_statuses)
