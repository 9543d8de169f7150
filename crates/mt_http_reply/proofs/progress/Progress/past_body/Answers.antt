use Rattle.mt_http_reply.specs.Stream.{TakesBody}
use Rattle.mt_http_reply.specs.declared.progress.Progress.TheVariants.{Head, Past, Lost}
use Rattle.mt_http_reply.proofs.Moves.{less, over, nothing_yet, nothing_more, nothing_ever, stays}
use Rattle.mt_http_reply.proofs.progress.Progress.past_body.Goals as goal

pub returns-then-missing-size : goal.returns-then-missing-size
returns-then-missing-size c = rw c.in-Body.is (over c.in-Body.head c.in-Body.missing c.args.size c.if-missing-size.true)

pub returns-else-missing-size : goal.returns-else-missing-size
returns-else-missing-size c = rw c.in-Body.is (less c.in-Body.head c.in-Body.missing c.args.size c.if-missing-size.false)

pub returns-in-Head : goal.returns-in-Head
returns-in-Head c = rw c.in-Head.is (stays (TakesBody (Head c.in-Head.bytes) c.args.size) (Head c.in-Head.bytes) _ c.unmoved.ensures.progress c.unmoved.ensures.count (nothing_yet c.in-Head.bytes c.args.size))

pub returns-in-Past : goal.returns-in-Past
returns-in-Past c = rw c.in-Past.is (stays (TakesBody (Past c.in-Past.head) c.args.size) (Past c.in-Past.head) _ c.unmoved-in-Past.ensures.progress c.unmoved-in-Past.ensures.count (nothing_more c.in-Past.head c.args.size))

pub returns-in-Lost : goal.returns-in-Lost
returns-in-Lost c = rw c.in-Lost.is (stays (TakesBody Lost c.args.size) Lost _ c.unmoved-in-Lost.ensures.progress c.unmoved-in-Lost.ensures.count (nothing_ever c.args.size))
