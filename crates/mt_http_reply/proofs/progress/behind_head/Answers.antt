use Rattle.std.proofs.Common.{arith}
use Rattle.mt_http_reply.proofs.StreamSteps.{none_follows, nothing_of_it}
use Rattle.mt_http_reply.proofs.progress.behind_head.Goals as goal

pub returns-then-bytes-lt-HEAD_LIMIT-clause-head : goal.returns-then-bytes-lt-HEAD_LIMIT-clause-head
returns-then-bytes-lt-HEAD_LIMIT-clause-head c = λ before. before (rw c.in_default.is at c.in_ok-head.ensures)

pub returns-else-bytes-lt-HEAD_LIMIT-clause-head : goal.returns-else-bytes-lt-HEAD_LIMIT-clause-head
returns-else-bytes-lt-HEAD_LIMIT-clause-head c = λ before.
    let none = before (rw c.in_default.is at c.in_ok-head.ensures) in
    record {
      fed = none_follows c.args.bytes.now none (omega arith);
      body = nothing_of_it c.args.bytes.now none;
    }
