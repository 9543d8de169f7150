use Rattle.std.proofs.Common.{◌++◌, ◌-◌, length, take, drop}
use Rattle.mt_http_reply.proofs.Moves.{moves, rest_of}
use Rattle.mt_http_reply.proofs.stream.ReplyStream.feed.Goals as goal

pub returns-clause-fed : goal.returns-clause-fed
returns-clause-fed c = λ fed kept.
    let piece = c.args.piece.now in
    let head = c.in_ok-head.head in
    let step = moves c.args.self.now.progress piece head c.past_body-body.result (take (length piece - head.count) (drop head.count piece)) (rest_of piece head.count)
    (rw c.replace-progress.ensures.value at c.in_ok-head.ensures) c.past_body-body.ensures in
    rw c.put.ensures (step.fed fed kept)

pub returns-clause-body : goal.returns-clause-body
returns-clause-body c = λ fed body kept has.
    let piece = c.args.piece.now in
    let head = c.in_ok-head.head in
    let step = moves c.args.self.now.progress piece head c.past_body-body.result (take (length piece - head.count) (drop head.count piece)) (rest_of piece head.count)
    (rw c.replace-progress.ensures.value at c.in_ok-head.ensures) c.past_body-body.ensures in
    step.body fed body kept has

pub returns-clause-decided : goal.returns-clause-decided
returns-clause-decided c = λ e fed kept.
    let piece = c.args.piece.now in
    let head = c.in_ok-head.head in
    let step = moves c.args.self.now.progress piece head c.past_body-body.result (take (length piece - head.count) (drop head.count piece)) (rest_of piece head.count)
    (rw c.replace-progress.ensures.value at c.in_ok-head.ensures) c.past_body-body.ensures in
    c.feed-feed.ensures e (fed ++ piece) (step.fed fed kept)
