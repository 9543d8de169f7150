use Rattle.std.proofs.Common.{get_or, refl, arith}
use Rattle.mt_http_reply.proofs.Moves.{goes_on, ends, all_of_it}
use Rattle.mt_http_reply.proofs.progress.take_head.Goals as goal

pub loop-at-preserved : goal.loop-at-preserved
loop-at-preserved c =
    goes_on c.args.bytes c.args.piece.now c.loop-at.gathered c.after_byte.new.bytes c.loop-at.at (get_or c.args.piece.now c.loop-at.at 0)
    c.loop-at-test.true refl c.loop-at.invariant c.in_ok-progress.ensures.bytes
    (λ none. let said = c.in_ok-progress.ensures.head none in rw c.in_default.is at said)

pub returns-in-Some : goal.returns-in-Some
returns-in-Some c =
    ends c.args.bytes c.args.piece.now c.loop-at.gathered c.after_byte.new.bytes c.loop-at.at (get_or c.args.piece.now c.loop-at.at 0) c.in-Some.progress
    c.loop-at-test.true refl c.loop-at.invariant c.in_ok-progress.ensures.bytes
    (λ none. let said = c.in_ok-progress.ensures.head none in rw c.in-Some.is at said)
    (rw c.in-Some.is at c.in_ok-progress.ensures.behind)

pub returns : goal.returns
returns c = all_of_it c.args.bytes c.args.piece.now c.loop-at.gathered c.loop-at.at (omega arith) c.loop-at.invariant
