use Rattle.std.proofs.Common.{◌≡◌, ◌++◌, take}
use Rattle.mt_http_reply.specs.Reading.{HasNoHead}
use Rattle.mt_http_reply.proofs.progress.take_head.Given as goal

abbrev pub invariant-loop-at : goal.invariant-loop-at
invariant-loop-at l = (l.gathered ≡ l.fn.bytes ++ take l.at l.piece) × (HasNoHead l.fn.bytes → HasNoHead l.gathered)
