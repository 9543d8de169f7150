use Rattle.mt_http_head.proofs.Finding.{SplitsAt}
use Rattle.mt_http_head.proofs.target.split_target.Given as goal

abbrev pub invariant-loop-at : goal.invariant-loop-at
invariant-loop-at l = SplitsAt l.target l.at
