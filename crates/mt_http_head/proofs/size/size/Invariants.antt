use Rattle.mt_http_head.proofs.Sizes.{Reads}
use Rattle.mt_http_head.proofs.size.size.Given as goal

abbrev pub invariant-loop-byte : goal.invariant-loop-byte
invariant-loop-byte l = Reads l.value l.byte-index l.number
