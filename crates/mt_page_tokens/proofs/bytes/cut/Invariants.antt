use Rattle.mt_page_tokens.proofs.Loops.{Cuts}
use Rattle.mt_page_tokens.proofs.bytes.cut.Given as goal

abbrev pub invariant-loop-i : goal.invariant-loop-i
invariant-loop-i l = Cuts l.stop l.bytes l.i
