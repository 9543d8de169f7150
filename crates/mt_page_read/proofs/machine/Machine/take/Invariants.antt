use Rattle.std.proofs.Common.{◌≡◌, drop}
use Rattle.mt_page_read.specs.Machine.{run}
use Rattle.mt_page_read.proofs.machine.Machine.take.Given as goal

abbrev pub invariant-loop-byte : goal.invariant-loop-byte
invariant-loop-byte l = run (drop l.byte-index l.piece) l.self ≡ run l.piece l.fn.self
