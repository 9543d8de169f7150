use Rattle.std.proofs.Common.{take}
use Rattle.mt_http_stream.proofs.Steps.{Leads}
use Rattle.mt_http_stream.proofs.progress.Progress.after_all.Given as goal

abbrev pub invariant-loop-byte : goal.invariant-loop-byte
invariant-loop-byte l = Leads l.services l.fn.self (take l.byte-index l.piece) l.progress
