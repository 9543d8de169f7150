use Rattle.std.proofs.Common.{◌≡◌, replicate, rules}
use Rattle.mt_outside.proofs.Counts.{count-fresh}
use Rattle.mt_outside.proofs.memory_files.MemoryFiles.new.Goals as goal

pub returns-in-Ok-clause-faults : goal.returns-in-Ok-clause-faults
returns-in-Ok-clause-faults c = λ name.
    let fresh : c.in-Ok.counts.items ≡ replicate c.len.result 0 = search rules in
    rw fresh (count-fresh _ _ name)
