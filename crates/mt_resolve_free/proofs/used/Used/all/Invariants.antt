use Rattle.std.proofs.Common.{◌≡◌}
use Rattle.mt_eval_meaning.specs.Free.{joined, none}
use Rattle.mt_syntax.specs.Gathering.{all_of}
use Rattle.mt_resolve_free.proofs.used.Used.all.Given as goal

abbrev pub invariant-loop-used : goal.invariant-loop-used
invariant-loop-used l = l.all ≡ all_of none joined l.yielded
