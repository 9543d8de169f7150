use Rattle.std.proofs.Common.{arith, rules, ◌∙◌}
use Rattle.mt_outside.proofs.Known.{append_known-piece, GrewByPrefix-take, OnErr_any}
use Rattle.mt_outside.proofs.writing.write_all.Goals as goal

pub returns-in_err-n-clause-err : goal.returns-in_err-n-clause-err
returns-in_err-n-clause-err g c =
    OnErr_any _ (GrewByPrefix-take _ _ _ c.loop-at.at (c.in_err-n.ensures.bytes ∙ c.loop-at.invariant.held))

pub loop-at-preserved : goal.loop-at-preserved
loop-at-preserved g c = record {
  inside = search rules;
  held = append_known-piece _ _ _ _ c.loop-at.at c.in_ok-n.n c.loop-at.invariant.held c.in_ok-n.ensures.bytes;
  later = omega (arith, c.in_ok-n.ensures.cause.later, c.loop-at.invariant.later);
}
