use Rattle.std.proofs.Common.{drop}
use Rattle.mt_html.proofs.Runs.{Run}
use Rattle.mt_html.proofs.size.any_long.Given as goal

abbrev pub invariant-loop-child : goal.invariant-loop-child
invariant-loop-child l = Run l.children (drop l.child-index l.children) l.units
