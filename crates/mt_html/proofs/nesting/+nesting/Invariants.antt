use Rattle.std.proofs.Common.{◌≡◌, drop, map, nat_lt}
use Rattle.mt_html.specs.Nesting.{greatest, nesting}
use Rattle.mt_html.proofs.nesting.+nesting.Given as goal

abbrev pub invariant-any_deeper-loop-item : goal.invariant-any_deeper-loop-item
invariant-any_deeper-loop-item l = nat_lt l.levels (greatest (map nesting (drop l.item-index l.items))) ≡ nat_lt l.levels (greatest (map nesting l.items))
