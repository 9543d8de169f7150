use Rattle.std.proofs.Common.{◌≡◌, ◌-◌}
use Rattle.std.specs.Vec.Iter.{into_iter_items}
use Rattle.mt_parser_builder.specs.Parts.{firsts}
use Rattle.mt_parser_builder.proofs.Taking.{with_front}
use Rattle.mt_parser_builder.proofs.rows.row.Given as goal

abbrev pub invariant-loop : goal.invariant-loop
invariant-loop g l = with_front l.made.items (firsts g.T.Item.taken (l.count - l.counter) (into_iter_items l.parts)) ≡ firsts g.T.Item.taken l.count (into_iter_items l.fn.parts)
