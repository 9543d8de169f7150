use Rattle.std.proofs.lemmas.Result.{err_from_is_err_and}
use Rattle.std.specs.Vec.Iter.{into_iter_items}
use Rattle.mt_parser_builder.specs.Parts.{firsts}
use Rattle.mt_parser_builder.proofs.Taking.{goes_on, ends, is_done}
use Rattle.mt_parser_builder.proofs.rows.row.Goals as goal

pub returns-in_err-take_first : goal.returns-in_err-take_first
returns-in_err-take_first g c =
    let p = err_from_is_err_and c.from_residual.result c.from_residual.ensures.1 in
    rw (p.1, p.2) (ends c.in_err-take_first.field-0.0 g.T.Item.taken c.loop.made.items c.args.count c.loop.counter (into_iter_items c.loop.parts) (into_iter_items c.take_first.new.parts) (into_iter_items c.take_first.new.parts)
    (firsts g.T.Item.taken c.args.count (into_iter_items c.args.parts.now)) c.loop-test.true c.in_err-take_first.ensures c.loop.invariant)

pub loop-preserved : goal.loop-preserved
loop-preserved g c =
    rw c.in_ok-push.ensures.ok (goes_on g.T.Item.taken c.loop.made.items c.args.count c.loop.counter (into_iter_items c.loop.parts) _ _ (firsts g.T.Item.taken c.args.count (into_iter_items c.args.parts.now)) c.loop-test.true c.in_ok-take_first.ensures c.loop.invariant)

pub returns : goal.returns
returns g c =
    rw c.in_ok-from_vec.ensures (is_done g.T.Item.taken c.loop.made.items c.args.count c.loop.counter (into_iter_items c.loop.parts) (firsts g.T.Item.taken c.args.count (into_iter_items c.args.parts.now)) c.loop-test.false c.loop.invariant)
