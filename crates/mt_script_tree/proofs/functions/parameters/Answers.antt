use Rattle.std.proofs.Common.{length}
use Rattle.std.proofs.lemmas.Result.{err_from_is_err_and}
use Rattle.mt_json.proofs.Many.{goes, stops, ends}
use Rattle.mt_script_words.proofs.Many.{fails}
use Rattle.mt_script_words.specs.Words.{mark_at}
use Rattle.mt_script_tree.specs.Lists.{item_step, list_by}
use Rattle.mt_script_tree.proofs.functions.parameters.Goals as goal

pub returns-in_err-next : goal.returns-in_err-next
returns-in_err-next c =
    let p = err_from_is_err_and c.from_residual.result c.from_residual.ensures.1 in
    rw (p.1, p.2) (fails c.in_err-next.field-0.0 (item_step 41 mark_at) c.loop.found.items (length c.args.bytes.now) c.loop.counter c.loop.rest.now (list_by 41 mark_at c.args.bytes.now) c.loop-test.true c.in_err-next.ensures c.loop.invariant)

pub returns-in-None : goal.returns-in-None
returns-in-None c = rw c.in_ok-from_vec-in-None.ensures (stops (item_step 41 mark_at) c.loop.found.items (length c.args.bytes.now) c.loop.counter c.loop.rest.now c.in_ok-next.after.now (list_by 41 mark_at c.args.bytes.now) c.loop-test.true (rw c.in-None.is at c.in_ok-next.ensures) c.loop.invariant)

pub loop-preserved : goal.loop-preserved
loop-preserved c = rw c.in_ok-push-in-Some.ensures.items (goes (item_step 41 mark_at) c.loop.found.items (length c.args.bytes.now) c.loop.counter c.loop.rest.now c.in-Some.name c.in_ok-next.after.now (list_by 41 mark_at c.args.bytes.now) c.loop-test.true (rw c.in-Some.is at c.in_ok-next.ensures) c.loop.invariant)

pub returns : goal.returns
returns c = ends (item_step 41 mark_at) c.loop.found.items (length c.args.bytes.now) c.loop.counter c.loop.rest.now (list_by 41 mark_at c.args.bytes.now) c.loop-test.false c.loop.invariant
