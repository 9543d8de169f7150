use Rattle.std.proofs.Common.{rules}
use Rattle.std.proofs.lemmas.Result.{err_from_is_err_and}
use Rattle.mt_page_tokens.proofs.AttributeTurns.{stops, goes, fails, ends}
use Rattle.mt_page_tokens.proofs.attributes.attributes.Goals as goal

pub returns-then-is_empty : goal.returns-then-is_empty
returns-then-is_empty c = stops c.loop.out.items _ c.loop.rest.now _ (search rules) c.loop.invariant

pub returns-in_err-found : goal.returns-in_err-found
returns-in_err-found c =
    let p = err_from_is_err_and c.from_residual.result c.from_residual.ensures.1 in
    rw (p.1, p.2) (fails c.in_err-found.field-0.0 c.loop.out.items c.args.turns c.loop.counter c.loop.rest.now _ c.loop-test.true (search rules) c.in_err-found.ensures c.loop.invariant)

pub loop-preserved : goal.loop-preserved
loop-preserved c = rw c.in_ok-push.ensures.items (goes c.loop.out.items c.args.turns c.loop.counter c.loop.rest.now c.in_ok-found.after.now c.in_ok-found.found _ c.loop-test.true (search rules) c.in_ok-found.ensures c.loop.invariant)

pub returns-then-is_empty-2 : goal.returns-then-is_empty-2
returns-then-is_empty-2 c = stops c.loop.out.items _ c.loop.rest.now _ (search rules) c.loop.invariant

pub returns-else-is_empty-2 : goal.returns-else-is_empty-2
returns-else-is_empty-2 c = ends c.loop.out.items c.args.turns c.loop.counter c.loop.rest.now _ c.loop-test.false (search rules) c.loop.invariant
