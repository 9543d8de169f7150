use Rattle.std.proofs.Common.{[], ◌++◌, ◌∷◌, length, ◌∙◌, sym}
use Rattle.std.proofs.lemmas.Result.{err_from_is_err_and}
use Rattle.mt_json.proofs.Many.{goes}
use Rattle.mt_script_words.specs.Literals.{piece_at, pieces_at}
use Rattle.mt_script_words.proofs.Pieces.{one_more, string_ends, string_fails, string_stops}
use Rattle.mt_script_words.proofs.literals.string.Goals as goal

pub returns-in_err-next : goal.returns-in_err-next
returns-in_err-next c =
    let p = err_from_is_err_and c.from_residual.result c.from_residual.ensures.1 in
    let so_far = c.loop.invariant in
    rw (p.1, p.2) (string_fails c.args.bytes.now so_far.0 c.loop.counter c.loop.rest.now so_far.2 c.in_err-next.field-0.0 c.loop-test.true c.in_err-next.ensures)

pub returns-in-None : goal.returns-in-None
returns-in-None c =
    let so_far = c.loop.invariant in
    string_stops c.args.bytes.now so_far.0 c.loop.counter c.loop.rest.now so_far.2 c.loop.out.items c.in_ok-next.after.now c.loop-test.true (rw c.in-None.is at c.in_ok-next.ensures) so_far.1

pub loop-preserved : goal.loop-preserved
loop-preserved c =
    let so_far = c.loop.invariant in (
      so_far.0 ++ c.in-Some.found ∷ [],
      one_more so_far.0 c.in-Some.found c.loop.out.items so_far.1 ∙ sym c.in_ok-append_piece-in-Some.ensures,
      goes piece_at so_far.0 (length c.args.bytes.now) c.loop.counter c.loop.rest.now c.in-Some.found c.in_ok-next.after.now (pieces_at c.args.bytes.now) c.loop-test.true (rw c.in-Some.is at c.in_ok-next.ensures) so_far.2,
    )

pub returns : goal.returns
returns c = let so_far = c.loop.invariant in string_ends c.args.bytes.now so_far.0 c.loop.counter c.loop.rest.now so_far.2 c.loop-test.false
