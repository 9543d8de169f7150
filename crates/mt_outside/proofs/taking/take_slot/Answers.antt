use Rattle.std.proofs.Common.{rules, arith, ◌≢◌, refl, sym, ◌∙◌, length}
use Rattle.mt_outside.proofs.Known.{OnErr_any}
use Rattle.mt_outside.proofs.Given.{given_start, given_step, TookSome-step, sent_still, is_end_no, is_end_yes}
use Rattle.mt_outside.proofs.taking.take_slot.Goals as goal

pub pieces-init : goal.pieces-init
pieces-init g c = record {
  fits = omega (arith, c.new-bytes.ensures.len);
  mode = refl;
  taken = rw c.new-bytes.ensures.items (given_start c.args.slot _);
  later = omega arith;
}

pub take_piece-requires-clause-sent : goal.take_piece-requires-clause-sent
take_piece-requires-clause-sent g c = sent_still _ _ _ _ _ _ c.pieces.invariant.taken c.requires.sent

pub returns-in_err-count-clause-err : goal.returns-in_err-count-clause-err
returns-in_err-count-clause-err g c =
    OnErr_any _ (TookSome-step _ _ _ _ _ c.pieces.invariant.taken c.in_err-count.ensures.err)

pub returns-then-count-eq0-clause-taken : goal.returns-then-count-eq0-clause-taken
returns-then-count-eq0-clause-taken g c =
    let room : length c.take_piece.new.into ≢ 0 = search rules in
    rw (c.in_ok-count.ensures.grown, sym (is_end_yes c.in_ok-count.count c.take_piece.new.into c.if-count-eq0.true room))
    (given_step _ _ _ _ _ _ _ c.pieces.invariant.taken c.in_ok-count.ensures.taken)

pub pieces-preserved : goal.pieces-preserved
pieces-preserved g c = record {
  fits = search rules;
  mode = c.in_ok-count.ensures.mode ∙ c.pieces.invariant.mode;
  taken =
      rw (c.in_ok-count.ensures.grown, sym (is_end_no c.in_ok-count.count c.take_piece.new.into c.if-count-eq0.false))
      (given_step _ _ _ _ _ _ _ c.pieces.invariant.taken c.in_ok-count.ensures.taken);
  later = omega (arith, c.in_ok-count.ensures.cause.later, c.pieces.invariant.later);
}
