use Rattle.mt_outside.proofs.Given.{TookSome-none}
use Rattle.mt_outside.proofs.taking.take_piece.Goals as goal

pub returns-in-Err-clause-err : goal.returns-in-Err-clause-err
returns-in-Err-clause-err g c = TookSome-none _ _ _ c.in-Err.ensures.err
