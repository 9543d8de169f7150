use Rattle.mt_outside.proofs.Given.{sent_still}
use Rattle.rows_outside.proofs.wire.taken.Goals as goal

pub rest-requires-clause-sent : goal.rest-requires-clause-sent
rest-requires-clause-sent c = sent_still _ _ _ _ _ _ c.in-Ok.ensures.taken c.requires.sent

pub part-requires-clause-sent : goal.part-requires-clause-sent
part-requires-clause-sent c = sent_still _ _ _ _ _ _ c.in-Err.ensures.err.took c.requires.sent
