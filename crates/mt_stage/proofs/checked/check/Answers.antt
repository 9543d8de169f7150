use Rattle.mt_stage.proofs.BrokenPlaces.{accepted}
use Rattle.mt_stage.proofs.checked.check.Goals as goal

pub invariant_of-result : goal.invariant_of-result
invariant_of-result c = (accepted c.args.program c.in_ok-broken.field-0 c.requires c.in_ok-broken.ensures c.in-None.is, c.in_ok-services-in-None.ensures)

pub returns-in_ok-services-in-None-clause-accepted : goal.returns-in_ok-services-in-None-clause-accepted
returns-in_ok-services-in-None-clause-accepted c = accepted c.args.program c.in_ok-broken.field-0 c.requires c.in_ok-broken.ensures c.in-None.is
