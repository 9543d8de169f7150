use Rattle.mt_events.proofs.Turns.{goes-on}
use Rattle.mt_events.proofs.laws.dispatch_goes_on.Goals as goal

pub returns : goal.returns
returns g c = goes-on
