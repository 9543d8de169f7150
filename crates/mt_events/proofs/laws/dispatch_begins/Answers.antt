use Rattle.mt_events.proofs.Turns.{begins}
use Rattle.mt_events.proofs.laws.dispatch_begins.Goals as goal

pub returns : goal.returns
returns g c = begins
