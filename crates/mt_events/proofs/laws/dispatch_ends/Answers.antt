use Rattle.mt_events.proofs.Turns.{ends}
use Rattle.mt_events.proofs.laws.dispatch_ends.Goals as goal

pub returns : goal.returns
returns g c = ends
