use Rattle.mt_small.proofs.Messages.{applications_are_small}
use Rattle.mt_small.proofs.message_laws.applications_are_small.Goals as goal

pub returns : goal.returns
returns c = applications_are_small
