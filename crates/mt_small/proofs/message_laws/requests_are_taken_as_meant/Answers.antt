use Rattle.mt_small.proofs.Messages.{requests_read_as_meant}
use Rattle.mt_small.proofs.message_laws.requests_are_taken_as_meant.Goals as goal

pub returns : goal.returns
returns c = requests_read_as_meant
