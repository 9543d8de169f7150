use Rattle.mt_small.proofs.Messages.{answers_are_readable}
use Rattle.mt_small.proofs.message_laws.answers_are_readable.Goals as goal

pub returns : goal.returns
returns c = answers_are_readable
