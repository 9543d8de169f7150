use Rattle.mt_small.proofs.Messages.{texts_are_short}
use Rattle.mt_small.proofs.message_laws.texts_are_short.Goals as goal

pub returns : goal.returns
returns c = texts_are_short
