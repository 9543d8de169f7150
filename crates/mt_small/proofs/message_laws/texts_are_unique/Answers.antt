use Rattle.mt_small.proofs.Messages.{texts_are_unique}
use Rattle.mt_small.proofs.message_laws.texts_are_unique.Goals as goal

pub returns : goal.returns
returns c = texts_are_unique
