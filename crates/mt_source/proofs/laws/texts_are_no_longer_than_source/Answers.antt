use Rattle.mt_source.proofs.Short.{short}
use Rattle.mt_source.proofs.laws.texts_are_no_longer_than_source.Goals as goal

pub returns : goal.returns
returns c s end program answers = short s end program answers
