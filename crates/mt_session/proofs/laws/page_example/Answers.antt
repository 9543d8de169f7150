use Rattle.mt_session.proofs.WorkedExamples.{page_example}
use Rattle.mt_session.proofs.laws.page_example.Goals as goal

pub returns : goal.returns
returns c = page_example
