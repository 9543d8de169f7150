use Rattle.mt_session.proofs.WorkedExamples.{refused_example}
use Rattle.mt_session.proofs.laws.refused_example.Goals as goal

pub returns : goal.returns
returns c = refused_example
