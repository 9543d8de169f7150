use Rattle.mt_small.proofs.Applications.{one-application}
use Rattle.mt_small.proofs.reader_laws.one_application.Goals as goal

pub returns : goal.returns
returns c = one-application
