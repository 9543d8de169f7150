use Rattle.mt_gen_laws.proofs.Read.{schedule-read}
use Rattle.mt_gen_laws.proofs.laws.generated_schedule_is_read.Goals as goal

pub returns : goal.returns
returns c = schedule-read
