use Rattle.mt_page_read.proofs.Finish.{no_beginning}
use Rattle.mt_page_read.proofs.laws.no_page_begins_another.Goals as goal

pub returns : goal.returns
returns c = no_beginning
