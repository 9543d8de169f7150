use Rattle.mt_page_read.proofs.Finish.{same_page}
use Rattle.mt_page_read.proofs.laws.one_page_each.Goals as goal

pub returns : goal.returns
returns c = same_page
