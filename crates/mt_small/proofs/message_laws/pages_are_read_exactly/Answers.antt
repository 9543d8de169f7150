use Rattle.mt_small.proofs.Pages.{page_in_is}
use Rattle.mt_small.proofs.message_laws.pages_are_read_exactly.Goals as goal

pub returns : goal.returns
returns c = page_in_is
