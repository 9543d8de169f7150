use Rattle.std.proofs.Common.{false, [], Some, refl}
use Rattle.mt_page_read.proofs.Finish.{of_machine}
use Rattle.mt_page_read.proofs.reader.PageReader.fragment.Goals as goal

pub returns : goal.returns
returns c = of_machine false [] _ (Some c.new.result) refl (c.new.ensures, refl)
