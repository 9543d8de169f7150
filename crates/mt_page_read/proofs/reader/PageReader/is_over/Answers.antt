use Rattle.mt_page_read.proofs.Finish.{over_begins}
use Rattle.mt_page_read.proofs.reader.PageReader.is_over.Goals as goal

pub returns-in-Some : goal.returns-in-Some
returns-in-Some c over whole fed h = over_begins whole fed c.args.self.now c.in-Some.machine c.in-Some.is (c.is_over.ensures over) h
