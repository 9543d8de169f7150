use Rattle.std.proofs.Common.{[], ◌∙◌}
use Rattle.mt_page_read.proofs.Finish.{held_as, none_held}
use Rattle.mt_page_read.proofs.reader.PageReader.held.Goals as goal

pub returns-in-Some : goal.returns-in-Some
returns-in-Some c whole fed more page h p e = c.items.ensures ∙ held_as whole fed more page c.args.self.now c.in-Some.machine c.in-Some.is h p e

pub returns-in-None : goal.returns-in-None
returns-in-None c whole fed more page h p e = none_held whole fed more [] page c.args.self.now c.in-None.is h p e
