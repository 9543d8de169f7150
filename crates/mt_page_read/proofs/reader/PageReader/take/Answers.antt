use Rattle.std.proofs.Common.{refl}
use Rattle.mt_page_read.proofs.Finish.{fed_more, fed_none}
use Rattle.mt_page_read.proofs.reader.PageReader.take.Goals as goal

pub returns-in_ok-take-in-Some : goal.returns-in_ok-take-in-Some
returns-in_ok-take-in-Some c whole fed h =
    fed_more whole fed c.args.piece.now c.args.self.now _ c.in-Some.machine c.take.new.self c.requires c.in_ok-take-in-Some.ensures c.in-Some.is refl refl h

pub returns-in-None : goal.returns-in-None
returns-in-None c whole fed h = fed_none whole fed c.args.piece.now c.args.self.now _ c.in-None.is c.in-None.is h
