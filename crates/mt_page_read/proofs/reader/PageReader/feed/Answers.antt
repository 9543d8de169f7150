use Rattle.std.proofs.Common.{◌++◌, refl}
use Rattle.mt_page_read.proofs.Finish.{fed_over, fed_past}
use Rattle.mt_page_read.proofs.reader.PageReader.feed.Goals as goal

pub returns-then-piece-self : goal.returns-then-piece-self
returns-then-piece-self c whole fed h = fed_past whole fed c.args.piece.now c.args.self.now _ c.if-piece-self.true refl h

pub returns-then-is_over : goal.returns-then-is_over
returns-then-is_over c whole fed h = fed_over whole (fed ++ c.args.piece.now) _ refl (c.is_over.ensures c.if-is_over.true whole (fed ++ c.args.piece.now) (c.in_ok-take.ensures whole fed h))
