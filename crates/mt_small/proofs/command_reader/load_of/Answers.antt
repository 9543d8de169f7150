use Rattle.std.proofs.Common.{sym}
use Rattle.mt_small.proofs.PlainText.{target-utf8}
use Rattle.mt_small.proofs.command_reader.load_of.Goals as goal

pub utf8_text-requires : goal.utf8_text-requires
utf8_text-requires c = target-utf8 c.args.target.now (sym c.if-target_fits.ensures)
