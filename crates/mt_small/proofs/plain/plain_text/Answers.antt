use Rattle.mt_small.proofs.PlainText.{utf8}
use Rattle.mt_small.proofs.plain.plain_text.Goals as goal

pub utf8_text-requires : goal.utf8_text-requires
utf8_text-requires c = utf8 c.args.bytes.now c.requires
