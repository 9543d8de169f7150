use Rattle.std.proofs.Common.{arith}
use Rattle.mt_parser_machine.proofs.Tags.{nothing_left}
use Rattle.mt_parser_machine.proofs.tag.tag_name.Goals as goal

pub returns-else-sign-text : goal.returns-else-sign-text
returns-else-sign-text c = nothing_left c.args.text.now c.args.sign (omega arith)
