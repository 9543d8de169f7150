use Rattle.mt_parser_machine.proofs.Offending.{offending}
use Rattle.mt_parser_machine.proofs.laws.refused_is_offending.Goals as goal

pub returns : goal.returns
returns c = offending c.refused_begins_no_program.ensures c.unrefused_begins_some_program.ensures c.derived_is_read.ensures
