use Rattle.std.proofs.Common.{sym, ap}
use Rattle.mt_syntax.specs.First.{first_of}
use Rattle.mt_stage_declared.proofs.Alike.{variables_repeat_none}
use Rattle.mt_stage_declared.proofs.search.by_comparison.repeated_in_variables.Goals as goal

pub returns : goal.returns
returns c = ap first_of (sym (variables_repeat_none c.args._from.now))
