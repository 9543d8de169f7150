use Rattle.std.proofs.Common.{sym, ◌∙◌}
use Rattle.mt_syntax.specs.First.{earlier_of}
use Rattle.mt_stage_placement.proofs.FirstPlace.{program_is_first}
use Rattle.mt_stage_placement.proofs.program.first_misplaced.Goals as goal

pub returns : goal.returns
returns c = c.earlier.ensures ∙ (λ i. earlier_of (c.in_ok-items.ensures i) (c.in_ok-tildes.ensures i)) ∙ sym (program_is_first c.args.program.now)
