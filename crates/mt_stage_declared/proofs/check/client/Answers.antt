use Rattle.std.proofs.Common.{◌∙◌, sym}
use Rattle.mt_syntax.specs.First.{earlier_of}
use Rattle.mt_syntax.proofs.Order.{first_of_lists}
use Rattle.mt_stage_declared.specs.Declarations.{declared_in_tilde}
use Rattle.mt_stage_declared.specs.Twice.{twice_at_top, twice_in_row}
use Rattle.mt_stage_declared.proofs.Counts.{first_in_row}
use Rattle.mt_stage_declared.proofs.check.client.Goals as goal

pub returns : goal.returns
returns g c =
    c.earlier.ensures ∙ (λ i. earlier_of (c.in_ok-top.ensures i) ((c.in_ok-inner.ensures ∙ sym (first_in_row c.args.body.now)) i))
    ∙ sym (first_of_lists (twice_at_top (declared_in_tilde c.args.body.now)) (twice_in_row c.args.body.now))
