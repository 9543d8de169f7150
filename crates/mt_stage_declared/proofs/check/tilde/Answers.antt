use Rattle.std.proofs.Common.{◌∙◌, sym}
use Rattle.mt_syntax.specs.First.{earlier_of}
use Rattle.mt_syntax.proofs.Order.{first_of_lists}
use Rattle.mt_stage_declared.specs.Twice.{twice_in_client, twice_in_row_of}
use Rattle.mt_stage_declared.proofs.Counts.{first_in_exprs}
use Rattle.mt_stage_declared.proofs.check.tilde.Goals as goal

pub returns : goal.returns
returns g c =
    c.earlier.ensures ∙ (λ i. earlier_of (c.in_ok-body.ensures i) ((c.in_ok-dollars.ensures ∙ sym (first_in_exprs c.args.from.now.dollars)) i))
    ∙ sym (first_of_lists (twice_in_client c.args.from.now.body) (twice_in_row_of c.args.from.now.dollars))
