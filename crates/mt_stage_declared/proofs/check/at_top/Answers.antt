use Rattle.std.proofs.Common.{◌∙◌, sym}
use Rattle.mt_syntax.specs.First.{earlier_of}
use Rattle.mt_syntax.proofs.Order.{first_of_lists}
use Rattle.mt_stage_declared.specs.Repeated.{builtins_in, repeated}
use Rattle.mt_stage_declared.proofs.check.at_top.Goals as goal

pub returns : goal.returns
returns c =
    c.earlier.ensures ∙ (λ i. earlier_of (c.in_ok-repeated.ensures i) (c.in_list.ensures i))
    ∙ sym (first_of_lists (repeated c.args.declared.now) (builtins_in c.args.declared.now))
