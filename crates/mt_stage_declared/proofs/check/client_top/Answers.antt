use Rattle.std.proofs.Common.{◌∙◌, sym, ap}
use Rattle.mt_syntax.specs.First.{earlier_of, first_of}
use Rattle.mt_syntax.proofs.Order.{first_of_lists}
use Rattle.mt_stage_declared.specs.Declarations.{declared_in_tilde}
use Rattle.mt_stage_declared.specs.Repeated.{builtins_in, repeated}
use Rattle.mt_stage_declared.proofs.check.client_top.Goals as goal

pub returns : goal.returns
returns g c =
    let ds = declared_in_tilde c.args.body.now in
    c.earlier.ensures ∙ (λ i. earlier_of (c.in_ok-repeated.ensures i) ((c.in_statements.ensures ∙ ap (λ items. first_of (builtins_in (declared_in_tilde items))) c.items.ensures) i))
    ∙ sym (first_of_lists (repeated ds) (builtins_in ds))
