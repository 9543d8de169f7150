use Rattle.std.proofs.Common.{◌++◌, flat_map, ap, ◌∙◌, sym}
use Rattle.mt_syntax.specs.First.{earlier_of, first_of}
use Rattle.mt_syntax.proofs.Order.{first_of_lists}
use Rattle.mt_stage_declared.specs.Declarations.{declared_in_file}
use Rattle.mt_stage_declared.specs.Twice.{twice_at_top, twice_in_row, twice_in_tilde}
use Rattle.mt_stage_declared.proofs.Counts.{first_in_row}
use Rattle.mt_stage_declared.proofs.check.declared_twice.Goals as goal

pub returns : goal.returns
returns c =
    let p = c.args.program.now in
    let rest =
    c.earlier.ensures ∙ (λ i. earlier_of ((c.in_ok-inner.ensures ∙ sym (first_in_row p.items)) i) ((c.in_ok-client.ensures ∙ ap (λ ts. first_of (flat_map twice_in_tilde ts)) c.items.ensures) i))
    ∙ sym (first_of_lists (twice_in_row p.items) (flat_map twice_in_tilde p.tildes)) in
    c.earlier-2.ensures ∙ (λ i. earlier_of (c.in_ok-top.ensures i) (rest i))
    ∙ sym (first_of_lists (twice_at_top (declared_in_file p.items)) (twice_in_row p.items ++ flat_map twice_in_tilde p.tildes))
