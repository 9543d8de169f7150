use Rattle.std.proofs.Common.{sym, ◌∙◌}
use Rattle.mt_syntax.specs.First.{earlier_of}
use Rattle.mt_stage_placement.specs.Placement.{misplaced}
use Rattle.mt_stage_declared.specs.Twice.{declared_twice}
use Rattle.mt_stage_scopes.specs.Misused.{misused_names}
use Rattle.mt_stage.proofs.BrokenPlaces.{first_of_three}
use Rattle.mt_stage.proofs.checked.first_broken.Goals as goal

pub returns : goal.returns
returns c =
    let names = c.earlier.ensures ∙ (λ i. earlier_of (c.in_ok-twice.ensures i) (c.in_ok-misused.ensures i)) in
    c.earlier-2.ensures ∙ (λ i. earlier_of (c.in_ok-misplaced.ensures i) (names i))
    ∙ sym (first_of_three (misplaced c.args.program.now) (declared_twice c.args.program.now) (misused_names c.args.program.now))
