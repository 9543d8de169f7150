use Rattle.std.proofs.Common.{◌≡◌, [], map, take}
use Rattle.mt_syntax.specs.Joining.{first}
use Rattle.mt_syntax.specs.Fold.{on_markup_attribute}
use Rattle.mt_stage_placement.specs.Forms.{finding_forms, names_of, repeated_behind}
use Rattle.mt_stage_placement.proofs.Twice.{IsSame}
use Rattle.mt_stage_placement.proofs.forms.repeats.repeated.Given as goal

abbrev pub invariant-loop-item : goal.invariant-loop-item
invariant-loop-item l =
    let behind = names_of first (map (on_markup_attribute (finding_forms first)) (take l.item-index l.items)) in
    (l.found ≡ repeated_behind first [] behind) × IsSame l.names.keys behind
