use Rattle.std.proofs.Common.{not, map, take, ap, ◌∙◌}
use Rattle.std.specs.Str.{encode_utf8_all}
use Rattle.mt_tree.specs.Tables.{is_among}
use Rattle.mt_syntax.specs.First.{earlier_of}
use Rattle.mt_syntax.specs.Joining.{first}
use Rattle.mt_syntax.specs.declared.rule.Rule.TheVariants as rule
use Rattle.mt_syntax.specs.Fold.{on_markup_attribute}
use Rattle.mt_stage_placement.specs.Forms.{broken_if, finding_forms, names_of}
use Rattle.mt_stage_placement.proofs.Twice.{found_next, not_not, set_next, spelled}
use Rattle.mt_stage_placement.proofs.forms.repeats.repeated.Goals as goal

pub loop-item-preserved : goal.loop-item-preserved
loop-item-preserved c =
    let behind = names_of first (map (on_markup_attribute (finding_forms first)) (take c.loop-item.item-index c.args.items.now)) in
    let value = c.as_str.ensures.bytes ∙ ap (λ m. encode_utf8_all m.name) c.name_of-name.ensures in
    let again = ap not c.in-Ok.ensures.added ∙ not_not (is_among (spelled behind)) c.loop-item.names.keys c.as_str.result (c.loop-item.invariant.1 c.as_str.result) ∙ ap (is_among (spelled behind)) value in
    let here = c.broken_if.ensures ∙ ap (λ m. broken_if first (not c.in-Ok.new) rule.S12 m.place) c.name_of-name.ensures in (
      c.earlier-found.ensures ∙ ap (earlier_of c.loop-item.found) here
          ∙ found_next (on_markup_attribute (finding_forms first)) c.args.items.now c.loop-item.item-index c.item-item.result c.loop-item.found (not c.in-Ok.new) c.item-item.is c.loop-item-test.true c.loop-item.invariant.0 again,
      set_next (on_markup_attribute (finding_forms first)) c.args.items.now c.loop-item.item-index c.item-item.result c.loop-item.names.keys c.insert.new.self.keys c.as_str.result.now c.item-item.is c.loop-item-test.true
          c.loop-item.invariant.1 value c.in-Ok.ensures.updates.0,
    )
