use Rattle.std.proofs.Common.{take, subst}
use Rattle.std.proofs.lemmas.Result.{err_from_is_err_and}
use Rattle.std.specs.Io.{StartsWith}
use Rattle.std.specs.List.{flat_map}
use Rattle.mt_tree.proofs.Fronts.{front_of_front}
use Rattle.mt_page_write.specs.Written.{attribute_written}
use Rattle.mt_page_write.proofs.closures.append_attributes.Goals as goal

pub returns-in_err-append_closure_attribute-clause-kept : goal.returns-in_err-append_closure_attribute-clause-kept
returns-in_err-append_closure_attribute-clause-kept c =
    let p = err_from_is_err_and c.from_residual.result c.from_residual.ensures.1 in
    let new = c.append_closure_attribute.new.into.items in
    let before = flat_map (attribute_written c.args.tildes.now) (take c.loop-attribute.attribute-index c.args.attributes.now) in
    rw p.1 (front_of_front c.args.into.now.items before new (subst (λ s. StartsWith new s) c.loop-attribute.invariant c.in_err-append_closure_attribute.ensures.kept))
