use Rattle.mt_ops.proofs.Lawfulness.{answer_lawful}
use Rattle.mt_ops_properties.specs.Properties as spec
use Rattle.mt_ops_properties.proofs.Lawfulness.{property_lawful}
use Rattle.mt_ops_properties.proofs.property.get_property.Goals as goal

pub returns-clause-meant : goal.returns-clause-meant
returns-clause-meant c = c.settle.ensures (spec.property c.args.store.now c.args.base.now c.args.key.now) c.property-answer.ensures

pub returns-clause-lawful : goal.returns-clause-lawful
returns-clause-lawful c =
    let store = c.args.store.now in
    let meant = spec.property store c.args.base.now c.args.key.now in
    λ lawful base.
    answer_lawful c.settle.result meant store c.settle.new.store (c.settle.ensures meant c.property-answer.ensures)
    (property_lawful store c.args.base.now c.args.key.now lawful base) lawful
