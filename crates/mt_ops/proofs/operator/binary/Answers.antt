use Rattle.mt_ops.specs.Operators.{binary_of}
use Rattle.mt_ops.proofs.Lawfulness.{answer_lawful, binary_lawful}
use Rattle.mt_ops.proofs.operator.binary.Goals as goal

pub returns-clause-meant : goal.returns-clause-meant
returns-clause-meant c = c.settle.ensures (binary_of c.args.op c.args.left.now c.args.right.now) c.binary_value.ensures

pub returns-clause-lawful : goal.returns-clause-lawful
returns-clause-lawful c =
    let meant = binary_of c.args.op c.args.left.now c.args.right.now in
    λ lawful. answer_lawful c.settle.result meant c.args.store.now c.settle.new.store (c.settle.ensures meant c.binary_value.ensures) (binary_lawful c.args.store.now c.args.op c.args.left.now c.args.right.now) lawful
