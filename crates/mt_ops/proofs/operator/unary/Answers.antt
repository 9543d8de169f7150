use Rattle.mt_ops.specs.Operators.{unary_of}
use Rattle.mt_ops.proofs.Lawfulness.{answer_lawful, unary_lawful}
use Rattle.mt_ops.proofs.operator.unary.Goals as goal

pub returns-clause-meant : goal.returns-clause-meant
returns-clause-meant c = c.settle.ensures (unary_of c.args.op c.args.operand.now) c.unary_value.ensures

pub returns-clause-lawful : goal.returns-clause-lawful
returns-clause-lawful c =
    let meant = unary_of c.args.op c.args.operand.now in
    λ lawful operand. answer_lawful c.settle.result meant c.args.store.now c.settle.new.store (c.settle.ensures meant c.unary_value.ensures) (unary_lawful c.args.store.now c.args.op c.args.operand.now operand) lawful
