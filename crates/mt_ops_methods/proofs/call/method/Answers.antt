use Rattle.std.proofs.Common.{◌≡◌, IfOk, subst, sym}
use Rattle.mt_ops_methods.proofs.Lawfulness.{text_lawful}
use Rattle.mt_ops_methods.specs.Methods.{method}
use Rattle.mt_ops_methods.specs.Texts.{text_method}
use Rattle.mt_ops.proofs.Lawfulness.{answer_lawful}
use Rattle.mt_ops.specs.Errors.{settled}
use Rattle.mt_value.specs.Lawful.{LawfulValue}
use Rattle.mt_ops_methods.proofs.call.method.Goals as goal

pub returns-in-Text-clause-meant : goal.returns-in-Text-clause-meant
unfolding method
returns-in-Text-clause-meant c =
    let key = c.args.key.now in
    let arguments = c.args.arguments.now in
    let store = c.args.store.now in
    let new = c.settle.new.store in
    subst (λ base. IfOk c.settle.result (λ outcome. (outcome, new) ≡ method base key arguments store)) (sym c.in-Text.is)
    (subst (λ m. IfOk c.settle.result (λ outcome. (outcome, new) ≡ settled (text_method c.in-Text.text m key arguments) store)) c.named.ensures (c.settle.ensures _ c.text_method-answer.ensures))

pub returns-in-Text-clause-lawful : goal.returns-in-Text-clause-lawful
returns-in-Text-clause-lawful c = λ lawful base arguments.
    let store = c.args.store.now in
    let meant = text_method c.in-Text.text c.named.result c.args.key.now c.args.arguments.now in
    answer_lawful c.settle.result meant store c.settle.new.store (c.settle.ensures meant c.text_method-answer.ensures)
    (text_lawful store c.in-Text.text c.named.result c.args.key.now c.args.arguments.now (subst (LawfulValue store) c.in-Text.is base)) lawful
