use Rattle.std.specs.Option.{option_copied}
use Rattle.mt_eval_meaning.specs.Slots.{parts}
use Rattle.mt_statements.proofs.Nodes.{of_var, of_if, of_for, of_return, of_block}
use Rattle.mt_statements.proofs.statements.Statements.form.Goals as goal

pub returns-in-Var : goal.returns-in-Var
returns-in-Var g c =
    let l = c.args.self.now.level in
    rw (of_var l.functions.now (parts l.functions.now g.H.Host.meaning l.calls l.depth) c.args.activation.now (c.args.state.now, c.args.host.now) c.args.t.now c.in-Var.kind c.in-Var.decls c.items.result.now c.in-Var.is c.items.ensures)
    c.var.ensures

pub returns-in-If : goal.returns-in-If
returns-in-If g c =
    let l = c.args.self.now.level in
    rw (of_if l.functions.now (parts l.functions.now g.H.Host.meaning l.calls l.depth) c.args.activation.now (c.args.state.now, c.args.host.now) c.args.t.now c.in-If.test c.in-If.a c.get.result.now c.in-If.b (option_copied c.as_ref.result) c.in-If.is c.get.ensures c.as_ref.ensures.value)
    c.choice.ensures

pub returns-in-For : goal.returns-in-For
returns-in-For g c =
    let l = c.args.self.now.level in
    rw (of_for l.functions.now (parts l.functions.now g.H.Host.meaning l.calls l.depth) c.args.activation.now (c.args.state.now, c.args.host.now) c.args.t.now c.in-For.start c.in-For.test (option_copied c.as_ref-in-For.result) c.in-For.step (option_copied c.as_ref-in-For-2.result) c.in-For.body c.get-in-For.result.now c.in-For.is c.as_ref-in-For.ensures.value c.as_ref-in-For-2.ensures.value c.get-in-For.ensures)
    c.for_loop.ensures

pub returns-in-Return : goal.returns-in-Return
returns-in-Return g c =
    let l = c.args.self.now.level in
    rw (of_return l.functions.now (parts l.functions.now g.H.Host.meaning l.calls l.depth) c.args.activation.now (c.args.state.now, c.args.host.now) c.args.t.now c.in-Return.e (option_copied c.as_ref-in-Return.result) c.in-Return.is c.as_ref-in-Return.ensures.value)
    c.returned.ensures

pub returns-in-Block : goal.returns-in-Block
returns-in-Block g c =
    let l = c.args.self.now.level in
    rw (of_block l.functions.now (parts l.functions.now g.H.Host.meaning l.calls l.depth) c.args.activation.now (c.args.state.now, c.args.host.now) c.args.t.now c.in-Block.names c.in-Block.items c.items-in-Block.result.now c.in-Block.is c.items-in-Block.ensures)
    c.block.ensures
