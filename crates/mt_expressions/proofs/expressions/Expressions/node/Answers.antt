use Rattle.mt_eval_meaning.specs.Slots.{parts}
use Rattle.mt_expressions.proofs.Nodes.{of_array, of_object, of_call, of_tilde, of_element}
use Rattle.mt_expressions.proofs.expressions.Expressions.node.Goals as goal

pub returns-in-Arr : goal.returns-in-Arr
returns-in-Arr g c =
    let l = c.args.self.now.level in
    rw (of_array l.functions.now (parts l.functions.now g.H.Host.meaning l.calls l.depth) c.args.activation.now (c.args.state.now, c.args.host.now) c.args.e.now c.in-Arr.items c.items.result.now c.in-Arr.is c.items.ensures)
    c.array.ensures

pub returns-in-Obj : goal.returns-in-Obj
returns-in-Obj g c =
    let l = c.args.self.now.level in
    rw (of_object l.functions.now (parts l.functions.now g.H.Host.meaning l.calls l.depth) c.args.activation.now (c.args.state.now, c.args.host.now) c.args.e.now c.in-Obj.entries c.items-in-Obj.result.now c.in-Obj.is c.items-in-Obj.ensures)
    c.object.ensures

pub returns-in-Call : goal.returns-in-Call
returns-in-Call g c =
    let l = c.args.self.now.level in
    rw (of_call l.functions.now (parts l.functions.now g.H.Host.meaning l.calls l.depth) c.args.activation.now (c.args.state.now, c.args.host.now) c.args.e.now c.in-Call.f c.get-in-Call.result.now c.in-Call.arguments c.items-in-Call.result.now c.in-Call.is c.get-in-Call.ensures c.items-in-Call.ensures)
    c.call.ensures

pub returns-in-Tilde : goal.returns-in-Tilde
returns-in-Tilde g c =
    let l = c.args.self.now.level in
    rw (of_tilde l.functions.now (parts l.functions.now g.H.Host.meaning l.calls l.depth) c.args.activation.now (c.args.state.now, c.args.host.now) c.args.e.now c.in-Tilde.id c.in-Tilde.dollars c.items-in-Tilde.result.now c.in-Tilde.is c.items-in-Tilde.ensures)
    c.tilde.ensures

pub returns-in-Element : goal.returns-in-Element
returns-in-Element g c =
    let l = c.args.self.now.level in
    rw (of_element l.functions.now (parts l.functions.now g.H.Host.meaning l.calls l.depth) c.args.activation.now (c.args.state.now, c.args.host.now) c.args.e.now c.in-Element.tag c.in-Element.attributes c.items-in-Element.result.now c.in-Element.children c.items-in-Element-2.result.now c.in-Element.is c.items-in-Element.ensures c.items-in-Element-2.ensures)
    c.element.ensures
