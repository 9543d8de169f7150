use Rattle.std.proofs.Common.{◌≡◌, ◌∙◌, ◌<◌, ℕ, List, length, refl, sym, ap, ap₂, arith, eqb-true}
use Rattle.mt_tree.specs.declared.event.EventKind.{EventKind}
use Rattle.mt_events.specs.declared.turn.Turn.{Turn}
use Rattle.mt_events.specs.Dispatch.{turns_at, arrival}
use Rattle.mt_events.proofs.Steps.{arrives, of-others}
use Rattle.mt_events.proofs.dispatch.Dispatch.next.Goals as goal

pub nodes-preserved : goal.nodes-preserved
nodes-preserved g c =
    let arrive : ℕ → List Turn = arrival (g.P.Page.handles c.args.page.now) c.args.listeners.now c.args.self.now.0 in
    let kind : EventKind = c.nodes.self-inside.kind in
    let node : ℕ = c.in-Some.node.now in
    let turns : List Turn = c.nodes.self-inside.turns.items in
    let path : List ℕ = c.nodes.self-inside.path.items in
    let empty : c.nodes.self-inside.turns.len ≡ 0 = eqb-true _ _ (sym c.is_empty.ensures ∙ c.nodes-test.true) in
    let none : length turns ≡ 0 = omega (arith, empty, c.nodes.self-inside.turns.ok.0) in
    let filled = c.in-Some.ensures.variant.0 refl in
    let some : 0 < length path = omega (arith, filled, c.nodes.self-inside.path.ok.0) in
    let made : c.in_ok-self-inside.field-0.items ≡ arrive node = c.in_ok-self-inside.ensures
    ∙ ap₂ (λ h ls. turns_at h ls kind node) c.has_handler-handled.ensures c.list.ensures
    ∙ ap (λ k. turns_at (g.P.Page.handles c.args.page.now k node) c.args.listeners.now k node) c.nodes.invariant.kind in
    record {
      kind = c.nodes.invariant.kind;
      elements = of-others (g.P.Page.is_element c.args.page.now) path c.pop_front.new.self.items c.pop_front.ensures.rest c.nodes.invariant.elements;
      turns = c.nodes.invariant.turns
          ∙ arrives arrive turns c.in_ok-self-inside.field-0.items path c.pop_front.new.self.items node none some c.in-Some.ensures.lookup made c.pop_front.ensures.rest;
    }
