use Rattle.std.proofs.Common.{◌≡◌, All, length}
use Rattle.mt_events.specs.Dispatch.{arrival, advance}
use Rattle.mt_events.proofs.dispatch.Dispatch.next.Given as goal

abbrev pub invariant-nodes : goal.invariant-nodes
invariant-nodes g l = record {
  kind : l.self-inside.kind ≡ l.fn.self.0;
  elements : All (g.P.Page.is_element l.page) l.self-inside.path.items;
  turns : advance (arrival (g.P.Page.handles l.page) l.listeners l.fn.self.0) l.fn.self.1 l.fn.self.2
      ≡ advance (arrival (g.P.Page.handles l.page) l.listeners l.fn.self.0) l.self-inside.turns.items l.self-inside.path.items;
}

abbrev pub decreases-nodes : goal.decreases-nodes
decreases-nodes g l = length l.self-inside.path.items
