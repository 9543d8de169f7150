use Rattle.std.proofs.Common.{◌≡◌, ◌++◌, take}
use Rattle.mt_events.specs.Dispatch.{listened}
use Rattle.mt_events.proofs.dispatch.add_turns.Given as goal

abbrev pub invariant-loop-listener : goal.invariant-loop-listener
invariant-loop-listener l = l.turns.items ≡ l.fn.turns.items ++ listened l.node l.kind (take l.listener-index l.listeners)
