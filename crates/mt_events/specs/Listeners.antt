-- Who listens on the nodes of a page, in the order of adding.
use Rattle.std.specs.Prelude.{◌&&◌, ◌++◌, ◌==◌, ℕ, Bool, true, false, not, List, [], ◌∷◌, filter, if◌then◌else◌}
use Rattle.std.specs.List.{list_any}
use Rattle.mt_tree.specs.declared.event.EventKind.{EventKind}
use Rattle.mt_tree.specs.declared.event.EventKind.TheVariants as kind
use Rattle.mt_events.specs.declared.listeners.Listener.{Listener}

abbrev pub kind_eq : EventKind → EventKind → Bool
kind_eq kind.Click kind.Click = true
kind_eq kind.Click kind.Input = false
kind_eq kind.Click kind.Change = false
kind_eq kind.Input kind.Click = false
kind_eq kind.Input kind.Input = true
kind_eq kind.Input kind.Change = false
kind_eq kind.Change kind.Click = false
kind_eq kind.Change kind.Input = false
kind_eq kind.Change kind.Change = true

-- whether it hears events of this kind on this node
abbrev pub listens : ℕ → EventKind → Listener → Bool
listens node kind l = (l.node == node) && kind_eq l.kind kind

-- whether two listeners are the same
abbrev pub is_listener : Listener → Listener → Bool
is_listener wanted l = listens wanted.node wanted.kind l && (l.function == wanted.function)

-- a listener goes last, unless it is there
abbrev pub added : Listener → List Listener → List Listener
added wanted ls = if list_any (is_listener wanted) ls then ls else ls ++ wanted ∷ []

abbrev pub dropped : Listener → List Listener → List Listener
dropped wanted ls = filter (λ l. not (is_listener wanted l)) ls
