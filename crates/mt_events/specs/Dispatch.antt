-- The turns of handlers and listeners to which an event leads.
use Rattle.std.specs.Prelude.{◌||◌, ◌++◌, ℕ, Bool, false, List, [], ◌∷◌, map, filter, if◌then◌else◌, Option, Some, None}
use Rattle.mt_tree.specs.declared.event.EventKind.{EventKind}
use Rattle.mt_events.specs.declared.turn.Turn.{Turn}
use Rattle.mt_events.specs.declared.turn.Turn.TheVariants as turn
use Rattle.mt_events.specs.declared.listeners.Listener.{Listener}
use Rattle.mt_events.specs.Listeners.{listens}

-- the turns of those that listen for a kind on a node, in the order of adding
abbrev pub listened : ℕ → EventKind → List Listener → List Turn
listened node kind ls = map (λ l. turn.Listener node l.function) (filter (listens node kind) ls)

-- the turns of a node: its handler attribute, where it has one, and then its listeners
abbrev pub turns_at : Bool → List Listener → EventKind → ℕ → List Turn
turns_at handled ls kind node = (if handled then turn.Handler node ∷ [] else []) ++ listened node kind ls

-- the turns of a node as an event arrives at it: which nodes have a handler attribute is a property of the page
abbrev pub arrival : (EventKind → ℕ → Bool) → List Listener → EventKind → ℕ → List Turn
arrival handles ls kind node = turns_at (handles kind node) ls kind node

-- the next turn, the turns that are then left, and the nodes that are then to come: the first turn that is left, or else the first
-- one of the next node that has any as the dispatch arrives there
abbrev pub advance : (ℕ → List Turn) → List Turn → List ℕ → Option Turn × List Turn × List ℕ
advance arrive (t ∷ left) path = (Some t, left, path)
advance arrive [] [] = (None, [], [])
advance arrive [] (node ∷ path) = advance arrive (arrive node) path

-- ---- a whole dispatch in a world W: a turn changes the world, and tells whether it stops the later nodes

-- a turn, and then what it leads to
abbrev pub turn_first : {W : Type 0} → Turn → W × List Turn → W × List Turn
turn_first t later = (later.0, t ∷ later.1)

-- the world after these turns, and whether one of them stops
abbrev pub acted : {W : Type 0} → (W → Turn → W × Bool) → W → List Turn → W × Bool
acted act w [] = (w, false)
acted act w (t ∷ ts) = ((acted act (act w t).0 ts).0, (act w t).1 || (acted act (act w t).0 ts).1)

-- the world in the end, and all turns: these, and those of later nodes unless one of these stops
abbrev pub and_then : {W : Type 0} → W × Bool → List Turn → (W → W × List Turn) → W × List Turn
and_then done ts later = if done.1 then (done.0, ts) else ((later done.0).0, ts ++ (later done.0).1)

-- along the path that is fixed at the start, the turns of each node as the world is on arrival
abbrev pub along : {W : Type 0} → (W → ℕ → List Turn) → (W → Turn → W × Bool) → W → List ℕ → W × List Turn
along arrive act w [] = (w, [])
along arrive act w (node ∷ path) = and_then (acted act w (arrive w node)) (arrive w node) (λ v. along arrive act v path)

-- what is to come where these turns are left, and then these nodes
abbrev pub to_come : {W : Type 0} → (W → ℕ → List Turn) → (W → Turn → W × Bool) → W → List Turn → List ℕ → W × List Turn
to_come arrive act w left path = and_then (acted act w left) left (λ v. along arrive act v path)
