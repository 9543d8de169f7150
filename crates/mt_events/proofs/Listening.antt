-- Who listens among more listeners.
use Rattle.std.proofs.Common.{◌≡◌, ◌∙◌, ◌<◌, ◌+◌, ◌++◌, ℕ, List, [], ◌∷◌, ap, get_or, length, map, take}
use Rattle.std.specs.List.{filter}
use Rattle.std.proofs.lemmas.List.{map-append, take_more}
use Rattle.std.proofs.lemmas.List.Elements.{filter-append}
use Rattle.mt_tree.specs.declared.event.EventKind.{EventKind}
use Rattle.mt_events.specs.declared.turn.Turn.TheVariants as turn
use Rattle.mt_events.specs.declared.listeners.Listener.{Listener}
use Rattle.mt_events.specs.Listeners.{listens}
use Rattle.mt_events.specs.Dispatch.{listened}

listened-append : (node : ℕ) (kind : EventKind) (xs ys : List Listener) → listened node kind (xs ++ ys) ≡ listened node kind xs ++ listened node kind ys
listened-append node kind xs ys =
    ap (map (λ l. turn.Listener node l.function)) (filter-append (listens node kind) xs ys)
    ∙ map-append (λ l. turn.Listener node l.function) (filter (listens node kind) xs) (filter (listens node kind) ys)

pub listened-more : (node : ℕ) (kind : EventKind) (ls : List Listener) (i : ℕ) (d : Listener) → i < length ls
    → listened node kind (take (i + 1) ls) ≡ listened node kind (take i ls) ++ listened node kind (get_or ls i d ∷ [])
listened-more node kind ls i d less = ap (listened node kind) (take_more ls i d less) ∙ listened-append node kind (take i ls) (get_or ls i d ∷ [])
