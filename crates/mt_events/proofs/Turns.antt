-- What is to come is what the turns lead to, one after another.
use Rattle.std.proofs.Common.{◌≡◌, ◌∙◌, ◌++◌, ◌||◌, ℕ, Bool, true, false, List, [], ◌∷◌, Option, Some, None, refl, sym, ap, append-nil, if◌then◌else◌}
use Rattle.std.proofs.lemmas.Option.{none-some}
use Rattle.mt_events.specs.declared.turn.Turn.{Turn}
use Rattle.mt_events.specs.Dispatch.{advance, turn_first, acted, and_then, along, to_come}

abbrev pub Arrive : Type 0 → Type 0
Arrive W = W → ℕ → List Turn

abbrev pub Act : Type 0 → Type 0
Act W = W → Turn → W × Bool

pub begins : {W : Type 0} (arrive : Arrive W) (act : Act W) (w : W) (path : List ℕ) → to_come arrive act w [] path ≡ along arrive act w path
begins arrive act w path = refl

one-turn : {W : Type 0} (turn : Turn) (stops : Bool) (done : W × Bool) (left : List Turn) (later : W → W × List Turn) (end : W → W × List Turn) → ((v : W) → end v ≡ (v, []))
    → and_then (done.0, stops || done.1) (turn ∷ left) later ≡ turn_first turn (and_then done left (if stops then end else later))
one-turn turn true done left later end ends = at done.1
  where
    at : (b : Bool) → (done.0, turn ∷ left) ≡ turn_first turn (if b then (done.0, left) else ((end done.0).0, left ++ (end done.0).1))
    at true = refl
    at false = sym (ap (λ e. (e.0, turn ∷ (left ++ e.1))) (ends done.0) ∙ ap (λ l. (done.0, turn ∷ l)) (append-nil left))
one-turn turn false done left later end ends = at done.1
  where
    at : (b : Bool) → (if b then (done.0, turn ∷ left) else ((later done.0).0, turn ∷ (left ++ (later done.0).1)))
        ≡ turn_first turn (if b then (done.0, left) else ((later done.0).0, left ++ (later done.0).1))
    at true = refl
    at false = refl

turn-first : {W : Type 0} (arrive : Arrive W) (act : Act W) (w : W) (turn : Turn) (left : List Turn) (path : List ℕ)
    → to_come arrive act w (turn ∷ left) path ≡ turn_first turn (to_come arrive act (act w turn).0 left (if (act w turn).1 then [] else path))
turn-first {W = W} arrive act w turn left path = at (act w turn).1
  where
    done : W × Bool
    done = acted act (act w turn).0 left

    at : (stops : Bool) → and_then (done.0, stops || done.1) (turn ∷ left) (λ v. along arrive act v path)
        ≡ turn_first turn (and_then done left (λ v. along arrive act v (if stops then [] else path)))
    at true = one-turn turn true done left (λ v. along arrive act v path) (λ v. along arrive act v []) (λ v. refl)
    at false = one-turn turn false done left (λ v. along arrive act v path) (λ v. along arrive act v []) (λ v. refl)

pub goes-on : {W : Type 0} (arrive : Arrive W) (act : Act W) (w : W) (left : List Turn) (path : List ℕ) (turn : Turn) (left' : List Turn) (path' : List ℕ)
    → advance (arrive w) left path ≡ (Some turn, left', path')
    → to_come arrive act w left path ≡ turn_first turn (to_come arrive act (act w turn).0 left' (if (act w turn).1 then [] else path'))
goes-on {W = W} arrive act w (t ∷ left) path turn left' path' is =
    turn-first arrive act w t left path
    ∙ ap (λ (a : Option Turn × List Turn × List ℕ). front a) is
  where
    front : Option Turn × List Turn × List ℕ → W × List Turn
    front (None, more, rest) = (w, [])
    front (Some u, more, rest) = turn_first u (to_come arrive act (act w u).0 more (if (act w u).1 then [] else rest))
goes-on arrive act w [] [] turn left' path' is = absurd (none-some turn (ap (λ (a : Option Turn × List Turn × List ℕ). a.0) is))
goes-on arrive act w [] (node ∷ path) turn left' path' is = goes-on arrive act w (arrive w node) path turn left' path' is

pub ends : {W : Type 0} (arrive : Arrive W) (act : Act W) (w : W) (left : List Turn) (path : List ℕ)
    → (advance (arrive w) left path).0 ≡ None → to_come arrive act w left path ≡ (w, [])
ends arrive act w (t ∷ left) path is = absurd (cc)
ends arrive act w [] [] is = refl
ends arrive act w [] (node ∷ path) is = ends arrive act w (arrive w node) path is
