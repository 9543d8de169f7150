-- A step of a dispatch, as the two queues make it.
use Rattle.std.proofs.Common.{◌≡◌, ◌∙◌, ◌<◌, ℕ, All, List, [], ◌∷◌, drop, length, get_or, sym, ap, ap₂, subst, arith}
use Rattle.std.proofs.lemmas.List.Elements.{All-drop}
use Rattle.mt_events.specs.declared.turn.Turn.{Turn}
use Rattle.mt_events.specs.Dispatch.{advance}

first-is : (path : List ℕ) (node : ℕ) → 0 < length path → node ≡ get_or path 0 node → path ≡ node ∷ drop 1 path
first-is [] node some is = absurd (omega arith)
first-is (n ∷ path) node some is = ap (λ m. m ∷ path) (sym is)

arrives-at : (arrive : ℕ → List Turn) (turns : List Turn) (path : List ℕ) (node : ℕ) → length turns ≡ 0 → path ≡ node ∷ drop 1 path
    → advance arrive turns path ≡ advance arrive (arrive node) (drop 1 path)
arrives-at arrive [] path node none is = ap (advance arrive []) is
arrives-at arrive (turn ∷ turns) path node none is = absurd (omega arith)

-- no turn is left on a node, and the event arrives at the next one
pub arrives : (arrive : ℕ → List Turn) (turns made : List Turn) (path rest : List ℕ) (node : ℕ) → length turns ≡ 0 → 0 < length path → node ≡ get_or path 0 node
    → made ≡ arrive node → rest ≡ drop 1 path → advance arrive turns path ≡ advance arrive made rest
arrives arrive turns made path rest node none some is made_is rest_is =
    arrives-at arrive turns path node none (first-is path node some is) ∙ ap₂ (advance arrive) (sym made_is) (sym rest_is)

-- what holds of the nodes to come holds of those behind the first
pub of-others : (P : ℕ → Type 0) (path rest : List ℕ) → rest ≡ drop 1 path → All P path → All P rest
of-others P path rest is all = subst (All P) (sym is) (All-drop P 1 path all)
