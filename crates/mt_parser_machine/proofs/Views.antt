-- What a push and a pop do to the views of a stack and of the nodes.
use Rattle.std.proofs.Common.{◌≡◌, ◌++◌, ◌∷◌, [], ℕ, IfSome, MatchOption, Some, None, length, List, Option, option_to_list, map, reverse, arith, add-one, refl, sym, ap, ◌∙◌, ◌+◌}
use Rattle.std.proofs.lemmas.List.{reverse-append}
use Rattle.mt_grammar.specs.Stack.{Level}
use Rattle.mt_parser_machine.specs.declared.level.Level.{Level as CodeLevel}
use Rattle.mt_parser_marks.specs.declared.node.Node.{Node as CodeNode}
use Rattle.mt_parser_marks.specs.NodeViews.{node_of, nodes_of}
use Rattle.mt_parser_machine.specs.Views.{level_of, tops}
use Rattle.mt_parser_machine.specs.Counts.{count_of, counted}

pub pushed : (old new : List CodeLevel) (x : CodeLevel) → new ≡ old ++ x ∷ [] → tops new ≡ level_of x ∷ tops old
unfolding tops
pushed old new x e = ap (λ fs. map level_of (reverse fs)) e ∙ ap (map level_of) (reverse-append old (x ∷ []))

empty : (fs : List CodeLevel) (n : ℕ) → length fs ≡ n → n ≡ 0 → fs ≡ []
empty [] n h p = refl
empty (x ∷ fs) n h p = absurd (omega arith)

pub popped : (r : Option CodeLevel) (old new : List CodeLevel) (n m : ℕ) (v : List Level) → old ≡ new ++ option_to_list r → length old ≡ n → length new ≡ m → MatchOption r ((n ≡ 0) × (m ≡ 0)) (λ x. m + 1 ≡ n) → tops old ≡ v
    → MatchOption r ((v ≡ []) × (tops new ≡ [])) (λ x. v ≡ level_of x ∷ tops new)
unfolding tops
popped None old new n m v e l k h is = (sym is ∙ ap tops (empty old n l h.0), ap tops (empty new m k h.1))
popped (Some x) old new n m v e l k h is = sym is ∙ pushed new old x e

pub popped_counts : (r : Option CodeLevel) (v w : List Level) → MatchOption r ((v ≡ []) × (w ≡ [])) (λ x. v ≡ level_of x ∷ w) → IfSome r (λ x. counted v ≡ count_of (level_of x) + counted w)
popped_counts None v w h = tt
popped_counts (Some x) v w h = ap counted h

pub popped_shorter : (r : Option CodeLevel) (v w : List Level) → MatchOption r ((v ≡ []) × (w ≡ [])) (λ x. v ≡ level_of x ∷ w) → IfSome r (λ x. length v ≡ length w + 1)
popped_shorter None v w h = tt
popped_shorter (Some x) v w h = ap length h ∙ sym (add-one (length w))

mapped : (old : List CodeNode) (x : CodeNode) → map node_of (old ++ x ∷ []) ≡ map node_of old ++ node_of x ∷ []
mapped [] x = refl
mapped (y ∷ old) x = ap (λ ns. node_of y ∷ ns) (mapped old x)

pub appended : (old new : List CodeNode) (x : CodeNode) → new ≡ old ++ x ∷ [] → nodes_of new ≡ nodes_of old ++ node_of x ∷ []
unfolding nodes_of
appended old new x e = ap (map node_of) e ∙ mapped old x
