-- One turn of the loops that build.
use Rattle.std.proofs.Common.{◌≡◌, List, [], ◌∷◌, ◌++◌, append_assoc, sym, ap, ◌∙◌, subst}
use Rattle.std.proofs.lemmas.List.{append-nil}
use Rattle.mt_eval_meaning.specs.Building.{Built, built_all}
use Rattle.mt_value.specs.declared.cell.Cell.{Cell}

-- what is made so far, and what is still to be made
abbrev pub built_behind : {A : Type 0} → List A → List (Built A) → Built (List A)
built_behind made bs store = (made ++ (built_all bs store).0, (built_all bs store).1)

pub built_next : {A : Type 0} (made : List A) (b : Built A) (bs : List (Built A)) (store : List Cell) (a : A) (new : List Cell)
    → (a, new) ≡ b store → built_behind (made ++ a ∷ []) bs new ≡ built_behind made (b ∷ bs) store
built_next {A = A} made b bs store a new is =
    ap (λ xs. (xs, (built_all bs new).1)) (append_assoc made (a ∷ []) (built_all bs new).0) ∙ ap (λ (z : A × List Cell). (made ++ z.0 ∷ (built_all bs z.1).0, (built_all bs z.1).1)) is

pub built_last : {A : Type 0} (made : List A) (store : List Cell) → built_behind made [] store ≡ (made, store)
built_last made store = ap (λ xs. (xs, store)) (append-nil made)
