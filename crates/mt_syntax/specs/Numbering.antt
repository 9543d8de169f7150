-- The numbers of tildes and dollars, and the values of `Val` nodes, in text order.
use Rattle.std.specs.Prelude.{ℕ, ◌≡◌, List, [], ◌∷◌, ◌++◌, map}
use Rattle.std.specs.List.{range_with_len}
use Rattle.mt_tree.specs.declared.data.Data.{Data}
use Rattle.mt_syntax.specs.Fold.{Every, ExprKindLayer, Steps, on_stmt}
use Rattle.mt_syntax.specs.Gathering.{all_of, gathering}
use Rattle.mt_syntax.specs.Whole.{on_program}
use Rattle.mt_syntax.specs.declared.tree.Stmt.{Stmt}
use Rattle.mt_syntax.specs.declared.tree.ExprKind.TheOpen.{ExprKind-F}
use Rattle.mt_syntax.specs.declared.program.Program.{Program}

-- lists that the nodes give, joined in text order
abbrev pub listing : (X : Type 0) → Steps (Every (List X))
listing X = gathering [] (λ xs ys. xs ++ ys)

abbrev pub in_order : {X : Type 0} → List (List X) → List X
in_order {X} = all_of [] (λ xs ys. xs ++ ys)

-- ---- the dollars directly in a body

abbrev pub dollars_of_kind : ExprKindLayer (Every (List ℕ)) → List ℕ
dollars_of_kind (ExprKind-F.ExprKind::Dollar at) = at ∷ []
dollars_of_kind layer = (listing ℕ).expr_kind layer

abbrev pub listing_dollars : Steps (Every (List ℕ))
listing_dollars = record (listing ℕ) { expr_kind = dollars_of_kind }

abbrev pub dollars_of : List Stmt → List ℕ
dollars_of body = in_order (map (on_stmt listing_dollars) body)

-- ---- the values in a body

abbrev pub values_of_kind : ExprKindLayer (Every (List Data)) → List Data
values_of_kind (ExprKind-F.Val d) = d ∷ []
values_of_kind layer = (listing Data).expr_kind layer

abbrev pub listing_values : Steps (Every (List Data))
listing_values = record (listing Data) { expr_kind = values_of_kind }

abbrev pub values_of : List Stmt → List Data
values_of body = in_order (map (on_stmt listing_values) body)

-- ---- the tildes of a program: a tilde stands before those in its body and in its dollars

module _ (tilde dollar : ℕ → List ℕ) where
  abbrev pub tildes_of_kind : ExprKindLayer (Every (List ℕ)) → List ℕ
  tildes_of_kind (ExprKind-F.ExprKind::Tilde id) = tilde id
  tildes_of_kind (ExprKind-F.ExprKind::Dollar at) = dollar at
  tildes_of_kind layer = (listing ℕ).expr_kind layer

  abbrev pub listing_tildes : Steps (Every (List ℕ))
  listing_tildes = record (listing ℕ) { expr_kind = tildes_of_kind }

abbrev pub tildes_of : Program → List ℕ
tildes_of = on_program listing_tildes [] in_order (λ id ids. id ∷ ids)

-- 0, 1, 2 and so on, up to before the bound
abbrev pub AreNumbers : List ℕ → ℕ → Type 0
AreNumbers ns bound = ns ≡ range_with_len 0 bound
