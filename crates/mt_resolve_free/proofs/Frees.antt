-- The names that are free in a function, from those of tildes in a table.
use Rattle.std.proofs.Common.{◌≡◌, ℕ, suc, List, [], ◌∷◌, length, None, Some, ap}
use Rattle.mt_eval_meaning.specs.Free.{Names, finding, free_of, tilde_names, without}
use Rattle.mt_resolve_free.specs.Tildes.{NamesTildes, names_at}
use Rattle.mt_syntax.specs.Fold.{on_function}
use Rattle.mt_syntax.specs.declared.program.Tilde.{Tilde}
use Rattle.mt_syntax.specs.declared.tree.Function.{Function}

module _ (tildes : List Tilde) (table : List Names) (named : NamesTildes table tildes) (f : Function) where
  abbrev used : (ℕ → Names) → Names
  used tilde = (on_function (finding tilde) f).free

  same : used (names_at table) ≡ used (tilde_names tildes (suc (length tildes)))
  same = ap used (λ i id. named id i)

  pub free_without_own : without [] (used (names_at table)) ≡ free_of tildes None f
  unfolding free_of
  free_without_own = ap (without []) same

  pub free_with_own : (name : List ℕ) → without (name ∷ []) (used (names_at table)) ≡ free_of tildes (Some name) f
  unfolding free_of
  free_with_own name = ap (without (name ∷ [])) same
