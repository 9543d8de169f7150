-- The names of tildes that nest more and more often.
use Rattle.std.proofs.Common.{◌≡◌, ℕ, zero, suc, ◌+◌, ◌-◌, ◌≤◌, List, [], ◌∷◌, length, refl, sym, ap, ◌∙◌, subst, arith}
use Rattle.std.specs.Prelude.{slice_get}
use Rattle.mt_eval_meaning.specs.Free.{Names, dollar_names, tilde_names}
use Rattle.mt_resolve_free.specs.Tildes.{names_at, next_names, NamesTildes}
use Rattle.mt_syntax.specs.declared.program.Tilde.{Tilde}

-- those of tildes that nest at most so often
abbrev pub names_to : List Tilde → ℕ → List Names
names_to tildes zero = []
names_to tildes (suc n) = next_names tildes (names_to tildes n)

at_next : (tildes : List Tilde) (table : List Names) (id : ℕ) → names_at (next_names tildes table) id ≡ dollar_names (names_at table) (slice_get tildes id)
at_next [] table id = refl
at_next (t ∷ tildes) table zero = refl
at_next (t ∷ tildes) table (suc id) = at_next tildes table id

names_are : (tildes : List Tilde) (n id : ℕ) → names_at (names_to tildes n) id ≡ tilde_names tildes n id
names_are tildes zero id = refl
names_are tildes (suc n) id = at_next tildes (names_to tildes n) id ∙ ap (λ (tilde : ℕ → Names). dollar_names tilde (slice_get tildes id)) (λ i at. names_are tildes n at i)

pub all_named : (tildes : List Tilde) (n : ℕ) → n ≡ suc (length tildes) → NamesTildes (names_to tildes n) tildes
all_named tildes n is id = names_are tildes n id ∙ ap (λ m. tilde_names tildes m id) is

abbrev later : ℕ → ℕ → ℕ
later zero n = n
later (suc m) n = suc (later m n)

later_is : (m n : ℕ) → later m n ≡ m + n
later_is zero n = omega arith
later_is (suc m) n = let rest = later_is m n in omega (arith, rest)

module _ (tildes : List Tilde) (n : ℕ) (same : names_to tildes n ≡ names_to tildes (suc n)) where
  stays : (m : ℕ) → names_to tildes (later m n) ≡ names_to tildes n
  stays zero = refl
  stays (suc m) = ap (next_names tildes) (stays m) ∙ sym same

  -- where one more round adds nothing, no further one does
  pub settled : n ≤ suc (length tildes) → NamesTildes (names_to tildes (suc n)) tildes
  settled few =
      let m = suc (length tildes) - n in
      let at : later m n ≡ suc (length tildes) = later_is m n ∙ omega (arith, few) in
      subst (λ table. NamesTildes table tildes) (stays m ∙ same) (all_named tildes (later m n) at)
