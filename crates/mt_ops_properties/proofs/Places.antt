-- The place of a property by its name.
use Rattle.std.proofs.Common.{◌≡◌, ℕ, suc, ◌+◌, ◌<◌, ◌≤◌, true, false, List, ◌∷◌, length, drop, get_or, Option, None, Some, refl, sym, ap, ◌∙◌, arith, add-one, drop-cons}
use Rattle.std.proofs.lemmas.List.{drop_all}
use Rattle.std.specs.Option.{option_map}
use Rattle.mt_ops_properties.specs.Objects.{place_of}
use Rattle.mt_value.specs.Names.{is_same}
use Rattle.mt_value.specs.declared.cell.Property.{Property}

module _ (name : List ℕ) where
  -- the place in the whole list of what has its place behind the first i
  abbrev pub place_from : List Property → ℕ → Option ℕ
  place_from ps i = option_map (λ k. k + i) (place_of name (drop i ps))

  whole : (o : Option ℕ) → option_map (λ k. k + 0) o ≡ o
  whole None = refl
  whole (Some k) = ap Option.Some (omega arith)

  pub from_first : (ps : List Property) → place_from ps 0 ≡ place_of name ps
  from_first ps = whole (place_of name ps)

  later : (i : ℕ) (o : Option ℕ) → option_map (λ k. k + i) (option_map suc o) ≡ option_map (λ k. k + suc i) o
  later i None = refl
  later i (Some k) = ap Option.Some (omega arith)

  first : (ps : List Property) (i : ℕ) (p : Property) → i < length ps → p ≡ get_or ps i p → drop i ps ≡ p ∷ drop (suc i) ps
  first ps i p lt is = drop-cons ps i p lt ∙ ap (λ q. q ∷ drop (suc i) ps) (sym is)

  pub not_here : (ps : List Property) (i : ℕ) (p : Property) → i < length ps → p ≡ get_or ps i p → is_same name p.name ≡ false → place_from ps (i + 1) ≡ place_from ps i
  not_here ps i p lt is other = rw (add-one, first ps i p lt is, other) (sym (later i (place_of name (drop (suc i) ps))))

  pub here : (ps : List Property) (i : ℕ) (p : Property) → i < length ps → p ≡ get_or ps i p → is_same name p.name ≡ true → place_from ps i ≡ Some i
  here ps i p lt is same = rw (first ps i p lt is, same) (ap Option.Some (omega arith))

  pub nowhere : (ps : List Property) (i : ℕ) → length ps ≤ i → place_from ps i ≡ None
  nowhere ps i e = rw (drop_all i ps e) refl
