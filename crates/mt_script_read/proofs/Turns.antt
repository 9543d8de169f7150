-- A walk over a list, as a loop goes over it.
use Rattle.std.proofs.Common.{◌≡◌, ℕ, ◌+◌, ◌<◌, ◌≤◌, List, map, length, get_or, drop, Option, Some, sym, ap, ◌∙◌}
use Rattle.std.proofs.lemmas.List.{at_drop_all, at_drop_more}
use Rattle.mt_tree.specs.declared.data.Data.{Data}
use Rattle.mt_json.specs.Reading.{◌>>=◌}
use Rattle.mt_script_words.specs.Outcome.{Refuses}
use Rattle.mt_script_words.specs.declared.refusal.CodeRefusal.{CodeRefusal}
use Rattle.mt_script_words.specs.declared.refusal.CodeRefusal.TheVariants as refusal
use Rattle.mt_script_read.specs.Walking.{Walk, all_walks}

module _ {A : Type 0} (f : A → Walk) (items : List A) (i levels : ℕ) (met : List Data) where
  -- the walk over the items from the i-th on
  abbrev from_here : List A → Option (List Data)
  from_here rest = all_walks (map f rest) levels met

  turn : (x : A) → x ≡ get_or items i x → i < length items → from_here (drop i items) ≡ (f x levels met >>= all_walks (map f (drop (i + 1) items)) levels)
  turn x is lt = at_drop_more from_here items i x lt ∙ ap (λ y. f y levels met >>= all_walks (map f (drop (i + 1) items)) levels) (sym is)

  pub walk_goes : (x : A) (new : List Data) (total : Option (List Data)) → x ≡ get_or items i x → i < length items → f x levels met ≡ Some new → from_here (drop i items) ≡ total
      → all_walks (map f (drop (i + 1) items)) levels new ≡ total
  walk_goes x new total is lt e so_far = sym (ap (λ o. o >>= all_walks (map f (drop (i + 1) items)) levels) e) ∙ sym (turn x is lt) ∙ so_far

  pub walk_fails : (r : CodeRefusal) (x : A) (total : Option (List Data)) → x ≡ get_or items i x → i < length items → Refuses r (f x levels met) → from_here (drop i items) ≡ total → Refuses r total
  walk_fails refusal.NoMemory x total is lt h so_far = tt
  walk_fails refusal.NotCode x total is lt h so_far = sym so_far ∙ turn x is lt ∙ ap (λ o. o >>= all_walks (map f (drop (i + 1) items)) levels) h

  pub walk_ends : (total : Option (List Data)) → length items ≤ i → from_here (drop i items) ≡ total → total ≡ Some met
  walk_ends total le so_far = sym so_far ∙ at_drop_all from_here items i le
