-- Each tag is spelled as an attribute's name is.
use Rattle.std.proofs.Common.{◌≡◌, ℕ, Bool, true, false, List, [], ◌∷◌, refl, codes, subst, inl, inr}
use Rattle.std.specs.List.{list_all}
use Rattle.std.specs.Str.{bytes_eq}
use Rattle.std.proofs.lemmas.Bool.{and_parts, or_cases, both_ways}
use Rattle.std.proofs.lemmas.Slice.Eq.{bytes_eq-Decides}
use Rattle.mt_tree.specs.Tables.{is_among, is_spelled, is_tag, tag_names}

-- what each of a list passes, a name in the list passes
listed_passes : (p : List ℕ → Bool) (name : List ℕ) (names : List (List ℕ)) → list_all p names ≡ true → is_among names name ≡ true → p name ≡ true
listed_passes p name [] all any = absurd (both_ways false refl any)
listed_passes p name (x ∷ xs) all any =
    let h = and_parts (p x) (list_all p xs) all in
    elim (or_cases (bytes_eq x name) (is_among xs name) any) [
      | inl here ↦ subst (λ (t : List ℕ). p t ≡ true) ((bytes_eq-Decides x name).0 here) h.0
      | inr there ↦ listed_passes p name xs h.1 there
    ]

pub tag_is_spelled : (tag : List ℕ) → is_tag tag ≡ true → is_spelled tag ≡ true
tag_is_spelled tag h = listed_passes is_spelled tag tag_names refl h

-- `script` is no tag
pub script_no_tag : is_tag (codes "script") ≡ false
script_no_tag = refl
