-- What holds of each of some walks holds of the walks one after another.
use Rattle.std.proofs.Common.{◌≡◌, List, [], ◌∷◌, ◌++◌, map, Ok, Err, refl, sym, ap, subst, ◌∙◌, append_assoc}
use Rattle.std.specs.Prelude.{Result}
use Rattle.std.proofs.lemmas.List.{append-nil}
use Rattle.mt_marshal.specs.Walks.{Walk, all_behind, and_then}
use Rattle.mt_marshal.specs.declared.counts.Counts.{Counts}
use Rattle.mt_marshal.specs.declared.refusal.Refused.{Refused}

pub same_given : {A : Type 0} (r s : A × Counts) → ◌≡◌ {A = Result (A × Counts) Refused} (Ok r) (Ok s) → r ≡ s
same_given r s is = (cc)

-- what a walk of a thing gives, with the counts before it and after it
module _ {I A : Type 0} (P : I → Counts → A → Counts → Type 0) where
  abbrev pub Gives : (I → Walk A) → Type 0
  Gives walk = (i : I) (c : Counts) (a : A) (d : Counts) → walk i c ≡ Ok (a, d) → P i c a d

  abbrev pub Chain : List I → Counts → List A → Counts → Type 0
  Chain [] c [] e = c ≡ e
  Chain (i ∷ is) c (x ∷ xs) e = (d : Counts) × (P i c x d × Chain is d xs e)
  Chain _ c _ e = ⊥

  -- a list that is given behind others
  abbrev Found : List I → List A → List A → Counts → Counts → Type 0
  Found is done xs c e = (bs : List A) × ((xs ≡ done ++ bs) × Chain is c bs e)

  module _ (walk : I → Walk A) (gives : Gives walk) where
    chained : (is : List I) (done xs : List A) (c e : Counts) → all_behind done (map walk is) c ≡ Ok (xs, e) → Found is done xs c e
    chained [] done xs c e same =
        let both = same_given (done, c) (xs, e) same in
        ([], (sym (ap (λ (z : List A × Counts). z.0) both) ∙ sym (append-nil done), ap (λ (z : List A × Counts). z.1) both))
    chained (i ∷ is) done xs c e same = by (walk i c) refl same (λ a d. chained is (done ++ a ∷ []) xs d e)
      where
        by : (r : Result (A × Counts) Refused) → walk i c ≡ r → and_then r (λ a. all_behind (done ++ a ∷ []) (map walk is)) ≡ Ok (xs, e)
            → ((a : A) (d : Counts) → all_behind (done ++ a ∷ []) (map walk is) d ≡ Ok (xs, e) → Found is (done ++ a ∷ []) xs d e) → Found (i ∷ is) done xs c e
        by (Ok r) walked same next =
            let rest = next r.0 r.1 same in
            (r.0 ∷ rest.0, (rest.1.0 ∙ append_assoc done (r.0 ∷ []) rest.0, (r.1, (gives i c r.0 r.1 walked, rest.1.1))))
        by (Err x) walked same next = absurd (cc)

    pub chain_of : (is : List I) (xs : List A) (c e : Counts) → all_behind [] (map walk is) c ≡ Ok (xs, e) → Chain is c xs e
    chain_of is xs c e same = let found = chained is [] xs c e same in subst (λ bs. Chain is c bs e) (sym found.1.0) found.1.1
