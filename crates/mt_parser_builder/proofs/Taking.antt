-- Items taken one behind the other, as a loop does.
use Rattle.std.proofs.Common.{◌≡◌, ℕ, suc, ◌-◌, ◌+◌, ◌≤◌, ◌<◌, List, [], ◌∷◌, ◌++◌, Option, None, Some, Err, refl, sym, ap, ◌∙◌, append_assoc, arith}
use Rattle.std.proofs.lemmas.List.{append-nil}
use Rattle.mt_parser_builder.specs.declared.fault.Fault.{Fault}
use Rattle.mt_parser_builder.specs.declared.fault.Fault.TheVariants as fault
use Rattle.mt_parser_builder.specs.Answer.{on_both, GivesWith}
use Rattle.mt_parser_builder.specs.Parts.{Values, firsts}

module _ {X : Type 0} where
  -- what was taken before, and what is still taken
  abbrev pub with_front : List X → Option (List X × Values) → Option (List X × Values)
  with_front front taken = on_both taken (λ xs us. Some (front ++ xs, us))

  regroup : (front : List X) (x : X) (taken : Option (List X × Values)) → with_front front (on_both taken (λ xs us. Some (x ∷ xs, us))) ≡ with_front (front ++ x ∷ []) taken
  regroup front x None = refl
  regroup front x (Some r) = ap (λ (xs : List X). Some (xs, r.1)) (simp append_assoc)

  pub goes_on : (f : Values → Option (X × Values)) (front : List X) (count i : ℕ) (vs : Values) (x : X) (us : Values) (total : Option (List X × Values)) → i < count → f vs ≡ Some (x, us)
      → with_front front (firsts f (count - i) vs) ≡ total → with_front (front ++ x ∷ []) (firsts f (count - (i + 1)) us) ≡ total
  goes_on f front count i vs x us total lt h so_far =
      let k : count - i ≡ suc (count - (i + 1)) = omega arith in
      let one : with_front front (firsts f (count - i) vs) ≡ with_front (front ++ x ∷ []) (firsts f (count - (i + 1)) us) = rw (k, h) (regroup front x (firsts f (count - (i + 1)) us)) in
      sym one ∙ so_far

  pub ends : (e : Fault) (f : Values → Option (X × Values)) (front : List X) (count i : ℕ) (vs us ws : Values) (total : Option (List X × Values)) → i < count → GivesWith (Err e) us (f vs)
      → with_front front (firsts f (count - i) vs) ≡ total → GivesWith (Err e) ws total
  ends fault.NoMemory f front count i vs us ws total lt h so_far = tt
  ends fault.Malformed f front count i vs us ws total lt h so_far =
      let k : count - i ≡ suc (count - (i + 1)) = omega arith in
      let one : with_front front (firsts f (count - i) vs) ≡ None = rw (k, h) refl in
      sym so_far ∙ one

  pub is_done : (f : Values → Option (X × Values)) (front : List X) (count i : ℕ) (vs : Values) (total : Option (List X × Values)) → count ≤ i → with_front front (firsts f (count - i) vs) ≡ total
      → total ≡ Some (front, vs)
  is_done f front count i vs total le so_far =
      let k : count - i ≡ 0 = omega arith in
      let one : with_front front (firsts f (count - i) vs) ≡ Some (front, vs) = rw k (ap (λ (xs : List X). Some (xs, vs)) (append-nil front)) in
      sym so_far ∙ one
