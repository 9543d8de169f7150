-- Where a message stands after another request, or after it or another message stands elsewhere.
use Rattle.std.proofs.Common.{◌≡◌, ◌≢◌, ◌+◌, ℕ, zero, suc, Bool, true, false, List, [], ◌∷◌, ◌++◌, length, set, refl, sym, ap, ◌∙◌, arith, if◌then◌else◌, Option, None, Some, slice_get, eqb, add-one, ◌⊎◌, inl, inr}
use Rattle.std.specs.Option.{option_map, option_and_then, is_some, IsSome}
use Rattle.std.proofs.lemmas.Bool.{eqb-true, eq-eqb, eqb-false}
use Rattle.mt_session.specs.declared.party.Party.{Party}
use Rattle.mt_session.specs.declared.party.Standing.{Standing}
use Rattle.mt_session.specs.declared.party.Standing.TheVariants.{Asked}
use Rattle.mt_session.specs.First.{first_where}
use Rattle.mt_session.specs.Parties.{has_number, standing_in, set_standing, standing_of, message_count, messages_by, has_party, with_message, with_request, moved, with_standing}
use Rattle.mt_session.proofs.FirstPlaces.{first-change, first-change_other}

module _ {X : Type 0} where
  get-set_same : (xs : List X) (i : ℕ) (x : X) → IsSome (slice_get xs i) → slice_get (set xs i x) i ≡ Some x
  get-set_same [] i x some = absurd (cc)
  get-set_same (y ∷ ys) zero x some = refl
  get-set_same (y ∷ ys) (suc i) x some = get-set_same ys i x some

  get-set_other : (xs : List X) (i j : ℕ) (x : X) → j ≢ i → slice_get (set xs i x) j ≡ slice_get xs j
  get-set_other [] i j x apart = refl
  get-set_other (y ∷ ys) zero zero x apart = absurd (apart refl)
  get-set_other (y ∷ ys) zero (suc j) x apart = refl
  get-set_other (y ∷ ys) (suc i) zero x apart = refl
  get-set_other (y ∷ ys) (suc i) (suc j) x apart = get-set_other ys i j x (λ e. apart (ap suc e))

  get-push_end : (xs : List X) (x : X) → slice_get (xs ++ x ∷ []) (length xs) ≡ Some x
  get-push_end [] x = refl
  get-push_end (y ∷ ys) x = get-push_end ys x

  get-push_other : (xs : List X) (x : X) (j : ℕ) → j ≢ length xs → slice_get (xs ++ x ∷ []) j ≡ slice_get xs j
  get-push_other [] x zero apart = absurd (apart refl)
  get-push_other [] x (suc j) apart = refl
  get-push_other (y ∷ ys) x zero apart = refl
  get-push_other (y ∷ ys) x (suc j) apart = get-push_other ys x j (λ e. apart (ap suc e))

  first-append_other : (p : X → Bool) (xs : List X) (x : X) → p x ≡ false → first_where p (xs ++ x ∷ []) ≡ first_where p xs
  first-append_other p [] x fails = rw fails refl
  first-append_other p (y ∷ ys) x fails = ap (λ r. if p y then Some y else r) (first-append_other p ys x fails)

  first-append_none : (p : X → Bool) (xs : List X) (x : X) → is_some (first_where p xs) ≡ false → p x ≡ true → first_where p (xs ++ x ∷ []) ≡ Some x
  first-append_none p [] x none passes = rw passes refl
  first-append_none p (y ∷ ys) x none passes = at (p y) refl (λ n. first-append_none p ys x n passes) where
    at : (b : Bool) → p y ≡ b → (is_some (first_where p ys) ≡ false → first_where p (ys ++ x ∷ []) ≡ Some x) → first_where p ((y ∷ ys) ++ x ∷ []) ≡ Some x
    at true e rest = absurd (let here = rw e at none in cc)
    at false e rest = rw e (rest (rw e at none))

standing-set_same : (m : ℕ) (s : Standing) (ss : List Standing) → IsSome (standing_in m ss) → standing_in m (set_standing m s ss) ≡ Some s
standing-set_same zero s ss some = absurd (cc)
standing-set_same (suc i) s ss some = get-set_same ss i s some

standing-set_other : (m m' : ℕ) (s : Standing) (ss : List Standing) → m' ≢ m → standing_in m' (set_standing m s ss) ≡ standing_in m' ss
standing-set_other m zero s ss apart = refl
standing-set_other zero (suc j) s ss apart = refl
standing-set_other (suc i) (suc j) s ss apart = get-set_other ss i j s (λ e. apart (ap suc e))

standing-push_end : (s : Standing) (ss : List Standing) → standing_in (length ss + 1) (ss ++ s ∷ []) ≡ Some s
standing-push_end s ss = rw (add-one (length ss)) (get-push_end ss s)

standing-push_other : (m' : ℕ) (s : Standing) (ss : List Standing) → m' ≢ length ss + 1 → standing_in m' (ss ++ s ∷ []) ≡ standing_in m' ss
standing-push_other zero s ss apart = refl
standing-push_other (suc j) s ss apart = get-push_other ss s j (λ e. apart (omega (arith, e)))

pub standing_of-with_standing_same : (n m : ℕ) (s : Standing) (more : ℕ) (ps : List Party) → IsSome (standing_of n m ps) → standing_of n m (with_standing n m s more ps) ≡ Some s
standing_of-with_standing_same n m s more ps some =
    ap (option_and_then (λ p. standing_in m p.standings)) (first-change (has_number n) (moved m s more) ps (λ x. refl)) ∙ at (first_where (has_number n) ps) some where
      at : (o : Option Party) → IsSome (option_and_then (λ p. standing_in m p.standings) o)
          → option_and_then (λ p. standing_in m p.standings) (option_map (moved m s more) o) ≡ Some s
      at None some = absurd (cc)
      at (Some p) some = standing-set_same m s p.standings some

pub first-with_standing_other : (n n' m : ℕ) (s : Standing) (more : ℕ) (ps : List Party) → n' ≢ n → first_where (has_number n') (with_standing n m s more ps) ≡ first_where (has_number n') ps
first-with_standing_other n n' m s more ps apart = first-change_other (has_number n) (has_number n') (moved m s more) ps (λ x here. (apart_at x here, apart_at x here)) where
  apart_at : (x : Party) → has_number n x ≡ true → has_number n' x ≡ false
  apart_at x here = let same = eqb-true x.number n here in at (eqb x.number n') refl same where
    at : (b : Bool) → eqb x.number n' ≡ b → x.number ≡ n → eqb x.number n' ≡ false
    at true e same = absurd (apart (sym (eqb-true x.number n' e) ∙ same))
    at false e same = e

-- another message
abbrev pub Apart : ℕ → ℕ → ℕ → ℕ → Type 0
Apart n' m' n m = n' ≡ n → m' ≡ m → ⊥

-- either it is the number, or it is not
same_or_apart : (a b : ℕ) → (a ≡ b) ⊎ (a ≢ b)
same_or_apart a b = at (eqb a b) refl where
  at : (t : Bool) → eqb a b ≡ t → (a ≡ b) ⊎ (a ≢ b)
  at true e = inl (eqb-true a b e)
  at false e = inr (eqb-false a b e)

pub standing_of-with_standing_other : (n m n' m' : ℕ) (s : Standing) (more : ℕ) (ps : List Party) → Apart n' m' n m → standing_of n' m' (with_standing n m s more ps) ≡ standing_of n' m' ps
standing_of-with_standing_other n m n' m' s more ps apart = at (same_or_apart n' n) where
  inside : (o : Option Party) → m' ≢ m
      → option_and_then (λ p. standing_in m' p.standings) (option_map (moved m s more) o) ≡ option_and_then (λ p. standing_in m' p.standings) o
  inside None differs = refl
  inside (Some p) differs = standing-set_other m m' s p.standings differs

  at : (n' ≡ n) ⊎ (n' ≢ n) → standing_of n' m' (with_standing n m s more ps) ≡ standing_of n' m' ps
  at (inl e) = rw e
      (ap (option_and_then (λ p. standing_in m' p.standings)) (first-change (has_number n) (moved m s more) ps (λ x. refl))
      ∙ inside (first_where (has_number n) ps) (apart e))
  at (inr differs) = ap (option_and_then (λ p. standing_in m' p.standings)) (first-with_standing_other n n' m s more ps differs)

with_request-there : (n : ℕ) (ps : List Party) → has_party n ps ≡ true → first_where (has_number n) (with_request n ps) ≡ option_map with_message (first_where (has_number n) ps)
with_request-there n ps there = rw there (first-change (has_number n) with_message ps (λ x. refl))

abbrev first_request : ℕ → Party
first_request n = record { number = n; pages = 0; standings = Asked ∷ [] }

with_request-new : (n : ℕ) (ps : List Party) → has_party n ps ≡ false → first_where (has_number n) (with_request n ps) ≡ Some (first_request n)
with_request-new n ps none = rw none (first-append_none (has_number n) ps (first_request n) none (eq-eqb n n refl))

none-is : (o : Option Party) → is_some o ≡ false → o ≡ None
none-is None none = refl
none-is (Some p) none = absurd (cc)

pub standing_of-with_request_same : (n : ℕ) (ps : List Party) → standing_of n (message_count n ps + 1) (with_request n ps) ≡ Some Asked
standing_of-with_request_same n ps = at (has_party n ps) refl where
  inside : (o : Option Party) → is_some o ≡ true
      → option_and_then (λ p. standing_in (messages_by o + 1) p.standings) (option_map with_message o) ≡ Some Asked
  inside None some = absurd (cc)
  inside (Some p) some = standing-push_end Asked p.standings

  at : (b : Bool) → has_party n ps ≡ b → standing_of n (message_count n ps + 1) (with_request n ps) ≡ Some Asked
  at true e = ap (option_and_then (λ p. standing_in (message_count n ps + 1) p.standings)) (with_request-there n ps e) ∙ inside (first_where (has_number n) ps) e
  at false e =
      let zero_count : message_count n ps ≡ 0 = ap messages_by (none-is (first_where (has_number n) ps) e) in
      ap (option_and_then (λ p. standing_in (message_count n ps + 1) p.standings)) (with_request-new n ps e) ∙ rw zero_count refl

first-with_request_other : (n n' : ℕ) (ps : List Party) → n' ≢ n → first_where (has_number n') (with_request n ps) ≡ first_where (has_number n') ps
first-with_request_other n n' ps differs = at (has_party n ps) refl where
  apart_at : (x : Party) → has_number n x ≡ true → has_number n' x ≡ false
  apart_at x here = let same = eqb-true x.number n here in inner (eqb x.number n') refl same where
    inner : (b : Bool) → eqb x.number n' ≡ b → x.number ≡ n → eqb x.number n' ≡ false
    inner true e same = absurd (differs (sym (eqb-true x.number n' e) ∙ same))
    inner false e same = e

  at : (b : Bool) → has_party n ps ≡ b → first_where (has_number n') (with_request n ps) ≡ first_where (has_number n') ps
  at true e = rw e (first-change_other (has_number n) (has_number n') with_message ps (λ x here. (apart_at x here, apart_at x here)))
  at false e = rw e (first-append_other (has_number n') ps (first_request n) (apart_at (first_request n) (eq-eqb n n refl)))

pub standing_of-with_request_other : (n n' m' : ℕ) (ps : List Party) → Apart n' m' n (message_count n ps + 1) → standing_of n' m' (with_request n ps) ≡ standing_of n' m' ps
standing_of-with_request_other n n' m' ps apart = at (same_or_apart n' n) where
  inside : (o : Option Party) → is_some o ≡ true → m' ≢ messages_by o + 1
      → option_and_then (λ p. standing_in m' p.standings) (option_map with_message o) ≡ option_and_then (λ p. standing_in m' p.standings) o
  inside None some differs = refl
  inside (Some p) some differs = standing-push_other m' Asked p.standings differs

  fresh : (m : ℕ) → m ≢ 1 → standing_in m (Asked ∷ []) ≡ None
  fresh zero differs = refl
  fresh (suc zero) differs = absurd (differs refl)
  fresh (suc (suc i)) differs = refl

  by : (b : Bool) → has_party n ps ≡ b → n' ≡ n → standing_of n m' (with_request n ps) ≡ standing_of n m' ps
  by true e same = ap (option_and_then (λ p. standing_in m' p.standings)) (with_request-there n ps e) ∙ inside (first_where (has_number n) ps) e (apart same)
  by false e same =
      let none = none-is (first_where (has_number n) ps) e in
      let zero_count : message_count n ps ≡ 0 = ap messages_by none in
      ap (option_and_then (λ p. standing_in m' p.standings)) (with_request-new n ps e)
      ∙ fresh m' (λ one. apart same (one ∙ rw zero_count refl))
      ∙ sym (ap (option_and_then (λ p. standing_in m' p.standings)) none)

  at : (n' ≡ n) ⊎ (n' ≢ n) → standing_of n' m' (with_request n ps) ≡ standing_of n' m' ps
  at (inl e) = rw e (by (has_party n ps) refl e)
  at (inr differs) = ap (option_and_then (λ p. standing_in m' p.standings)) (first-with_request_other n n' ps differs)

-- the next message of a party is not there yet
pub standing_of-fresh : (n : ℕ) (ps : List Party) → standing_of n (message_count n ps + 1) ps ≡ None
standing_of-fresh n ps = at (first_where (has_number n) ps) where
  past : (ss : List Standing) → slice_get ss (length ss) ≡ None
  past [] = refl
  past (s ∷ ss) = past ss

  at : (o : Option Party) → option_and_then (λ p. standing_in (messages_by o + 1) p.standings) o ≡ None
  at None = refl
  at (Some p) = rw (add-one (length p.standings)) (past p.standings)
