-- Lists of bytes that lack a byte.
use Rattle.std.proofs.Common.{◌≡◌, ℕ, Bool, true, false, not, ◌&&◌, ◌==◌, List, [], ◌∷◌, ◌++◌, refl, ap, ◌∙◌, eq-eqb}
use Rattle.std.proofs.lemmas.Bool.{and_parts, and_from, ne_eqb, not-true, not_from_false, both_ways}
use Rattle.std.specs.List.{list_all}
use Rattle.mt_tree.specs.Tables.{is_lower_case, continues_name, is_spelled}
use Rattle.mt_page_tokens.specs.Reading.{upto, past}

abbrev pub lacks : ℕ → List ℕ → Bool
lacks s [] = true
lacks s (b ∷ bs) = not (b == s) && lacks s bs

pub lacks-append : (s : ℕ) (xs ys : List ℕ) → lacks s xs ≡ true → lacks s ys ≡ true → lacks s (xs ++ ys) ≡ true
lacks-append s [] ys p q = q
lacks-append s (x ∷ xs) ys p q = let h = and_parts (not (x == s)) (lacks s xs) p in and_from (not (x == s)) (lacks s (xs ++ ys)) h.0 (lacks-append s xs ys h.1 q)

pub upto_at : (s : ℕ) (xs rest : List ℕ) → lacks s xs ≡ true → upto s (xs ++ s ∷ rest) ≡ xs
upto_at s [] rest p = rw (eq-eqb s s refl) refl
upto_at s (x ∷ xs) rest p =
    let h = and_parts (not (x == s)) (lacks s xs) p in
    rw (not-true (x == s) h.0) (ap (λ ys. x ∷ ys) (upto_at s xs rest h.1))

pub past_at : (s : ℕ) (xs rest : List ℕ) → lacks s xs ≡ true → past s (xs ++ s ∷ rest) ≡ rest
past_at s [] rest p = rw (eq-eqb s s refl) refl
past_at s (x ∷ xs) rest p =
    let h = and_parts (not (x == s)) (lacks s xs) p in
    rw (not-true (x == s) h.0) (past_at s xs rest h.1)

pub upto_none : (s : ℕ) (xs : List ℕ) → lacks s xs ≡ true → upto s xs ≡ xs
upto_none s [] p = refl
upto_none s (x ∷ xs) p =
    let h = and_parts (not (x == s)) (lacks s xs) p in
    rw (not-true (x == s) h.0) (ap (λ ys. x ∷ ys) (upto_none s xs h.1))

pub past_none : (s : ℕ) (xs : List ℕ) → lacks s xs ≡ true → past s xs ≡ []
past_none s [] p = refl
past_none s (x ∷ xs) p =
    let h = and_parts (not (x == s)) (lacks s xs) p in
    rw (not-true (x == s) h.0) (past_none s xs h.1)

-- ---- names lack signs

lacks_one : (s b : ℕ) (p : ℕ → Bool) → p s ≡ false → p b ≡ true → not (b == s) ≡ true
lacks_one s b p f t = not_from_false (b == s) (ne_eqb b s (λ e. both_ways (p b) (ap p e ∙ f) t))

lacks_all : (s : ℕ) (bs : List ℕ) → continues_name s ≡ false → list_all continues_name bs ≡ true → lacks s bs ≡ true
lacks_all s [] f t = refl
lacks_all s (b ∷ bs) f t =
    let h = and_parts (continues_name b) (list_all continues_name bs) t in
    and_from (not (b == s)) (lacks s bs) (lacks_one s b continues_name f h.0) (lacks_all s bs f h.1)

pub spelled_lacks : (s : ℕ) (name : List ℕ) → is_lower_case s ≡ false → continues_name s ≡ false → is_spelled name ≡ true → lacks s name ≡ true
spelled_lacks s [] l f t = refl
spelled_lacks s (b ∷ bs) l f t =
    let h = and_parts (is_lower_case b) (list_all continues_name bs) t in
    and_from (not (b == s)) (lacks s bs) (lacks_one s b is_lower_case l h.0) (lacks_all s bs f h.1)
