-- The earlier of two broken places, joined in any grouping and order, and the first of a list.
use Rattle.std.proofs.Common.{◌≡◌, ℕ, Bool, true, false, cond, ◌==◌, List, [], ◌∷◌, ◌++◌, Option, None, Some, sym, ap, ◌∙◌, refl, subst, arith}
use Rattle.std.specs.Prelude.{All, Contains}
use Rattle.std.proofs.lemmas.Bool.{both_ways}
use Rattle.std.proofs.lemmas.Bool.Decides.{nat_tests}
use Rattle.std.proofs.lemmas.List.Elements.{All-nil, All-cons, All-weaker, Contains-append_right}
use Rattle.mt_syntax.specs.declared.rule.Rule.{Rule}
use Rattle.mt_syntax.specs.declared.rule.Rule.TheVariants as rule
use Rattle.mt_syntax.specs.declared.broken.Broken.{Broken}
use Rattle.mt_syntax.specs.First.{number_of, comes_before, earlier, earlier_of, first_of}

-- ---- the order

never_itself : (a : Broken) → comes_before a a ≡ false
never_itself a = grind (arith, nat_tests)

not_both : (a b : Broken) → comes_before a b ≡ true → comes_before b a ≡ false
not_both a b h = grind (arith, nat_tests)

not_further : (a b c : Broken) → comes_before a b ≡ false → comes_before b c ≡ false → comes_before a c ≡ false
not_further a b c h k = grind (arith, nat_tests)

further : (a b c : Broken) → comes_before a b ≡ true → comes_before b c ≡ true → comes_before a c ≡ true
further a b c h k = by (comes_before a c) refl
  where
    by : (t : Bool) → comes_before a c ≡ t → comes_before a c ≡ true
    by true p = p
    by false p = absurd (both_ways (comes_before a b) (not_further a c b p (not_both b c k)) h)

abbrev rule_of : ℕ → Rule
rule_of n =
    cond (n == 1) rule.S1 (cond (n == 2) rule.S2 (cond (n == 3) rule.S3 (cond (n == 4) rule.S4 (cond (n == 5) rule.S5 (cond (n == 6) rule.S6 (cond (n == 7) rule.S7
    (cond (n == 8) rule.S8 (cond (n == 9) rule.S9 (cond (n == 10) rule.S10 (cond (n == 11) rule.S11 (cond (n == 12) rule.S12 rule.S13)))))))))))

numbered : (r : Rule) → rule_of (number_of r) ≡ r
numbered rule.S1 = refl
numbered rule.S2 = refl
numbered rule.S3 = refl
numbered rule.S4 = refl
numbered rule.S5 = refl
numbered rule.S6 = refl
numbered rule.S7 = refl
numbered rule.S8 = refl
numbered rule.S9 = refl
numbered rule.S10 = refl
numbered rule.S11 = refl
numbered rule.S12 = refl
numbered rule.S13 = refl

same_line : (a b : Broken) → comes_before a b ≡ false → comes_before b a ≡ false → a.place.line ≡ b.place.line
same_line a b h k = grind (arith, nat_tests)

same_column : (a b : Broken) → comes_before a b ≡ false → comes_before b a ≡ false → a.place.column ≡ b.place.column
same_column a b h k = grind (arith, nat_tests)

same_number : (a b : Broken) → comes_before a b ≡ false → comes_before b a ≡ false → number_of a.rule ≡ number_of b.rule
same_number a b h k = grind (arith, nat_tests)

same : (a b : Broken) → comes_before a b ≡ false → comes_before b a ≡ false → a ≡ b
same a b h k =
    let l = same_line a b h k in
    let c = same_column a b h k in
    let r = sym (numbered a.rule) ∙ ap rule_of (same_number a b h k) ∙ numbered b.rule in
    λ i. record { place = record { line = l i; column = c i }; rule = r i }

-- ---- the earlier of two

pub earlier_order : (a b : Broken) → earlier a b ≡ earlier b a
earlier_order a b = by (comes_before b a) (comes_before a b) refl refl
  where
    by : (x y : Bool) → comes_before b a ≡ x → comes_before a b ≡ y → earlier a b ≡ earlier b a
    by true y p q = rw (p, not_both b a p) refl
    by false true p q = rw (p, q) refl
    by false false p q = rw (p, q) (same a b q p)

pub earlier_grouping : (a b c : Broken) → earlier a (earlier b c) ≡ earlier (earlier a b) c
earlier_grouping a b c = by (comes_before c b) (comes_before b a) refl refl
  where
    by : (x y : Bool) → comes_before c b ≡ x → comes_before b a ≡ y → earlier a (earlier b c) ≡ earlier (earlier a b) c
    by true true p q = rw (p, q, p, further c b a p q) refl
    by true false p q = rw (p, q) refl
    by false true p q = rw (p, q, p) refl
    by false false p q = rw (p, q, not_further c b a p q) refl

pub order : (a b : Option Broken) → earlier_of a b ≡ earlier_of b a
order None None = refl
order None (Some b) = refl
order (Some a) None = refl
order (Some a) (Some b) = ap Some (earlier_order a b)

pub grouping : (a b c : Option Broken) → earlier_of a (earlier_of b c) ≡ earlier_of (earlier_of a b) c
grouping None b c = refl
grouping (Some a) None c = refl
grouping (Some a) (Some b) None = refl
grouping (Some a) (Some b) (Some c) = ap Some (earlier_grouping a b c)

pub repetition : (a : Option Broken) → earlier_of a a ≡ a
repetition None = refl
repetition (Some a) = rw (never_itself a) refl

pub none_last : (a : Option Broken) → earlier_of a None ≡ a
none_last None = refl
none_last (Some a) = refl

-- ---- the first of a list

pub first_of_lists : (xs ys : List Broken) → first_of (xs ++ ys) ≡ earlier_of (first_of xs) (first_of ys)
first_of_lists [] ys = refl
first_of_lists (x ∷ xs) ys = ap (earlier_of (Some x)) (first_of_lists xs ys) ∙ grouping (Some x) (first_of xs) (first_of ys)

pub none : (bs : List Broken) → first_of bs ≡ None → bs ≡ []
none [] is = refl
none (b ∷ bs) is = by (first_of bs) is
  where
    by : (r : Option Broken) → earlier_of (Some b) r ≡ None → b ∷ bs ≡ []
    by None is = absurd (cc)
    by (Some c) is = absurd (cc)

some_is : (a b : Broken) → Option.Some a ≡ Option.Some b → a ≡ b
some_is a b is = ap value is
  where
    value : Option Broken → Broken
    value None = a
    value (Some c) = c

abbrev NoneBefore : Broken → List Broken → Type 0
NoneBefore b bs = All (λ c. comes_before c b ≡ false) bs

pub least : (b : Broken) (bs : List Broken) → first_of bs ≡ Some b → All (λ c. comes_before c b ≡ false) bs
least b [] is = absurd (cc)
least b (x ∷ xs) is = by (λ y e. least y xs e) (first_of xs) refl
  where
    by : ((y : Broken) → first_of xs ≡ Some y → NoneBefore y xs) → (r : Option Broken) → first_of xs ≡ r → NoneBefore b (x ∷ xs)
    by rest None e =
        let s = some_is x b (sym (ap (earlier_of (Some x)) e) ∙ is) in
        subst (λ y. NoneBefore y (x ∷ xs)) s (All-cons (λ c. comes_before c x ≡ false) x xs (never_itself x) (subst (NoneBefore x) (sym (none xs e)) (All-nil (λ c. comes_before c x ≡ false))))
    by rest (Some y) e = split (comes_before y x) refl
      where
        found : earlier_of (Some x) (Some y) ≡ Some b
        found = sym (ap (earlier_of (Some x)) e) ∙ is

        split : (t : Bool) → comes_before y x ≡ t → NoneBefore b (x ∷ xs)
        split true p =
            let s = some_is y b (sym (ap (λ u. Option.Some (cond u y x)) p) ∙ found) in
            subst (λ z. NoneBefore z (x ∷ xs)) s (All-cons (λ c. comes_before c y ≡ false) x xs (not_both y x p) (rest y e))
        split false p =
            let s = some_is x b (sym (ap (λ u. Option.Some (cond u y x)) p) ∙ found) in
            subst (λ z. NoneBefore z (x ∷ xs)) s (All-cons (λ c. comes_before c x ≡ false) x xs (never_itself x) (All-weaker (λ c. comes_before c y ≡ false) (λ c. comes_before c x ≡ false) (λ c h. not_further c y x h p) xs (rest y e)))

here : (x : Broken) (xs : List Broken) → Contains (x ∷ xs) x
here x xs = (0, omega arith, refl)

below : (b x : Broken) (xs : List Broken) → Contains xs b → Contains (x ∷ xs) b
below b x xs h = Contains-append_right (x ∷ []) xs b h

pub member : (b : Broken) (bs : List Broken) → first_of bs ≡ Some b → Contains bs b
member b [] is = absurd (cc)
member b (x ∷ xs) is = by (λ y e. member y xs e) (first_of xs) refl
  where
    by : ((y : Broken) → first_of xs ≡ Some y → Contains xs y) → (r : Option Broken) → first_of xs ≡ r → Contains (x ∷ xs) b
    by rest None e = subst (Contains (x ∷ xs)) (some_is x b (sym (ap (earlier_of (Some x)) e) ∙ is)) (here x xs)
    by rest (Some y) e = split (comes_before y x) refl
      where
        found : earlier_of (Some x) (Some y) ≡ Some b
        found = sym (ap (earlier_of (Some x)) e) ∙ is

        split : (t : Bool) → comes_before y x ≡ t → Contains (x ∷ xs) b
        split true p =
            let s = some_is y b (sym (ap (λ u. Option.Some (cond u y x)) p) ∙ found) in
            below b x xs (subst (Contains xs) s (rest y e))
        split false p = subst (Contains (x ∷ xs)) (some_is x b (sym (ap (λ u. Option.Some (cond u y x)) p) ∙ found)) (here x xs)
