-- Places by parts of a text.
use Rattle.std.proofs.Common.{◌≡◌, ℕ, ◌+◌, ◌-◌, ◌≤◌, Bool, true, false, cond, eqb, List, [], ◌∷◌, ◌++◌, length, take, drop, refl, sym, ap, ◌∙◌, ⊎_elim, length-take, take-add, arith}
use Rattle.std.specs.Prelude.{min}
use Rattle.std.proofs.lemmas.List.{take_all}
use Rattle.std.proofs.lemmas.Bool.{cases_lt, eqb-true, ne_eqb}
use Rattle.mt_tree.specs.declared.place.Place.{Place}
use Rattle.mt_tree.specs.Place.{first_place, next_line, next_column, continues_character, place_past, place_after, place_of}
use Rattle.mt_tree.proofs.Places.{line-le, column-le}
use Rattle.mt_parser_marks.specs.Places.{placed}

-- ---- bounds

pub line_bound : (p : Place) (bs : List ℕ) (n : ℕ) → p.line ≤ n → (place_after p bs).line ≤ n + length bs
line_bound p [] n h = omega arith
line_bound p (b ∷ bs) n h = omega (arith, line_bound (place_past p b) bs (n + 1) (line-le p b n h))

pub column_bound : (p : Place) (bs : List ℕ) (n : ℕ) → p.column ≤ n → (place_after p bs).column ≤ n + length bs
column_bound p [] n h = omega arith
column_bound p (b ∷ bs) n h = omega (arith, column_bound (place_past p b) bs (n + 1) (column-le p b n h))

step_first_line : (a b : Bool) (p : Place) → 1 ≤ p.line → 1 ≤ (cond a (next_line p) (cond b p (next_column p))).line
step_first_line true b p h = omega arith
step_first_line false true p h = h
step_first_line false false p h = h

step_first_column : (a b : Bool) (p : Place) → 1 ≤ p.column → 1 ≤ (cond a (next_line p) (cond b p (next_column p))).column
step_first_column true b p h = omega arith
step_first_column false true p h = h
step_first_column false false p h = omega arith

pub first_line : (p : Place) (bs : List ℕ) → 1 ≤ p.line → 1 ≤ (place_after p bs).line
first_line p [] h = h
first_line p (b ∷ bs) h = first_line (place_past p b) bs (step_first_line (eqb b 10) (continues_character b) p h)

pub first_column : (p : Place) (bs : List ℕ) → 1 ≤ p.column → 1 ≤ (place_after p bs).column
first_column p [] h = h
first_column p (b ∷ bs) h = first_column (place_past p b) bs (step_first_column (eqb b 10) (continues_character b) p h)

-- ---- a text in two parts

abbrev at_place : ℕ → ℕ → Place
at_place l c = record { line = l; column = c }

same_place : (l k c d : ℕ) → l ≡ k → c ≡ d → at_place l c ≡ at_place k d
same_place l k c d p q = ap (λ (n : ℕ). at_place n c) p ∙ ap (λ (n : ℕ). at_place k n) q

placed-line : (p q : Place) → 1 ≤ q.line → placed p (next_line q) ≡ next_line (placed p q)
placed-line p q h =
    ap (λ (t : Bool). cond t (at_place p.line (p.column + 1 - 1)) (at_place (p.line + (q.line + 1) - 1) 1)) (ne_eqb (q.line + 1) 1 (λ e. omega (arith, e, h)))
    ∙ same_place (p.line + (q.line + 1) - 1) ((placed p q).line + 1) 1 1 (omega (arith, chosen (eqb q.line 1) refl)) refl
  where
    chosen : (t : Bool) → eqb q.line 1 ≡ t → (cond t (at_place p.line (p.column + q.column - 1)) (at_place (p.line + q.line - 1) q.column)).line ≡ p.line + q.line - 1
    chosen true e = let k = eqb-true q.line 1 e in omega arith
    chosen false e = refl

placed-column : (p q : Place) → 1 ≤ q.column → placed p (next_column q) ≡ next_column (placed p q)
placed-column p q h = chosen (eqb q.line 1)
  where
    chosen : (t : Bool) → cond t (at_place p.line (p.column + (q.column + 1) - 1)) (at_place (p.line + q.line - 1) (q.column + 1))
        ≡ next_column (cond t (at_place p.line (p.column + q.column - 1)) (at_place (p.line + q.line - 1) q.column))
    chosen true = same_place p.line p.line (p.column + (q.column + 1) - 1) (p.column + q.column - 1 + 1) refl (omega arith)
    chosen false = refl

placed-past : (a b : Bool) (p q : Place) → 1 ≤ q.line → 1 ≤ q.column
    → placed p (cond a (next_line q) (cond b q (next_column q))) ≡ cond a (next_line (placed p q)) (cond b (placed p q) (next_column (placed p q)))
placed-past true b p q h g = placed-line p q h
placed-past false true p q h g = refl
placed-past false false p q h g = placed-column p q g

placed-after : (p q : Place) (bs : List ℕ) → 1 ≤ q.line → 1 ≤ q.column → place_after (placed p q) bs ≡ placed p (place_after q bs)
placed-after p q [] h g = refl
placed-after p q (b ∷ bs) h g =
    ap (λ (r : Place). place_after r bs) (sym (placed-past (eqb b 10) (continues_character b) p q h g))
    ∙ placed-after p (place_past q b) bs (step_first_line (eqb b 10) (continues_character b) q h) (step_first_column (eqb b 10) (continues_character b) q g)

placed-first : (p : Place) → placed p first_place ≡ p
placed-first p = same_place p.line p.line (p.column + 1 - 1) p.column refl (omega arith)

-- the place after the bytes, where the first of them stands at p
pub placed-is : (p : Place) (bs : List ℕ) → place_after p bs ≡ placed p (place_after first_place bs)
placed-is p bs = ap (λ (r : Place). place_after r bs) (sym (placed-first p)) ∙ placed-after p first_place bs (omega arith) (omega arith)

pub place_after-append : (p : Place) (xs ys : List ℕ) → place_after p (xs ++ ys) ≡ place_after (place_after p xs) ys
place_after-append p [] ys = refl
place_after-append p (x ∷ xs) ys = place_after-append (place_past p x) xs ys

take_parts : (bs : List ℕ) (i j : ℕ) → i ≤ j → take j bs ≡ take i bs ++ take (j - i) (drop i bs)
take_parts bs i j h = let e : j ≡ i + (j - i) = omega arith in ap (λ (k : ℕ). take k bs) e ∙ take-add i (j - i) bs

-- from a place to a later one
pub place_of-onward : (bs : List ℕ) (i j : ℕ) → i ≤ j → place_of bs j ≡ placed (place_of bs i) (place_after first_place (take (j - i) (drop i bs)))
place_of-onward bs i j h =
    ap (place_after first_place) (take_parts bs i j h) ∙ place_after-append first_place (take i bs) (take (j - i) (drop i bs)) ∙ placed-is (place_of bs i) (take (j - i) (drop i bs))

-- behind the end every place is that of the end
pub place_of-min : (bs : List ℕ) (i : ℕ) → place_of bs (min i (length bs)) ≡ place_of bs i
place_of-min bs i =
    ⊎_elim
    (λ h. let e : min i (length bs) ≡ i = omega (arith, h) in ap (place_of bs) e)
    (λ h. ap (place_after first_place) (take_all (min i (length bs)) bs (omega (arith, h)) ∙ sym (take_all i bs h)))
    (cases_lt i (length bs))

-- ---- places of a text

pub line_of-le : (bs : List ℕ) (i : ℕ) → (place_of bs i).line ≤ 1 + length bs
line_of-le bs i = let n = length-take i bs in omega (arith, line_bound first_place (take i bs) 1 (omega arith))

pub column_of-le : (bs : List ℕ) (i : ℕ) → (place_of bs i).column ≤ 1 + length bs
column_of-le bs i = let n = length-take i bs in omega (arith, column_bound first_place (take i bs) 1 (omega arith))

pub line_of-first : (bs : List ℕ) (i : ℕ) → 1 ≤ (place_of bs i).line
line_of-first bs i = first_line first_place (take i bs) (omega arith)

pub column_of-first : (bs : List ℕ) (i : ℕ) → 1 ≤ (place_of bs i).column
column_of-first bs i = first_column first_place (take i bs) (omega arith)
