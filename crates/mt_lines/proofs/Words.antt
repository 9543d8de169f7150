-- What a cut line is made of, and that a line made so is cut so.
use Rattle.std.proofs.Common.{◌≡◌, ◌<◌, ◌≤◌, ◌+◌, ◌-◌, ◌==◌, ◌++◌, ℕ, zero, suc, Bool, true, false, not, cond, nat_lt, List, [], ◌∷◌, length, take, drop, bytes_eq, Some, unwrap_or, position, one-add, sym, refl, ap, ap₂, ◌∙◌, arith, take-append-drop, take_at, drop_at, length-append, eq-eqb, eqb-true, ltb-true, ltb-false, lt-ltb}
use Rattle.std.specs.List.{position_or_len, list_all}
use Rattle.std.proofs.lemmas.Bool.{and_parts}
use Rattle.std.proofs.lemmas.List.Sums.{prefix_len-le-length}
use Rattle.std.proofs.lemmas.Option.{cond_some}
use Rattle.std.proofs.lemmas.Slice.Eq.{bytes_eq-Decides}
use Rattle.mt_lines.specs.Words.{place_of, before, from, before_back, gap, leading_spaces, after_spaces}

-- the place by a position
pub place : {X : Type 0} (p : X → Bool) (xs : List X) → unwrap_or (position p xs) (length xs) ≡ position_or_len p xs
place p xs = at (nat_lt (position_or_len p xs) (length xs)) refl
  where
    at : (b : Bool) → nat_lt (position_or_len p xs) (length xs) ≡ b → unwrap_or (position p xs) (length xs) ≡ position_or_len p xs
    at true e = rw e refl
    at false e =
        let low : length xs ≤ position_or_len p xs = ltb-false _ _ e in
        let high : position_or_len p xs ≤ length xs = prefix_len-le-length (λ x. not (p x)) xs in
        let same : length xs ≡ position_or_len p xs = omega arith in
        rw e same

pub same_bytes : (xs ys : List ℕ) → bytes_eq xs ys ≡ true → xs ≡ ys
same_bytes xs ys e = (bytes_eq-Decides xs ys).0 e

pub bytes_same : (xs : List ℕ) → bytes_eq xs xs ≡ true
bytes_same xs = (bytes_eq-Decides xs xs).1 refl

-- no such byte
abbrev pub lacks : ℕ → List ℕ → Bool
lacks byte bytes = list_all (λ b. not (b == byte)) bytes

pub place_of-append : (byte : ℕ) (xs ys : List ℕ) → lacks byte xs ≡ true → place_of byte (xs ++ byte ∷ ys) ≡ length xs
place_of-append byte [] ys e = rw (eq-eqb byte byte refl) refl
place_of-append byte (x ∷ xs) ys e =
    let both = and_parts (not (x == byte)) (lacks byte xs) e in
    rw (both.0) (ap (λ n. 1 + n) (place_of-append byte xs ys both.1) ∙ omega arith)

pub before-append : (byte : ℕ) (xs ys : List ℕ) → lacks byte xs ≡ true → before byte (xs ++ byte ∷ ys) ≡ xs
before-append byte xs ys e = take_at xs (byte ∷ ys) (place_of byte (xs ++ byte ∷ ys)) (sym (place_of-append byte xs ys e))

pub from-append : (byte : ℕ) (xs ys : List ℕ) → lacks byte xs ≡ true → from byte (xs ++ byte ∷ ys) ≡ byte ∷ ys
from-append byte xs ys e = drop_at xs (byte ∷ ys) (place_of byte (xs ++ byte ∷ ys)) (sym (place_of-append byte xs ys e))

pub before-from : (byte : ℕ) (bytes : List ℕ) → bytes ≡ before byte bytes ++ from byte bytes
before-from byte bytes = sym (take-append-drop (place_of byte bytes) bytes)

pub before_back-found : (back bytes rest : List ℕ) → before_back back bytes ≡ Some rest → bytes ≡ rest ++ back
before_back-found back bytes rest e =
    let place : ℕ = length bytes - length back in
    let both = cond_some (bytes_eq (drop place bytes) back) (take place bytes) rest e in
    sym (take-append-drop place bytes) ∙ ap (λ xs. take place bytes ++ xs) (same_bytes _ _ both.0) ∙ ap (λ xs. xs ++ back) both.1

pub before_back-again : (back rest : List ℕ) → before_back back (rest ++ back) ≡ Some rest
before_back-again back rest =
    let place_is : length (rest ++ back) - length back ≡ length rest = omega (arith, length-append rest back) in
    let front_is : take (length rest) (rest ++ back) ≡ rest = take_at rest back (length rest) refl in
    let back_is : drop (length rest) (rest ++ back) ≡ back = drop_at rest back (length rest) refl in
    rw (place_is, front_is, back_is, bytes_same back) refl

-- bytes that don't begin with a space
abbrev pub starts_without_space : List ℕ → Bool
starts_without_space [] = true
starts_without_space (byte ∷ bytes) = not (byte == 32)

spaces-gap : (a : ℕ) (rest : List ℕ) → starts_without_space rest ≡ true → leading_spaces (gap a ++ rest) ≡ 1 + a
spaces-gap zero [] e = refl
spaces-gap zero (byte ∷ bytes) e = rw e refl
spaces-gap (suc a) rest e = ap (λ n. 1 + n) (spaces-gap a rest e) ∙ omega arith

drop-gap : (a : ℕ) (rest : List ℕ) → drop (suc a) (gap a ++ rest) ≡ rest
drop-gap zero rest = refl
drop-gap (suc a) rest = drop-gap a rest

pub after_spaces-again : (a : ℕ) (rest : List ℕ) → starts_without_space rest ≡ true → after_spaces (gap a ++ rest) ≡ Some rest
after_spaces-again a rest e =
    let count : leading_spaces (gap a ++ rest) ≡ suc a = spaces-gap a rest e ∙ omega arith in
    let some : nat_lt 0 (suc a) ≡ true = lt-ltb 0 (suc a) (omega arith) in
    rw (count, some, drop-gap a rest) refl

spaces-cut : (bytes : List ℕ) (n : ℕ) → leading_spaces bytes ≡ suc n → bytes ≡ gap n ++ drop (suc n) bytes
spaces-cut [] n e = absurd (omega arith)
spaces-cut (b ∷ bs) zero e = at (b == 32) refl e
  where
    at : (t : Bool) → (b == 32) ≡ t → cond (not (not t)) (1 + leading_spaces bs) 0 ≡ 1 → b ∷ bs ≡ 32 ∷ bs
    at true is count = ap (λ x. x ∷ bs) (eqb-true b 32 is)
    at false is count = absurd (omega arith)
spaces-cut (b ∷ bs) (suc n) e = at (b == 32) refl e (spaces-cut bs n)
  where
    at : (t : Bool) → (b == 32) ≡ t → cond (not (not t)) (1 + leading_spaces bs) 0 ≡ suc (suc n)
        → (leading_spaces bs ≡ suc n → bs ≡ gap n ++ drop (suc n) bs) → b ∷ bs ≡ 32 ∷ (gap n ++ drop (suc n) bs)
    at true is count rest = let more : leading_spaces bs ≡ suc n = omega arith in ap (λ x. x ∷ bs) (eqb-true b 32 is) ∙ ap (λ xs. 32 ∷ xs) (rest more)
    at false is count rest = absurd (omega arith)

pub after_spaces-found : (bytes rest : List ℕ) → after_spaces bytes ≡ Some rest → (a : ℕ) × (bytes ≡ gap a ++ rest)
after_spaces-found bytes rest e =
    let n : ℕ = leading_spaces bytes in
    let both = cond_some (nat_lt 0 n) (drop n bytes) rest e in
    let some : 0 < n = ltb-true 0 n both.0 in
    let count : n ≡ suc (n - 1) = omega arith in
    (n - 1, spaces-cut bytes (n - 1) count ∙ ap (λ xs. gap (n - 1) ++ xs) (ap (λ k. drop k bytes) (sym count) ∙ both.1))

-- what stands from a byte on begins with it
pub from-first : (byte : ℕ) (bytes : List ℕ) (x : ℕ) (more : List ℕ) → from byte bytes ≡ x ∷ more → x ≡ byte
from-first byte [] x more e = absurd (cc)
from-first byte (b ∷ bs) x more e = at (b == byte) refl (from-first byte bs x more)
  where
    at : (t : Bool) → (b == byte) ≡ t → (from byte bs ≡ x ∷ more → x ≡ byte) → x ≡ byte
    at true is later =
        let here : from byte (b ∷ bs) ≡ b ∷ bs = rw is refl in
        let same : b ≡ x = cc in
        sym same ∙ eqb-true b byte is
    at false is later =
        let on : from byte (b ∷ bs) ≡ from byte bs = rw (is, one-add (place_of byte bs)) refl in
        later (sym on ∙ e)

pub from-starts : (byte : ℕ) (bytes rest : List ℕ) → drop 1 (from byte bytes) ≡ rest → 0 < length rest → from byte bytes ≡ byte ∷ rest
from-starts byte bytes rest e some = at (from byte bytes) refl e
  where
    at : (xs : List ℕ) → from byte bytes ≡ xs → drop 1 xs ≡ rest → xs ≡ byte ∷ rest
    at [] is none = let length_is : 0 ≡ length rest = ap length none in absurd (omega arith)
    at (x ∷ xs) is more = ap₂ (λ y ys. y ∷ ys) (from-first byte bytes x xs is) more

pub before-lacks : (byte : ℕ) (bytes : List ℕ) → lacks byte (before byte bytes) ≡ true
before-lacks byte [] = refl
before-lacks byte (b ∷ bs) = at (b == byte) refl (before-lacks byte bs)
  where
    at : (t : Bool) → (b == byte) ≡ t → lacks byte (before byte bs) ≡ true → lacks byte (before byte (b ∷ bs)) ≡ true
    at true is rest = rw is refl
    at false is rest = let on : before byte (b ∷ bs) ≡ b ∷ before byte bs = rw (is, one-add (place_of byte bs)) refl in ap (lacks byte) on ∙ rw is rest
