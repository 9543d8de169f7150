-- The characters in front of a place and behind it.
use Rattle.std.proofs.Common.{◌≡◌, ℕ, ◌+◌, ◌-◌, ◌<◌, ◌≤◌, ◌==◌, ◌&&◌, Bool, true, false, nat_lt, List, [], ◌∷◌, ◌++◌, length, take, None, Some, refl, sym, ap, subst, ◌∙◌, arith}
use Rattle.std.specs.Option.{option_map, option_and_then}
use Rattle.std.specs.Str.{IsUtf8, IsCharBoundary, chars}
use Rattle.std.proofs.lemmas.Bool.Decides.{nat_tests}
use Rattle.std.proofs.lemmas.List.{take_at, length-append, append_cancel_right}
use Rattle.std.proofs.lemmas.Str.{encodes-chars, encodes-append, scalars-chars, chars-encodes, chars_past_char, chars-nil, IsCharBoundary-at_seam}
use lib.Utf8.{encode, encodes, scalar, scalars}
use Rattle.mt_tree.specs.Text.{units_in, units_of}
use Rattle.mt_tree.specs.Units.{behind, before, cut, StandsBetween, CutIsBetween}

pub units_in-some : (c : ℕ) → 0 < units_in c
units_in-some c = grind (arith, nat_tests)

pub units_in-is : (c k : ℕ) → (c < 0x1_0000 → k ≡ 1) → (0x1_0000 ≤ c → k ≡ 2) → k ≡ units_in c
units_in-is c k small large = grind (arith, nat_tests, small, large)

pub units_of-append : (a b : List ℕ) → units_of (a ++ b) ≡ units_of a + units_of b
units_of-append [] b = omega arith
units_of-append (c ∷ a) b = omega (arith, units_of-append a b)

-- no character stands in front of the place, or the first one does, or it stands across
not_zero : (n : ℕ) → 0 < n → (n == 0) ≡ false
not_zero n h = grind (arith, nat_tests)

is_zero : (n : ℕ) → (n == 0) ≡ true → n ≡ 0
is_zero n t = grind (arith, nat_tests, t)

pub behind-zero : (cs : List ℕ) → behind cs 0 ≡ Some cs
behind-zero [] = refl
behind-zero (c ∷ cs) = refl

past : (c n : ℕ) (cs : List ℕ) → units_in c ≤ n → behind (c ∷ cs) n ≡ behind cs (n - units_in c)
past c n cs h =
    let far : nat_lt n (units_in c) ≡ false = grind (arith, nat_tests, h) in
    rw (not_zero n (omega (arith, units_in-some c)), far) refl

across : (c n : ℕ) (cs : List ℕ) → 0 < n → n < units_in c → behind (c ∷ cs) n ≡ None
across c n cs some h =
    let near : nat_lt n (units_in c) ≡ true = grind (arith, nat_tests, h) in
    rw (not_zero n some, near) refl

-- ---- the same, character by character of the bytes

pub behind-past : (bs rest : List ℕ) (c n : ℕ) → IsUtf8 bs → bs ≡ encode c ++ rest → units_in c ≤ n → behind (chars bs) n ≡ behind (chars rest) (n - units_in c)
behind-past bs rest c n u is h = ap (λ cs. behind cs n) (chars_past_char bs rest c u is) ∙ past c n (chars rest) h

pub behind-across : (bs rest : List ℕ) (c n : ℕ) → IsUtf8 bs → bs ≡ encode c ++ rest → 0 < n → n < units_in c → behind (chars bs) n ≡ None
behind-across bs rest c n u is some h = ap (λ cs. behind cs n) (chars_past_char bs rest c u is) ∙ across c n (chars rest) some h

pub behind-end : (bs : List ℕ) (n : ℕ) → length bs ≡ 0 → 0 < n → behind (chars bs) n ≡ None
behind-end [] n none some = rw (chars-nil, not_zero n some) refl
behind-end (b ∷ bs) n none some = absurd (omega arith)

-- ---- both parts together

data Parted (cs : List ℕ) (n : ℕ) : Type 0 where
  nowhere : behind cs n ≡ None → before cs n ≡ None → Parted cs n
  parted : (front back : List ℕ) → cs ≡ front ++ back → units_of front ≡ n → behind cs n ≡ Some back → before cs n ≡ Some front → Parted cs n

one_more : (c n : ℕ) (cs : List ℕ) → (n == 0) ≡ false → nat_lt n (units_in c) ≡ false → Parted cs (n - units_in c) → Parted (c ∷ cs) n
one_more c n cs f g (nowhere e d) = nowhere (rw (f, g) e) (rw (f, g) (ap (option_map (λ front. c ∷ front)) d))
one_more c n cs f g (parted front back is at e d) =
    let far : units_in c ≤ n = grind (arith, nat_tests, g) in
    parted (c ∷ front) back (ap (λ r. c ∷ r) is) (omega arith) (rw (f, g) e) (rw (f, g) (ap (option_map (λ front. c ∷ front)) d))

parts : (cs : List ℕ) (n : ℕ) → Parted cs n
parts [] n = by (n == 0) refl
  where
    by : (b : Bool) → (n == 0) ≡ b → Parted [] n
    by true t = parted [] [] refl (sym (is_zero n t)) (rw t refl) (rw t refl)
    by false f = nowhere (rw f refl) (rw f refl)
parts (c ∷ cs) n = by (n == 0) (nat_lt n (units_in c)) refl refl (parts cs (n - units_in c))
  where
    by : (b d : Bool) → (n == 0) ≡ b → nat_lt n (units_in c) ≡ d → Parted cs (n - units_in c) → Parted (c ∷ cs) n
    by true d t e more = parted [] (c ∷ cs) refl (sym (is_zero n t)) (rw t refl) (rw t refl)
    by false true f t more = nowhere (rw (f, t) refl) (rw (f, t) refl)
    by false false f g more = one_more c n cs f g more

-- ---- the bytes of the characters in front of a place

and_left : (a b : Bool) → (a && b) ≡ true → a ≡ true
and_left true b e = refl
and_left false b e = absurd (cc)

and_right : (a b : Bool) → (a && b) ≡ true → b ≡ true
and_right true b e = e
and_right false b e = absurd (cc)

scalars_front : (front back : List ℕ) → scalars (front ++ back) ≡ true → scalars front ≡ true
scalars_front [] back s = refl
scalars_front (c ∷ front) back s =
    let one = and_left (scalar c) (scalars (front ++ back)) s in
    let rest = scalars_front front back (and_right (scalar c) (scalars (front ++ back)) s) in
    rw (one, rest) refl

pub record Front (text rest : List ℕ) (n : ℕ) : Type 0 where
  pub front : List ℕ
  pub bytes : text ≡ encodes front ++ rest
  pub characters : scalars front ≡ true
  pub is : before (chars text) n ≡ Some front

pub front_of : (text rest : List ℕ) (n : ℕ) → IsUtf8 text → IsUtf8 rest → Some (chars rest) ≡ behind (chars text) n → Front text rest n
front_of text rest n u v e = by (parts (chars text) n)
  where
    by : Parted (chars text) n → Front text rest n
    by (nowhere none d) = absurd (let same : Some (chars rest) ≡ None = e ∙ none in cc)
    by (parted front back is at there d) =
        let same : chars rest ≡ back = (let both : Some (chars rest) ≡ Some back = e ∙ there in cc) in
        record {
          front = front;
          bytes =
              sym (encodes-chars text u) ∙ ap encodes is ∙ encodes-append front back
              ∙ ap (λ bs. encodes front ++ bs) (ap encodes (sym same) ∙ encodes-chars rest v);
          characters = scalars_front front back (ap scalars (sym is) ∙ scalars-chars text u);
          is = d;
        }

pub before-none : (text : List ℕ) (n : ℕ) → None ≡ behind (chars text) n → before (chars text) n ≡ None
before-none text n e = by (parts (chars text) n)
  where
    by : Parted (chars text) n → before (chars text) n ≡ None
    by (nowhere none d) = d
    by (parted front back is at there d) = absurd (let same : None ≡ Some back = e ∙ there in cc)

module _ (text rest : List ℕ) (n : ℕ) (f : Front text rest n) where
  lengths : length text ≡ length (encodes f.front) + length rest
  lengths = ap length f.bytes ∙ length-append (encodes f.front) rest

  pub front-le : length rest ≤ length text
  front-le = omega (arith, lengths)

  front_length : length (encodes f.front) ≡ length text - length rest
  front_length = omega (arith, lengths)

  pub front-boundary : IsUtf8 rest → IsCharBoundary text (length text - length rest)
  front-boundary v = subst (IsCharBoundary text) front_length (IsCharBoundary-at_seam text (encodes f.front) rest f.bytes v)

  pub front-is : Some (chars (take (length text - length rest) text)) ≡ before (chars text) n
  front-is =
      let taken : take (length text - length rest) text ≡ encodes f.front = ap (take (length text - length rest)) f.bytes ∙ take_at (encodes f.front) rest (length text - length rest) front_length in
      ap Some (ap chars taken ∙ chars-encodes f.front f.characters) ∙ sym f.is

-- ---- what a cut is

behind-at : (front back : List ℕ) → behind (front ++ back) (units_of front) ≡ Some back
behind-at [] back = behind-zero back
behind-at (c ∷ front) back =
    past c (units_in c + units_of front) (front ++ back) (omega arith)
    ∙ ap (behind (front ++ back)) (let e : units_in c + units_of front - units_in c ≡ units_of front = omega arith in e) ∙ behind-at front back

before-at : (front back : List ℕ) → before (front ++ back) (units_of front) ≡ Some front
before-at front back = by (parts (front ++ back) (units_of front))
  where
    by : Parted (front ++ back) (units_of front) → before (front ++ back) (units_of front) ≡ Some front
    by (nowhere none d) = absurd (let same : None ≡ Some back = sym none ∙ behind-at front back in cc)
    by (parted first rest is at there d) =
        let same : rest ≡ back = (let both : Some rest ≡ Some back = sym there ∙ behind-at front back in cc) in
        d ∙ ap Some (append_cancel_right first front back (ap (λ r. first ++ r) (sym same) ∙ sym is))

some_is : {A : Type 0} (x y : A) → Some x ≡ Some y → x ≡ y
some_is x y e = cc

none_is : {A : Type 0} {X : Type 0} (x : A) → None ≡ Some x → X
none_is x e = absurd (cc)

between : (text : List ℕ) (from to : ℕ) (part : List ℕ) → cut text from to ≡ Some part → StandsBetween text from to part
unfolding cut
between text from to part = by (nat_lt to from) refl (parts text from)
  where
    ends : (front rest : List ℕ) → nat_lt to from ≡ false → text ≡ front ++ rest → units_of front ≡ from → Parted rest (to - from) → before rest (to - from) ≡ Some part → StandsBetween text from to part
    ends front rest f is at (nowhere none d) e = none_is part (sym d ∙ e)
    ends front rest f is at (parted found back is' at' there d) e =
        let same : found ≡ part = some_is found part (sym d ∙ e) in
        let order : from ≤ to = grind (arith, nat_tests, f) in
        let units : units_of found ≡ units_of part = ap units_of same in
        (front, back, is ∙ ap (λ r. front ++ r) (is' ∙ ap (λ p. p ++ back) same), at, omega arith)

    starts : nat_lt to from ≡ false → Parted text from → option_and_then (λ rest. before rest (to - from)) (behind text from) ≡ Some part → StandsBetween text from to part
    starts f (nowhere none d) e = none_is part (sym (ap (option_and_then (λ rest. before rest (to - from))) none) ∙ e)
    starts f (parted front rest is at there d) e =
        ends front rest f is at (parts rest (to - from)) (sym (ap (option_and_then (λ rest. before rest (to - from))) there) ∙ e)

    by : (b : Bool) → nat_lt to from ≡ b → Parted text from → cut text from to ≡ Some part → StandsBetween text from to part
    by true t p e = none_is part (rw t at e)
    by false f p e = starts f p (rw f at e)

cut_at : (front part back : List ℕ) → cut (front ++ (part ++ back)) (units_of front) (units_of front + units_of part) ≡ Some part
unfolding cut
cut_at front part back =
    let order : nat_lt (units_of front + units_of part) (units_of front) ≡ false = grind (arith, nat_tests) in
    let length : units_of front + units_of part - units_of front ≡ units_of part = omega arith in
    rw (order, behind-at front (part ++ back), length) (before-at part back)

pub cut_is_between : CutIsBetween
cut_is_between text from to part = (
  between text from to part,
  λ (front, back, is, at, end).
      ap (λ t. cut t from to) is ∙ ap (λ n. cut (front ++ (part ++ back)) n to) (sym at) ∙ ap (cut (front ++ (part ++ back)) (units_of front)) (sym end) ∙ cut_at front part back,
)
