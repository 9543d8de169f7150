-- Pages, by their texts.
use Rattle.std.proofs.Common.{◌≡◌, ◌≤◌, ◌<◌, ◌+◌, ◌/◌, ◌%◌, ◌^◌, ◌↔◌, ℕ, Bool, true, false, ◌&&◌, List, [], ◌∷◌, ◌++◌, length, drop, decimal, nat_le, refl, sym, ap, ◌∙◌, subst, arith, append_assoc, if◌then◌else◌, Option, None, Some, ◌⊎◌, inl, inr}
use Rattle.std.proofs.lemmas.List.{length-append, append_cancel_left}
use Rattle.std.proofs.lemmas.Bool.{and_parts, and_from, leb-true, le-leb, cases_lt}
use Rattle.std.proofs.lemmas.Bool.Decides.{nat_tests}
use Rattle.std.proofs.lemmas.Fmt.{decimal_by_steps, decimal_injective, decimal_digit, decimal_step, decimal_nonempty, length-decimal-le}
use Rattle.std.proofs.lemmas.Slice.Eq.{bytes_eq-Decides}
use Rattle.std.specs.List.{list_all}
use Rattle.std.specs.Str.{bytes_eq}
use Rattle.mt_small.specs.Paragraph.{is_plain, is_paragraph}
use Rattle.mt_small.specs.Wire.{page_front, page_middle, page_back, page_head, page_wire}
use Rattle.mt_small.specs.Reading.{text_in, is_page_of, page_in}
use Rattle.mt_small.proofs.Between.{between_is, list_all-append, same_run, same_front}

pub plain_below : (byte : ℕ) → is_plain byte ≡ true → byte < 128
plain_below byte passes = grind (arith, nat_tests)

pub plain_of_paragraph : (text : List ℕ) → is_paragraph text ≡ true → list_all is_plain text ≡ true
plain_of_paragraph text good =
    let parts = and_parts (nat_le 1 (length text)) (nat_le (length text) 1000 && list_all is_plain text) good in
    (and_parts (nat_le (length text) 1000) (list_all is_plain text) parts.1).1

pub paragraph_size : (text : List ℕ) → is_paragraph text ≡ true → (1 ≤ length text) × (length text ≤ 1000)
paragraph_size text good =
    let parts = and_parts (nat_le 1 (length text)) (nat_le (length text) 1000 && list_all is_plain text) good in
    (leb-true 1 (length text) parts.0, leb-true (length text) 1000 (and_parts (nat_le (length text) 1000) (list_all is_plain text) parts.1).0)

-- ---- decimal digits

abbrev is_digit : ℕ → Bool
is_digit byte = nat_le 48 byte && nat_le byte 57

digit_of : (n : ℕ) → n < 10 → is_digit (48 + n) ≡ true
digit_of n small = and_from (nat_le 48 (48 + n)) (nat_le (48 + n) 57) (le-leb 48 (48 + n) (omega arith)) (le-leb (48 + n) 57 (omega arith))

decimal_digits : (n : ℕ) → n < 2 ^ 64 → list_all is_digit (decimal n) ≡ true
decimal_digits = decimal_by_steps (λ n digits. list_all is_digit digits ≡ true)
    (λ n small. rw (digit_of n small) refl)
    (λ n digits big rest. list_all-append is_digit digits ((48 + n % 10) ∷ []) rest (rw (digit_of (n % 10) (omega arith)) refl))

one_digit : (n : ℕ) → n < 10 → length (decimal n) ≡ 1
one_digit n small = ap length (decimal_digit n small)

one_more_digit : (n : ℕ) → 10 ≤ n → n < 2 ^ 64 → length (decimal n) ≡ length (decimal (n / 10)) + 1
one_more_digit n big small = ap length (decimal_step n big small) ∙ length-append (decimal (n / 10)) ((48 + n % 10) ∷ [])

-- from 10 to 9,999
pub digit_count : (n : ℕ) → 10 ≤ n → n < 10000 → (length (decimal n) ≡ 2) ⊎ ((length (decimal n) ≡ 3) ⊎ (length (decimal n) ≡ 4))
digit_count n low high =
    let least : 0 < length (decimal (n / 10)) = decimal_nonempty (n / 10) (omega arith) in
    let more = one_more_digit n low (omega arith) in
    let most : length (decimal n) ≤ 4 = length-decimal-le 4 n (omega arith) (omega arith) (omega arith) in
    elim (cases_lt (length (decimal n)) 3) [
      | inl below ↦ inl (omega arith)
      | inr above ↦ elim (cases_lt (length (decimal n)) 4) [ inl below ↦ inr (inl (omega arith)) | inr top ↦ inr (inr (omega arith)) ]
    ]

-- ---- the parts of a page

middle_starts : (more : List ℕ) → page_middle ++ more ≡ 13 ∷ (drop 1 page_middle ++ more)
unfolding page_middle
middle_starts more = refl

page_parts : (text more : List ℕ) → page_wire text ++ more ≡ page_front ++ (decimal (length text + 22) ++ 13 ∷ (drop 1 page_middle ++ (text ++ (page_back ++ more))))
page_parts text more =
    let digits = decimal (length text + 22) in
    append_assoc (page_head (length text) ++ text) page_back more
    ∙ append_assoc (page_head (length text)) text (page_back ++ more)
    ∙ append_assoc (page_front ++ digits) page_middle (text ++ (page_back ++ more))
    ∙ append_assoc page_front digits (page_middle ++ (text ++ (page_back ++ more)))
    ∙ ap (λ (l : List ℕ). page_front ++ (digits ++ l)) (middle_starts (text ++ (page_back ++ more)))

pub same_page : (a b us vs : List ℕ) → is_paragraph a ≡ true → is_paragraph b ≡ true → page_wire a ++ us ≡ page_wire b ++ vs → (a ≡ b) × (us ≡ vs)
same_page a b us vs first second same =
    let size_a = paragraph_size a first in
    let size_b = paragraph_size b second in
    let rest_a = drop 1 page_middle ++ (a ++ (page_back ++ us)) in
    let rest_b = drop 1 page_middle ++ (b ++ (page_back ++ vs)) in
    let behind = append_cancel_left page_front (decimal (length a + 22) ++ 13 ∷ rest_a) (decimal (length b + 22) ++ 13 ∷ rest_b) (sym (page_parts a us) ∙ same ∙ page_parts b vs) in
    let small_a : length a + 22 < 2 ^ 64 = omega arith in
    let small_b : length b + 22 < 2 ^ 64 = omega arith in
    let run = same_run is_digit 13 refl (decimal (length a + 22)) (decimal (length b + 22)) rest_a rest_b
    (decimal_digits (length a + 22) small_a) (decimal_digits (length b + 22) small_b) behind in
    let counts : length a + 22 ≡ length b + 22 = decimal_injective (length a + 22) (length b + 22) small_a small_b run.0 in
    let sizes : length a ≡ length b = omega arith in
    let texts = same_front a b (page_back ++ us) (page_back ++ vs) sizes
    (append_cancel_left (drop 1 page_middle) (a ++ (page_back ++ us)) (b ++ (page_back ++ vs)) run.1) in
    (texts.0, append_cancel_left page_back us vs texts.1)

head_size : (text : List ℕ) → length (page_head (length text)) ≡ length page_front + length (decimal (length text + 22)) + length page_middle
head_size text =
    length-append (page_front ++ decimal (length text + 22)) page_middle
    ∙ ap (λ (n : ℕ). n + length page_middle) (length-append page_front (decimal (length text + 22)))

text_in_page : (text : List ℕ) (digits : ℕ) → length (decimal (length text + 22)) ≡ digits → text_in digits (page_wire text) ≡ text
text_in_page text digits count =
    between_is (page_head (length text)) text page_back (length page_front + digits + length page_middle) (length page_back)
    (head_size text ∙ ap (λ (n : ℕ). length page_front + n + length page_middle) count) refl

-- ---- what is read

page_of : (bytes text : List ℕ) → is_page_of bytes text ≡ true → (is_paragraph text ≡ true) × (bytes ≡ page_wire text)
page_of bytes text said =
    let parts = and_parts (is_paragraph text) (bytes_eq bytes (page_wire text)) said in
    (parts.0, (bytes_eq-Decides bytes (page_wire text)).0 parts.1)

of_page : (bytes text : List ℕ) → is_paragraph text ≡ true → bytes ≡ page_wire text → is_page_of bytes text ≡ true
of_page bytes text good same = and_from (is_paragraph text) (bytes_eq bytes (page_wire text)) good ((bytes_eq-Decides bytes (page_wire text)).1 same)

abbrev chosen : Bool → Bool → Bool → List ℕ → List ℕ → List ℕ → Option (List ℕ)
chosen short middle long two three four = if short then Some two else if middle then Some three else if long then Some four else None

chosen_is : (short middle long : Bool) (two three four text : List ℕ) → chosen short middle long two three four ≡ Some text
    → ((short ≡ true) × (two ≡ text)) ⊎ (((middle ≡ true) × (three ≡ text)) ⊎ ((long ≡ true) × (four ≡ text)))
chosen_is true middle long two three four text said = inl (refl, cc)
chosen_is false true long two three four text said = inr (inl (refl, cc))
chosen_is false false true two three four text said = inr (inr (refl, cc))
chosen_is false false false two three four text said = absurd (cc)

-- where each choice is the text, and one is made
chosen_from : (short middle long : Bool) (two three four text : List ℕ)
    → (short ≡ true → two ≡ text) → (middle ≡ true → three ≡ text) → (long ≡ true → four ≡ text)
    → (short ≡ true) ⊎ ((middle ≡ true) ⊎ (long ≡ true)) → chosen short middle long two three four ≡ Some text
chosen_from true middle long two three four text a b c one = ap Some (a refl)
chosen_from false true long two three four text a b c one = ap Some (b refl)
chosen_from false false true two three four text a b c one = ap Some (c refl)
chosen_from false false false two three four text a b c (inl one) = absurd (cc)
chosen_from false false false two three four text a b c (inr (inl one)) = absurd (cc)
chosen_from false false false two three four text a b c (inr (inr one)) = absurd (cc)

pub page_in_is : (bytes text : List ℕ) → (page_in bytes ≡ Some text) ↔ ((is_paragraph text ≡ true) × (bytes ≡ page_wire text))
page_in_is bytes text = (read, written) where
  from : (found : List ℕ) → is_page_of bytes found ≡ true → found ≡ text → (is_paragraph text ≡ true) × (bytes ≡ page_wire text)
  from found said same = page_of bytes text (subst (λ (t : List ℕ). is_page_of bytes t ≡ true) same said)

  read : page_in bytes ≡ Some text → (is_paragraph text ≡ true) × (bytes ≡ page_wire text)
  read said =
      elim (chosen_is (is_page_of bytes (text_in 2 bytes)) (is_page_of bytes (text_in 3 bytes)) (is_page_of bytes (text_in 4 bytes)) (text_in 2 bytes) (text_in 3 bytes) (text_in 4 bytes) text said) [
        | inl is ↦ from (text_in 2 bytes) is.0 is.1
        | inr (inl is) ↦ from (text_in 3 bytes) is.0 is.1
        | inr (inr is) ↦ from (text_in 4 bytes) is.0 is.1
      ]

  only : (is_paragraph text ≡ true) × (bytes ≡ page_wire text) → (found : List ℕ) → is_page_of bytes found ≡ true → found ≡ text
  only is found said =
      let other = page_of bytes found said in
      (same_page found text [] [] other.0 is.0 (ap (λ (l : List ℕ). l ++ []) (sym other.1 ∙ is.1))).0

  hit : (is_paragraph text ≡ true) × (bytes ≡ page_wire text) → (digits : ℕ) → length (decimal (length text + 22)) ≡ digits → is_page_of bytes (text_in digits bytes) ≡ true
  hit is digits count =
      subst (λ (t : List ℕ). is_page_of bytes t ≡ true) (sym (ap (text_in digits) is.1 ∙ text_in_page text digits count)) (of_page bytes text is.0 is.1)

  one : (is_paragraph text ≡ true) × (bytes ≡ page_wire text)
      → (is_page_of bytes (text_in 2 bytes) ≡ true) ⊎ ((is_page_of bytes (text_in 3 bytes) ≡ true) ⊎ (is_page_of bytes (text_in 4 bytes) ≡ true))
  one is = let size = paragraph_size text is.0 in
      elim (digit_count (length text + 22) (omega arith) (omega arith)) [
        | inl count ↦ inl (hit is 2 count)
        | inr (inl count) ↦ inr (inl (hit is 3 count))
        | inr (inr count) ↦ inr (inr (hit is 4 count))
      ]

  written : (is_paragraph text ≡ true) × (bytes ≡ page_wire text) → page_in bytes ≡ Some text
  written is = chosen_from (is_page_of bytes (text_in 2 bytes)) (is_page_of bytes (text_in 3 bytes)) (is_page_of bytes (text_in 4 bytes))
      (text_in 2 bytes) (text_in 3 bytes) (text_in 4 bytes) text
      (only is (text_in 2 bytes)) (only is (text_in 3 bytes)) (only is (text_in 4 bytes)) (one is)

-- ---- sizes

front_size : length page_front ≡ 73
unfolding page_front
front_size = refl

middle_size : length page_middle ≡ 41
unfolding page_middle
middle_size = refl

pub page_size : (text : List ℕ) → is_paragraph text ≡ true → length (page_wire text) ≤ length text + 122
page_size text good =
    let size = paragraph_size text good in
    let most : length (decimal (length text + 22)) ≤ 4 = length-decimal-le 4 (length text + 22) (omega arith) (omega arith) (omega arith) in
    let head = head_size text in
    simp (length-append, front_size, middle_size) (omega arith)
