-- A datum within the limits is read from its tagged JSON, and a number from its digits.
use Rattle.std.proofs.Common.{◌≡◌, ℕ, ◌+◌, ◌%◌, ◌<◌, ◌≤◌, ◌^◌, ℤ, pos, negsuc, true, ◌&&◌, List, [], ◌∷◌, ◌++◌, Some, None, refl, sym, ap, ◌∙◌, arith, rules}
use Rattle.std.specs.Prelude.{nat_le}
use Rattle.std.specs.Fmt.{signed_decimal}
use Rattle.std.specs.List.{list_all}
use Rattle.std.proofs.lemmas.Bool.{and_from, and_parts, leb-true, le-leb, ltb-true}
use Rattle.std.proofs.lemmas.Bool.Decides.{nat_tests}
use Rattle.std.proofs.lemmas.Fmt.{decimal_by_steps}
use Rattle.std.proofs.lemmas.List.Folds.{list_all-append}
use Rattle.mt_tree.specs.declared.data.Data.{Data, the_lemmas}
use Rattle.mt_tree.specs.declared.data.Data as made
use Rattle.mt_syntax.specs.Data.{is_data, is_in_range}
use Rattle.mt_syntax.specs.DataLimits.{AreWithinLimits, bytes_of_data, depth_of_data, nodes_of_data}
use Rattle.mt_syntax.specs.DataText.{data_text}
use Rattle.mt_syntax.specs.Shape.{is_number}
use Rattle.mt_json.proofs.Again.{Begins}
use Rattle.mt_json.proofs.DataAt.{data_at_none, data_at_text}
use Rattle.mt_script_words.specs.Words.{is_word_byte}
use Rattle.mt_script_words.proofs.PlainWords.{IsDigitByte}
use Rattle.mt_script_words.specs.Values.{datum_of, is_within, number_in, number_of}
use Rattle.mt_tree.specs.Limits.{data_byte_limit, data_node_limit, data_depth_limit}

pub record Within (d : Data) : Type 0 where
  pub «data» : is_data d ≡ true
  pub depth : depth_of_data d ≤ data_depth_limit
  pub nodes : nodes_of_data d ≤ data_node_limit
  pub bytes : bytes_of_data d ≤ data_byte_limit

pub within : (d : Data) → is_within d ≡ true → Within d
within d h =
    let all = and_parts (is_data d) (nat_le (depth_of_data d) data_depth_limit && (nat_le (nodes_of_data d) data_node_limit && nat_le (bytes_of_data d) data_byte_limit)) h in
    let counts = and_parts (nat_le (depth_of_data d) data_depth_limit) (nat_le (nodes_of_data d) data_node_limit && nat_le (bytes_of_data d) data_byte_limit) all.1 in
    let last = and_parts (nat_le (nodes_of_data d) data_node_limit) (nat_le (bytes_of_data d) data_byte_limit) counts.1 in
    record { «data» = all.0; depth = leb-true _ _ counts.0; nodes = leb-true _ _ last.0; bytes = leb-true _ _ last.1 }

pub is_within_by : (d : Data) → Within d → is_within d ≡ true
is_within_by d w =
    and_from (is_data d) _ w.data (and_from (nat_le (depth_of_data d) data_depth_limit) _ (le-leb _ _ w.depth) (and_from (nat_le (nodes_of_data d) data_node_limit) _ (le-leb _ _ w.nodes) (le-leb _ _ w.bytes)))

pub alone : (d : Data) → Within d → AreWithinLimits (d ∷ [])
alone d w = record { «data» = and_from (is_data d) true w.data refl; depth = omega (arith, w.depth); nodes = omega (arith, w.nodes); bytes = omega (arith, w.bytes) }

pub within_alone : (d : Data) → AreWithinLimits (d ∷ []) → Within d
within_alone d w = record { «data» = (and_parts (is_data d) true w.data).0; depth = omega (arith, w.depth); nodes = omega (arith, w.nodes); bytes = omega (arith, w.bytes) }

pub datum_read : (d : Data) → is_within d ≡ true → datum_of (data_text d) ≡ Some d
datum_read d h = data_at_text d (alone d (within d h))

-- ---- numbers

number_data : (z : ℤ) → is_data (made.Num z) ≡ is_in_range z
number_data z = search (rules, the_lemmas)

number_depth : (z : ℤ) → depth_of_data (made.Num z) ≡ 0
number_depth z = search (rules, the_lemmas)

number_nodes : (z : ℤ) → nodes_of_data (made.Num z) ≡ 1
number_nodes z = search (rules, the_lemmas)

number_bytes : (z : ℤ) → bytes_of_data (made.Num z) ≡ 0
number_bytes z = search (rules, the_lemmas)

number_text : (z : ℤ) → data_text (made.Num z) ≡ signed_decimal z
number_text z = search (rules, the_lemmas)

number_itself : (z : ℤ) → number_in (made.Num z) ≡ Some z
number_itself z = search (rules, the_lemmas)

in_range : (z : ℤ) → is_number z ≡ true → is_in_range z ≡ true
in_range (pos n) h = h
in_range (negsuc n) h = absurd cc

pub number_read : (z : ℤ) → is_number z ≡ true → number_of (signed_decimal z) ≡ Some z
unfolding number_of
number_read z h =
    let w : Within (made.Num z) = record { «data» = number_data z ∙ in_range z h; depth = omega (arith, number_depth z); nodes = omega (arith, number_nodes z); bytes = omega (arith, number_bytes z) } in
    let read : datum_of (signed_decimal z) ≡ Some (made.Num z) = ap datum_of (sym (number_text z)) ∙ datum_read (made.Num z) (is_within_by (made.Num z) w) in
    rw (read, number_itself z, h) refl

-- ---- the digits of a number are a word

pub record IsDecimal (bytes : List ℕ) : Type 0 where
  pub begins : Begins bytes IsDigitByte
  pub word : list_all is_word_byte bytes ≡ true

digit_byte : (b : ℕ) → 48 ≤ b → b < 58 → is_word_byte b ≡ true
digit_byte b low high = grind (arith, nat_tests)

one_digit : (n : ℕ) → n < 10 → IsDecimal ((48 + n) ∷ [])
one_digit n small = record {
  begins = record { head = 48 + n; tail = []; whole = refl; is = (omega arith, omega arith) };
  word = rw (digit_byte (48 + n) (omega arith) (omega arith)) refl;
}

more_digits : (n : ℕ) (ds : List ℕ) → 10 ≤ n → IsDecimal ds → IsDecimal (ds ++ ((48 + n % 10) ∷ []))
more_digits n ds big d =
    let small : n % 10 < 10 = omega arith in
    record {
      begins = record { head = d.begins.head; tail = d.begins.tail ++ ((48 + n % 10) ∷ []); whole = ap (λ s. s ++ ((48 + n % 10) ∷ [])) d.begins.whole; is = d.begins.is };
      word = list_all-append is_word_byte ds ((48 + n % 10) ∷ []) ∙ rw (d.word, digit_byte (48 + n % 10) (omega arith) (omega arith)) refl;
    }

pub number_is_decimal : (z : ℤ) → is_number z ≡ true → IsDecimal (signed_decimal z)
number_is_decimal (pos n) h =
    let small : n < 2 ^ 53 = ltb-true n (2 ^ 53) h in
    decimal_by_steps (λ n ds. IsDecimal ds) one_digit more_digits n (omega arith)
number_is_decimal (negsuc n) h = absurd cc

-- ---- what a reader of data finds

pub datum_found : (bytes : List ℕ) (d : Data) → AreWithinLimits (d ∷ []) → data_text d ≡ bytes → datum_of bytes ≡ Some d
datum_found bytes d w text = ap datum_of (sym text) ∙ datum_read d (is_within_by d (within_alone d w))

pub datum_refused : (bytes : List ℕ) → ((d : Data) → AreWithinLimits (d ∷ []) → data_text d ≡ bytes → ⊥) → datum_of bytes ≡ None
datum_refused bytes h = data_at_none bytes h
