-- What is known of a JSON value and its text: it is read from this text.
use Rattle.std.proofs.Common.{◌≡◌, ℕ, suc, ◌^◌, ◌<◌, ◌≤◌, max, ℤ, pos, negsuc, List, [], ◌∷◌, ◌++◌, map, Bool, true, false, Some, option_map, option_and_then}
use Rattle.std.proofs.Common.{IsUtf8, refl, sym, ap, ap₂, subst, ◌∙◌, append_assoc, append-nil, arith}
use Rattle.std.specs.Str.{all_scalars, encode_utf8_all}
use Rattle.std.specs.Fmt.{decimal, signed_decimal}
use Rattle.std.proofs.lemmas.Bool.{lt-ltb, ltb-true}
use Rattle.std.proofs.lemmas.Str.{IsUtf8-append, IsUtf8-nil, IsUtf8-from_ascii}
use Rattle.std.proofs.lemmas.Fmt.{IsAscii-decimal}
use lib.Utf8.{encodes}
use Rattle.mt_syntax.specs.DataText.{json_text, separated_after, separated}
use Rattle.mt_syntax.specs.Data.{is_in_range}
use Rattle.json.specs.Json as plain
use Rattle.json.specs.Token.{Token}
use Rattle.json.specs.Print.{quoted}
use Rattle.json.specs.Tree as tree
use Rattle.json.specs.Lex.{tokens}
use Rattle.json.proofs.Printed.Tokens.{tokens-print}
use Rattle.json.proofs.Printed.Trees.{value-json_tokens, ArePrintable-json_tokens}
use Rattle.json.proofs.Printed.Utf8.{IsUtf8-are_ascii, IsUtf8-quoted}
use Rattle.json.proofs.Printed.Decimals.{IsNumber-signed_decimal}
use Rattle.serde_json.specs.Data as json
use Rattle.serde_json.specs.Find.{of_integer}
use Rattle.serde_json.specs.Read.{of_json, of_items, max_depth, read}
use Rattle.serde_json.specs.View.{items_of}
use Rattle.serde_json.specs.Written.{comma_if, compact_text, items_text, outline, items_outline}
use Rattle.serde_json.proofs.Numbers.{number_of-decimal, number_of-negative}
use Rattle.serde_json.proofs.Texts.{print-outline}
use Rattle.mt_json.proofs.JsonOf.{one_member}
use Rattle.mt_json.proofs.Escapes.{quoted-json_text}

-- ---- what is known of a JSON value that has this text: it nests no deeper than n, and is read from its text

pub record Reads (j : json.Data) (text : List ℕ) (n : ℕ) : Type 0 where
  pub written : compact_text j ≡ text
  pub numbers : tree.HasNumbers (outline j)
  pub shallow : tree.depth (outline j) ≤ n
  pub again : of_json (outline j) ≡ Some j
  pub utf8 : IsUtf8 text

pub tokens-of : (j : json.Data) (text : List ℕ) (n : ℕ) → Reads j text n → tokens text ≡ tree.json_tokens (outline j)
tokens-of j text n h = ap tokens (sym h.written ∙ sym (print-outline j)) ∙ tokens-print (tree.json_tokens (outline j)) (ArePrintable-json_tokens (outline j) h.numbers)

-- the grammar's tree of the text
pub tree-of : (j : json.Data) (text : List ℕ) (n m : ℕ) → Reads j text n → n ≤ m → plain.value m (tokens text) ≡ Some (outline j, [])
tree-of j text n m h deep =
    let t : tokens text ≡ tree.json_tokens (outline j) ++ [] = tokens-of j text n h ∙ sym (append-nil _) in
    ap (plain.value m) t ∙ value-json_tokens (outline j) m [] (omega (arith, h.shallow, deep))

pub read-text : (j : json.Data) (text : List ℕ) (n : ℕ) → Reads j text n → n ≤ max_depth → read text ≡ Some j
read-text j text n h deep = ap (λ o. option_and_then of_json (option_and_then (λ p. plain.if_last p.0 p.1) o)) (tree-of j text n max_depth h deep) ∙ h.again

abbrev Read : Type 0
Read = plain.Json × List Token

-- no two values have one text
pub one_value : (j k : json.Data) (s t : List ℕ) (m n : ℕ) → Reads j s m → Reads k t n → s ≡ t → j ≡ k
one_value j k s t m n h i same =
    let a : Read = (outline j, []) in
    let b : Read = (outline k, []) in
    let trees : Some a ≡ Some b = sym (tree-of j s m (max m n) h (omega arith)) ∙ ap (λ x. plain.value (max m n) (tokens x)) same ∙ tree-of k t n (max m n) i (omega arith) in
    let pair : a ≡ b = cc in
    let values : Some j ≡ Some k = sym h.again ∙ ap (λ (p : Read). of_json p.0) pair ∙ i.again in
    let one : j ≡ k = cc in one

pub Reads-deeper : (j : json.Data) (t : List ℕ) (m n : ℕ) → Reads j t m → m ≤ n → Reads j t n
Reads-deeper j t m n h le = record { written = h.written; numbers = h.numbers; shallow = omega (arith, h.shallow, le); again = h.again; utf8 = h.utf8 }

pub reads_text : (cs : List ℕ) → all_scalars cs ≡ true → Reads (json.string (encode_utf8_all cs)) (json_text cs) 0
reads_text cs scalar = record {
  written = quoted-json_text cs;
  numbers = tt;
  shallow = omega arith;
  again = refl;
  utf8 = subst IsUtf8 (quoted-json_text cs) (IsUtf8-quoted (encodes cs) (cs, (scalar, refl)));
}

pub reads_number : (z : ℤ) → is_in_range z ≡ true → Reads (json.number (of_integer z)) (signed_decimal z) 0
reads_number (pos n) range =
    let lt : n < 2 ^ 53 = ltb-true n (2 ^ 53) range in
    record {
      written = refl;
      numbers = IsNumber-signed_decimal (pos n) (omega arith);
      shallow = omega arith;
      again = ap (option_map json.number) (number_of-decimal n (omega arith));
      utf8 = IsUtf8-from_ascii (decimal n) (IsAscii-decimal n (omega arith));
    }
reads_number (negsuc n) range =
    let lt : suc n < 2 ^ 53 = ltb-true (suc n) (2 ^ 53) range in
    record {
      written = refl;
      numbers = IsNumber-signed_decimal (negsuc n) (omega arith);
      shallow = omega arith;
      again = ap (option_map json.number) (number_of-negative n (omega arith));
      utf8 = IsUtf8-append (45 ∷ []) (decimal (suc n)) (IsUtf8-are_ascii (45 ∷ []) refl) (IsUtf8-from_ascii (decimal (suc n)) (IsAscii-decimal (suc n) (omega arith)));
    }

pub reads_member : (letter : ℕ) (j : json.Data) (t : List ℕ) (n : ℕ) → quoted (letter ∷ []) ≡ 34 ∷ letter ∷ 34 ∷ [] → letter < 128 → Reads j t n
    → Reads (one_member letter j) (123 ∷ 34 ∷ letter ∷ 34 ∷ 58 ∷ (t ++ 125 ∷ [])) (suc n)
reads_member letter j t n key small h = record {
  written = ap (λ k. 123 ∷ (k ++ 58 ∷ (compact_text j ++ 125 ∷ []))) key ∙ ap (λ s. 123 ∷ 34 ∷ letter ∷ 34 ∷ 58 ∷ (s ++ 125 ∷ [])) h.written;
  numbers = (h.numbers, tt);
  shallow = omega (arith, h.shallow);
  again = rw h.again refl;
  utf8 = IsUtf8-append (123 ∷ 34 ∷ letter ∷ 34 ∷ 58 ∷ []) (t ++ 125 ∷ []) (IsUtf8-are_ascii _ (rw (lt-ltb letter 128 small) refl))
      (IsUtf8-append t (125 ∷ []) h.utf8 (IsUtf8-are_ascii (125 ∷ []) refl));
}

-- ---- lists

pub record ReadsAll (js : List json.Data) (texts : List (List ℕ)) (n : ℕ) : Type 0 where
  pub written : map compact_text js ≡ texts
  pub numbers : tree.ItemsHaveNumbers (items_outline (items_of js))
  pub shallow : tree.items_depth (items_outline (items_of js)) ≤ n
  pub again : of_items (items_outline (items_of js)) ≡ Some (items_of js)
  pub utf8 : (later : Bool) → IsUtf8 (separated_after later texts)

comma_utf8 : (later : Bool) → IsUtf8 (comma_if later)
comma_utf8 true = IsUtf8-are_ascii (44 ∷ []) refl
comma_utf8 false = IsUtf8-are_ascii [] refl

pub reads_none : (n : ℕ) → ReadsAll [] [] n
reads_none n = record { written = refl; numbers = tt; shallow = omega arith; again = refl; utf8 = λ later. IsUtf8-nil }

pub reads_one_more : (j : json.Data) (js : List json.Data) (t : List ℕ) (ts : List (List ℕ)) (n : ℕ) → Reads j t n → ReadsAll js ts n → ReadsAll (j ∷ js) (t ∷ ts) n
reads_one_more j js t ts n h all = record {
  written = ap₂ (λ (a : List ℕ) (b : List (List ℕ)). a ∷ b) h.written all.written;
  numbers = (h.numbers, all.numbers);
  shallow = omega (arith, h.shallow, all.shallow);
  again = rw (h.again, all.again) refl;
  utf8 = λ later. IsUtf8-append (comma_if later) (t ++ separated_after true ts) (comma_utf8 later) (IsUtf8-append t (separated_after true ts) h.utf8 (all.utf8 true));
}

items_separated : (later : Bool) (js : List json.Data) → items_text later (items_of js) ≡ separated_after later (map compact_text js) ++ 93 ∷ []
items_separated later [] = refl
items_separated later (j ∷ js) =
    ap (λ s. comma_if later ++ (compact_text j ++ s)) (items_separated true js) ∙ ap (λ s. comma_if later ++ s) (sym (append_assoc (compact_text j) _ _)) ∙ sym (append_assoc (comma_if later) _ _)

pub reads_array : (js : List json.Data) (ts : List (List ℕ)) (n : ℕ) → ReadsAll js ts n → Reads (json.array (items_of js)) (91 ∷ (separated ts ++ 93 ∷ [])) (suc n)
reads_array js ts n all = record {
  written = ap (λ s. 91 ∷ s) (items_separated false js) ∙ ap (λ us. 91 ∷ (separated us ++ 93 ∷ [])) all.written;
  numbers = all.numbers;
  shallow = omega (arith, all.shallow);
  again = rw all.again refl;
  utf8 = IsUtf8-append (91 ∷ []) (separated ts ++ 93 ∷ []) (IsUtf8-are_ascii (91 ∷ []) refl) (IsUtf8-append (separated ts) (93 ∷ []) (all.utf8 false) (IsUtf8-are_ascii (93 ∷ []) refl));
}
