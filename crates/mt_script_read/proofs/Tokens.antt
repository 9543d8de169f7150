-- The tokens of code: its words, its literals and each other byte. What a text of code has as its tokens, and what it is with short
-- leaves, is told part by part.
use Rattle.std.proofs.Common.{◌≡◌, ℕ, suc, ◌+◌, ◌<◌, ◌≤◌, ℤ, Bool, true, false, not, ◌&&◌, ◌||◌, eqb, List, [], ◌∷◌, ◌++◌, drop, length, map, Option, Some, None, refl, sym, ap, subst, ◌∙◌, append_assoc, zero-add, arith, rules}
use Rattle.std.specs.Prelude.{◌==◌, if◌then◌else◌, codes, encode_utf8_all}
use Rattle.std.specs.Fmt.{signed_decimal}
use Rattle.std.specs.List.{flat_map, list_all, list_any}
use Rattle.std.specs.Str.{IsUtf8, all_scalars, bytes_eq, chars}
use lib.Utf8.{encode, encodes}
use Rattle.std.proofs.lemmas.Bool.{and_parts, le-leb, lt-ltb, not-true}
use Rattle.std.proofs.lemmas.Grind.{flat_map-append}
use Rattle.std.proofs.lemmas.List.{append-nil, length-append}
use Rattle.std.proofs.lemmas.Str.{chars-encodes, encodes-chars, scalars-chars}
use Rattle.mt_tree.specs.Words.{is_reserved, reserved_words}
use Rattle.mt_tree.specs.declared.data.Data.{Data, the_lemmas}
use Rattle.mt_tree.specs.declared.data.Data as made
use Rattle.mt_syntax.specs.CodeText.{code_escaped, literal, name_text, value_text}
use Rattle.mt_syntax.specs.Data.{is_data, is_digit}
use Rattle.mt_syntax.specs.DataText.{data_text, separated, separated_after}
use Rattle.mt_syntax.specs.Gathering.{all_of}
use Rattle.mt_syntax.specs.Names.{is_name}
use Rattle.mt_syntax.specs.Shape.{is_number}
use Rattle.mt_syntax.specs.declared.tree.Mark.{Mark}
use Rattle.mt_syntax_laws.proofs.Utf8.{data_utf8}
use Rattle.mt_json.specs.Reading.{◌>>=◌, Parse, many}
use Rattle.mt_json.proofs.Many.{with_front}
use Rattle.mt_script_words.specs.Literals.{string_at}
use Rattle.mt_script_words.specs.Words.{after_word, is_word_byte, word_of}
use Rattle.mt_script_words.proofs.LiteralTexts.{string_read}
use Rattle.mt_script_words.proofs.NameBytes.{known_word}
use Rattle.mt_script_words.proofs.ValueTexts.{number_is_decimal}
use Rattle.mt_script_words.proofs.WordTexts.{ends_word, name_begins, name_bytes, named, word_passed, word_read}
use Rattle.mt_script_read.proofs.Shortened.{short_mark, short_name, short_text, short_value}
use Rattle.mt_script_read.proofs.Goodness.{Each}
use Rattle.mt_script_read.proofs.Leaves.{Leaf, Leaves, leaves_of_marks, name_leaf, no_leaves, text_leaf, then_leaves}

pub data Token : Type 0 where
  Byte : ℕ → Token
  Word : List ℕ → Token
  Text : List ℕ → Token
  Value : List ℕ → Token

abbrev token_from : ℕ → Parse (Option Token)
token_from b bytes =
    if is_word_byte b then Some (Some (Token.Word (word_of (b ∷ bytes))), after_word (b ∷ bytes)) else
    if b == 34 then (string_at bytes >>= λ s. Some (Some (Token.Text s.0), s.1)) else
    if b == 36 then (string_at (drop 3 bytes) >>= λ s. Some (Some (Token.Value s.0), s.1)) else
    Some (Some (Token.Byte b), bytes)

-- a token, or None at the end
abbrev pub token_at : Parse (Option Token)
token_at [] = Some (None, [])
token_at (b ∷ bytes) = token_from b bytes

-- ---- what a token is with short leaves, and which leaf it is

abbrev starts_number : List ℕ → Bool
starts_number [] = false
starts_number (b ∷ bytes) = is_digit b

-- whether a word is no name
abbrev is_kept : List ℕ → Bool
is_kept word = starts_number word || list_any (λ known. bytes_eq known word) reserved_words

abbrev pub shown : Token → List ℕ
shown (Token.Byte b) = b ∷ []
shown (Token.Word word) = if is_kept word then word else 97 ∷ []
shown (Token.Text bytes) = 34 ∷ 34 ∷ []
shown (Token.Value bytes) = codes "$v(\"null\""

-- the kind of a leaf, and the bytes that it is known by
abbrev pub Raw : Type 0
Raw = ℕ × List ℕ

abbrev pub raw_of : Token → List Raw
raw_of (Token.Byte b) = []
raw_of (Token.Word word) = if is_kept word then [] else (0, word) ∷ []
raw_of (Token.Text bytes) = (1, bytes) ∷ []
raw_of (Token.Value bytes) = (2, bytes) ∷ []

abbrev pub raw : Leaf → Raw
raw (Leaf.Name cs) = (0, encodes cs)
raw (Leaf.Text cs) = (1, encodes cs)
raw (Leaf.Value d) = (2, data_text d)

-- it is known by its bytes
abbrev pub IsKnown : Leaf → Type 0
IsKnown (Leaf.Name cs) = all_scalars cs ≡ true
IsKnown (Leaf.Text cs) = all_scalars cs ≡ true
IsKnown (Leaf.Value d) = is_data d ≡ true

abbrev pub AreKnown : List Leaf → Type 0
AreKnown = Each IsKnown

-- ---- a text and its tokens

-- The text is read as some tokens, where no word can go on behind it or where it is free of that; they are short as a text with short
-- leaves, and hold the leaves.
pub record Spelled (free : Bool) (text short : List ℕ) (leaves : Leaves) : Type 0 where
  pub tokens : List Token
  pub reads : (n : ℕ) (rest : List ℕ) → (free || ends_word rest) ≡ true → many token_at (length tokens + n) (text ++ rest) ≡ with_front tokens (many token_at n rest)
  pub fits : length tokens ≤ length text
  pub shows : flat_map shown tokens ≡ short
  pub holds : (ls : List Leaf) → flat_map raw_of tokens ++ map raw ls ≡ map raw (leaves ls)
  pub known : (ls : List Leaf) → AreKnown ls → AreKnown (leaves ls)

nothing_in_front : (read : Option (List Token × List ℕ)) → read ≡ with_front [] read
nothing_in_front (Some x) = refl
nothing_in_front None = refl

two_in_front : (x y : List Token) (read : Option (List Token × List ℕ)) → with_front x (with_front y read) ≡ with_front (x ++ y) read
two_in_front x y (Some r) = ap (λ (s : List Token). Some (s, r.1)) (sym (append_assoc x y r.0))
two_in_front x y None = refl

pub loose : {text short : List ℕ} {leaves : Leaves} → Spelled true text short leaves → Spelled false text short leaves
loose p = record { tokens = p.tokens; reads = λ n rest e. p.reads n rest refl; fits = p.fits; shows = p.shows; holds = p.holds; known = p.known }

pub moved : {free : Bool} {text text' short short' : List ℕ} {leaves leaves' : Leaves} → text ≡ text' → short ≡ short' → leaves ≡ leaves' → Spelled free text' short' leaves'
    → Spelled free text short leaves
moved {free} {text} {text'} {short} {short'} {leaves} {leaves'} a b c p =
    subst (λ l. Spelled free text short l) (sym c) (subst (λ s. Spelled free text s leaves') (sym b) (subst (λ t. Spelled free t short' leaves') (sym a) p))

pub nothing : Spelled true [] [] no_leaves
nothing = record { tokens = []; reads = λ n rest e. rw zero-add (nothing_in_front (many token_at n rest)); fits = omega arith; shows = refl; holds = λ ls. refl; known = λ ls k. k }

-- one text behind another
pub join : {free free' : Bool} {text text' short short' : List ℕ} {leaves leaves' : Leaves} → Spelled free text short leaves → Spelled free' text' short' leaves'
    → ((rest : List ℕ) → (free' || ends_word rest) ≡ true → (free || ends_word (text' ++ rest)) ≡ true) → Spelled free' (text ++ text') (short ++ short') (λ ls. leaves (leaves' ls))
join {free} {free'} {text} {text'} {short} {short'} {leaves} {leaves'} p q h = record {
  tokens = p.tokens ++ q.tokens;
  reads = λ n rest e.
      let k : length (p.tokens ++ q.tokens) + n ≡ length p.tokens + (length q.tokens + n) = omega (arith, length-append p.tokens q.tokens) in
      ap (λ m. many token_at m ((text ++ text') ++ rest)) k ∙ ap (many token_at (length p.tokens + (length q.tokens + n))) (append_assoc text text' rest)
      ∙ p.reads (length q.tokens + n) (text' ++ rest) (h rest e) ∙ ap (with_front p.tokens) (q.reads n rest e) ∙ two_in_front p.tokens q.tokens (many token_at n rest);
  fits = omega (arith, length-append p.tokens q.tokens, length-append text text', p.fits, q.fits);
  shows = flat_map-append shown p.tokens q.tokens ∙ ap (λ s. s ++ flat_map shown q.tokens) p.shows ∙ ap (λ s. short ++ s) q.shows;
  holds = λ ls.
      ap (λ s. s ++ map raw ls) (flat_map-append raw_of p.tokens q.tokens) ∙ append_assoc (flat_map raw_of p.tokens) (flat_map raw_of q.tokens) (map raw ls)
      ∙ ap (λ s. flat_map raw_of p.tokens ++ s) (q.holds ls) ∙ p.holds (leaves' ls);
  known = λ ls k. p.known (leaves' ls) (q.known ls k);
}

one : (free : Bool) (text short : List ℕ) (leaves : Leaves) (t : Token) → 0 < length text → ((rest : List ℕ) → (free || ends_word rest) ≡ true → token_at (text ++ rest) ≡ Some (Some t, rest))
    → shown t ≡ short
    → ((ls : List Leaf) → raw_of t ++ map raw ls ≡ map raw (leaves ls)) → ((ls : List Leaf) → AreKnown ls → AreKnown (leaves ls)) → Spelled free text short leaves
unfolding many
one free text short leaves t long reads shows holds known = record {
  tokens = t ∷ [];
  reads = λ n rest e. let k : 1 + n ≡ suc n = omega arith in ap (λ m. many token_at m (text ++ rest)) k ∙ rw (reads rest e) refl;
  fits = omega (arith, long);
  shows = append-nil (shown t) ∙ shows;
  holds = λ ls. ap (λ s. s ++ map raw ls) (append-nil (raw_of t)) ∙ holds ls;
  known = known;
}

-- ---- signs

abbrev pub is_sign : ℕ → Bool
is_sign b = not (is_word_byte b) && (not (eqb b 34) && not (eqb b 36))

sign : (b : ℕ) → is_sign b ≡ true → Spelled true (b ∷ []) (b ∷ []) no_leaves
sign b h =
    let first = and_parts (not (is_word_byte b)) (not (eqb b 34) && not (eqb b 36)) h in
    let last = and_parts (not (eqb b 34)) (not (eqb b 36)) first.1 in
    one true (b ∷ []) (b ∷ []) no_leaves (Token.Byte b) (omega arith)
    (λ rest e. rw (not-true (is_word_byte b) first.0, not-true (eqb b 34) last.0, not-true (eqb b 36) last.1) refl) refl (λ ls. refl) (λ ls k. k)

pub signs : (bs : List ℕ) → list_all is_sign bs ≡ true → Spelled true bs bs no_leaves
signs [] h = nothing
signs (b ∷ bs) h = let parts = and_parts (is_sign b) (list_all is_sign bs) h in join (sign b parts.0) (signs bs parts.1) (λ rest e. refl)

-- ---- words

word_token : (b : ℕ) (bs rest : List ℕ) → list_all is_word_byte (b ∷ bs) ≡ true → ends_word rest ≡ true → token_at ((b ∷ bs) ++ rest) ≡ Some (Some (Token.Word (b ∷ bs)), rest)
word_token b bs rest bytes e =
    let byte : is_word_byte b ≡ true = (and_parts (is_word_byte b) (list_all is_word_byte bs) bytes).0 in
    let whole : word_of (b ∷ (bs ++ rest)) ≡ b ∷ bs = word_read (b ∷ bs) rest bytes e in
    let passed : after_word (b ∷ (bs ++ rest)) ≡ rest = word_passed (b ∷ bs) rest bytes e in
    rw byte (λ i. Some (Some (Token.Word (whole i)), passed i))

-- a word of the language or a number
pub word : (b : ℕ) (bs : List ℕ) → list_all is_word_byte (b ∷ bs) ≡ true → is_kept (b ∷ bs) ≡ true → Spelled false (b ∷ bs) (b ∷ bs) no_leaves
word b bs bytes kept =
    one false (b ∷ bs) (b ∷ bs) no_leaves (Token.Word (b ∷ bs)) (omega arith) (λ rest e. word_token b bs rest bytes e) (rw kept refl) (λ ls. rw kept refl) (λ ls k. k)

unreserved : (cs : List ℕ) → is_name cs ≡ true → list_any (λ known. bytes_eq known (encodes cs)) reserved_words ≡ false
unreserved cs name =
    let known = named cs name in
    let utf8 : IsUtf8 (encodes cs) = (cs, (known.scalars, refl)) in
    known_word reserved_words (encodes cs) utf8 refl ∙ ap (λ s. list_any (λ w. bytes_eq w s) reserved_words) (chars-encodes cs known.scalars) ∙ not-true (is_reserved cs) known.free

letter_bytes : encode_utf8_all (97 ∷ []) ≡ 97 ∷ []
unfolding encode
letter_bytes = refl

pub name_spelled : (cs : List ℕ) → is_name cs ≡ true → Spelled false (encode_utf8_all cs) (encode_utf8_all (short_name cs)) (name_leaf cs)
name_spelled cs name =
    let b = name_begins cs name in
    let bytes : list_all is_word_byte (b.head ∷ b.tail) ≡ true = ap (list_all is_word_byte) (sym b.whole) ∙ name_bytes cs name in
    let first : starts_number (encodes cs) ≡ false = ap starts_number b.whole ∙ b.is.1 in
    let free : is_kept (encodes cs) ≡ false = rw first (unreserved cs name) in
    let short : encode_utf8_all (short_name cs) ≡ 97 ∷ [] = rw name letter_bytes in
    one false (encode_utf8_all cs) (encode_utf8_all (short_name cs)) (name_leaf cs) (Token.Word (encodes cs)) (omega (arith, ap length b.whole))
    (λ rest e. subst (λ s. token_at (s ++ rest) ≡ Some (Some (Token.Word s), rest)) (sym b.whole) (word_token b.head b.tail rest bytes e))
    (rw free (sym short)) (λ ls. rw free refl) (λ ls k. ((named cs name).scalars, k))

pub number_spelled : (z : ℤ) → is_number z ≡ true → Spelled false (signed_decimal z) (signed_decimal z) no_leaves
number_spelled z number =
    let d = number_is_decimal z number in
    let b = d.begins in
    let digit : is_digit b.head ≡ true = rw (le-leb 48 b.head b.is.0, lt-ltb b.head 58 b.is.1) refl in
    let kept : is_kept (b.head ∷ b.tail) ≡ true = rw digit refl in
    subst (λ s. Spelled false s s no_leaves) (sym b.whole) (word b.head b.tail (ap (list_all is_word_byte) (sym b.whole) ∙ d.word) kept)

-- ---- literals

pub text_spelled : (cs : List ℕ) → all_scalars cs ≡ true → Spelled true (literal cs) (literal (short_text cs)) (text_leaf cs)
text_spelled cs scalars =
    one true (literal cs) (literal (short_text cs)) (text_leaf cs) (Token.Text (encodes cs)) (omega arith)
    (λ rest e. ap (token_from 34) (append_assoc (flat_map code_escaped cs) (34 ∷ []) rest) ∙ rw (string_read cs rest scalars) refl)
    (rw scalars refl) (λ ls. refl) (λ ls k. (scalars, k))

null_text : data_text made.Null ≡ codes "null"
null_text = search (rules, the_lemmas)

null_literal : literal (chars (codes "null")) ≡ codes "\"null\""
unfolding code_escaped encode chars
null_literal = refl

pub value_spelled : (d : Data) → is_data d ≡ true → Spelled true (value_text (data_text d)) (value_text (data_text (short_value d))) (λ ls. Leaf.Value d ∷ ls)
value_spelled d is =
    let utf8 : IsUtf8 (data_text d) = data_utf8 d is in
    let cs : List ℕ = chars (data_text d) in
    let short : List ℕ = chars (data_text (short_value d)) in
    let null : literal short ≡ codes "\"null\"" = rw is (ap (λ s. literal (chars s)) null_text ∙ null_literal) in
    let front : Spelled true (36 ∷ 118 ∷ 40 ∷ literal cs) (36 ∷ 118 ∷ 40 ∷ literal short) (λ ls. Leaf.Value d ∷ ls) =
    one true (36 ∷ 118 ∷ 40 ∷ literal cs) (36 ∷ 118 ∷ 40 ∷ literal short) (λ ls. Leaf.Value d ∷ ls) (Token.Value (data_text d)) (omega arith)
    (λ rest e.
    ap (λ s. token_from 36 (118 ∷ 40 ∷ 34 ∷ s)) (append_assoc (flat_map code_escaped cs) (34 ∷ []) rest)
    ∙ rw (string_read cs rest (scalars-chars (data_text d) utf8), encodes-chars (data_text d) utf8) refl)
    (sym (ap (λ s. 36 ∷ 118 ∷ 40 ∷ s) null)) (λ ls. refl) (λ ls k. (is, k)) in
    join front (signs (codes ")") refl) (λ rest e. refl)

-- ---- lists

module _ {A : Type 0} (text : A → List ℕ) (short : A → A) (leaves : A → Leaves) where
  abbrev pub EachSpelled : Bool → List A → Type 0
  EachSpelled free = Each (λ a. Spelled free (text a) (text (short a)) (leaves a))

  comma_next : (items : List A) (rest : List ℕ) → ends_word rest ≡ true → ends_word (separated_after true (map text items) ++ rest) ≡ true
  comma_next [] rest e = e
  comma_next (a ∷ items) rest e = refl

  -- with commas between them
  pub listed : (later : Bool) (items : List A) → EachSpelled false items
      → Spelled false (separated_after later (map text items)) (separated_after later (map text (map short items))) (all_of no_leaves then_leaves (map leaves items))
  listed later [] all = loose nothing
  listed true (a ∷ items) all = join (signs (44 ∷ []) refl) (join all.0 (listed true items all.1) (comma_next items)) (λ rest e. refl)
  listed false (a ∷ items) all = join all.0 (listed true items all.1) (comma_next items)

  -- one directly behind the other
  pub in_line : (items : List A) → EachSpelled true items → Spelled true (flat_map (λ t. t) (map text items)) (flat_map (λ t. t) (map text (map short items)))
      (all_of no_leaves then_leaves (map leaves items))
  in_line [] all = nothing
  in_line (a ∷ items) all = join all.0 (in_line items all.1) (λ rest e. refl)

pub marks_spelled : (ms : List Mark) → Each (λ m. is_name m.name ≡ true) ms
    → Spelled false (separated (map name_text ms)) (separated (map name_text (map short_mark ms))) (leaves_of_marks ms)
marks_spelled ms all = listed name_text short_mark (λ m. name_leaf m.name) false ms (each ms all)
  where
    each : (ms : List Mark) → Each (λ m. is_name m.name ≡ true) ms → EachSpelled name_text short_mark (λ m. name_leaf m.name) false ms
    each [] all = tt
    each (m ∷ ms) all = (name_spelled m.name all.0, each ms all.1)
