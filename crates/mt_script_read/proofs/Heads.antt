-- Expressions that are no base of a key or a call are read from their texts.
use Rattle.std.proofs.Common.{◌≡◌, ℕ, ◌≤◌, max, ℤ, Bool, true, false, List, [], ◌∷◌, ◌++◌, map, Some, refl, sym, ap, subst, ◌∙◌, append_assoc, arith}
use Rattle.std.specs.Prelude.{codes}
use Rattle.std.specs.Fmt.{signed_decimal}
use Rattle.std.specs.List.{flat_map, list_all}
use Rattle.std.specs.Str.{IsUtf8, all_scalars, chars, encode_utf8_all}
use Rattle.std.proofs.lemmas.Bool.{and_parts, le-leb, lt-ltb}
use Rattle.std.proofs.lemmas.Str.{encodes-chars, scalars-chars}
use Rattle.mt_tree.specs.Text.{units_of}
use Rattle.mt_tree.specs.declared.data.Data.{Data}
use Rattle.mt_syntax.specs.CodeText.{code_escaped, expr_kind_text, expr_text, literal, prop_text, writing_code}
use Rattle.mt_syntax.specs.Data.{is_data, is_digit}
use Rattle.mt_syntax.specs.DataText.{data_text, separated}
use Rattle.mt_syntax.specs.Depth.{depth_of_expr, measuring, nothing}
use Rattle.mt_syntax.specs.Gathering.{all_of}
use Rattle.mt_syntax.specs.Names.{is_name}
use Rattle.mt_syntax.specs.Shape.{is_number}
use Rattle.mt_syntax.specs.Sort as sort
use Rattle.mt_syntax.specs.declared.tree.Expr.{Expr}
use Rattle.mt_syntax.specs.declared.tree.ExprKind.{ExprKind, roll-ExprKind}
use Rattle.mt_syntax.specs.declared.tree.Prop.{Prop}
use Rattle.mt_syntax.specs.declared.tree.ExprKind.TheOpen.{ExprKind-F}
use Rattle.mt_syntax_laws.proofs.Related.{at_expr_kind}
use Rattle.mt_syntax_laws.proofs.Utf8.{data_utf8}
use Rattle.mt_json.proofs.Again.{Begins}
use Rattle.mt_script_words.specs.Keywords.{leader_of}
use Rattle.mt_script_words.specs.Words.{is_short, is_word_byte, word_length, word_of}
use Rattle.mt_script_words.specs.Values.{is_within}
use Rattle.mt_script_words.proofs.PlainWords.{IsDigitByte, IsPlainWord, false_word, leader_of_name, name_word, no_word, null_word, number_word, true_word, undefined_word}
use Rattle.mt_script_words.proofs.LiteralTexts.{string_read, text_read}
use Rattle.mt_script_words.proofs.ValueTexts.{datum_read, number_is_decimal, number_read}
use Rattle.mt_script_words.proofs.WordTexts.{ends_word, name_begins, name_bytes, name_read, word_passed, word_read}
use Rattle.mt_script_tree.specs.Expressions.{head_at, number_at, prop_at, word_at}
use Rattle.mt_script_tree.specs.Lists.{list_by}
use Rattle.mt_script_tree.specs.Made as made
use Rattle.mt_script_tree.specs.Reading.{expr_at, stmt_at}
use Rattle.mt_script_read.proofs.Ends.{differ}
use Rattle.mt_script_read.proofs.Facts.{ExprFacts, HeadReads, Opens, PropFacts, ReadsKind, by_head, depth_of_kind, depth_of_prop, opens, whole}
use Rattle.mt_script_read.proofs.Goodness.{AllGood, Good, good_expr_kind, good_rows}
use Rattle.mt_script_read.proofs.Items.{AreItems, IsItem, list_read}
use Rattle.mt_tree.specs.Limits.{text_limit}

-- ---- by the first byte

no_word_first : (b : ℕ) (bytes : List ℕ) → is_word_byte b ≡ false → word_of (b ∷ bytes) ≡ []
unfolding word_length
no_word_first b bytes h = rw h refl

pub by_symbol : (k : ExprKind) (b : ℕ) (tail : List ℕ) → expr_kind_text k ≡ b ∷ tail → is_word_byte b ≡ false → opens b ≡ true → HeadReads k → ExprFacts (made.expr k)
by_symbol k b tail text no_byte is h =
    by_head k (record { head = b; tail = tail; whole = text; is = is })
    (λ rest e. subst (λ s. IsPlainWord (word_of (s ++ rest))) (sym text) (subst IsPlainWord (sym (no_word_first b (tail ++ rest) no_byte)) no_word)) h

-- a word that is read as a node by itself
by_word : (k : ExprKind) (word : List ℕ) → expr_kind_text k ≡ word → Begins word Opens → list_all is_word_byte word ≡ true → IsPlainWord word → HeadReads k → ExprFacts (made.expr k)
by_word k word text b bytes plain h =
    by_head k (subst (λ s. Begins s Opens) (sym text) b)
    (λ rest e. subst (λ s. IsPlainWord (word_of (s ++ rest))) (sym text) (subst IsPlainWord (sym (word_read word rest bytes e)) plain)) h

word_opens : (b : ℕ) → is_word_byte b ≡ true → opens b ≡ true
word_opens b h = rw h refl

-- ---- names and numbers

module _ (n : ℕ) (b : ℕ) (bytes : List ℕ) (word : is_word_byte b ≡ true) where
  head_word : is_digit b ≡ false → head_at (expr_at n) (stmt_at n) (b ∷ bytes) ≡ word_at (b ∷ bytes)
  head_word digit = rw (differ is_word_byte b 40 word refl, differ is_word_byte b 91 word refl, differ is_word_byte b 34 word refl, differ is_word_byte b 36 word refl, digit) refl

  head_number : is_digit b ≡ true → head_at (expr_at n) (stmt_at n) (b ∷ bytes) ≡ number_at (b ∷ bytes)
  head_number digit = rw (differ is_word_byte b 40 word refl, differ is_word_byte b 91 word refl, differ is_word_byte b 34 word refl, differ is_word_byte b 36 word refl, digit) refl

name_at_word : (cs rest : List ℕ) → is_name cs ≡ true → is_short cs ≡ true → ends_word rest ≡ true → word_at (encode_utf8_all cs ++ rest) ≡ Some (made.kind (ExprKind-F.Name cs), rest)
name_at_word cs rest name short e =
    let bytes = name_bytes cs name in
    rw (word_read (encode_utf8_all cs) rest bytes e, word_passed (encode_utf8_all cs) rest bytes e, leader_of_name cs name, name_read cs name short) refl

pub reads_name : (cs : List ℕ) → ReadsKind (ExprKind-F.Name cs)
reads_name cs g =
    let good = good_expr_kind (ExprKind-F.Name cs) g in
    let name : is_name cs ≡ true = good.0 in
    let short : is_short cs ≡ true = le-leb (units_of cs) text_limit good.1.short_texts in
    let text : expr_kind_text (roll-ExprKind (ExprKind-F.Name cs)) ≡ encode_utf8_all cs = at_expr_kind writing_code (ExprKind-F.Name cs) in
    let b = name_begins cs name in
    by_word (roll-ExprKind (ExprKind-F.Name cs)) (encode_utf8_all cs) text (record { head = b.head; tail = b.tail; whole = b.whole; is = word_opens b.head b.is.0 }) (name_bytes cs name) (name_word cs name)
    (λ n rest deep e.
    ap (λ s. head_at (expr_at n) (stmt_at n) (s ++ rest)) (text ∙ b.whole) ∙ head_word n b.head (b.tail ++ rest) b.is.0 b.is.1
    ∙ ap (λ s. word_at (s ++ rest)) (sym b.whole) ∙ name_at_word cs rest name short e)

digit_is : (b : ℕ) → IsDigitByte b → is_digit b ≡ true
digit_is b d = rw (le-leb 48 b d.0, lt-ltb b 58 d.1) refl

pub reads_number : (z : ℤ) → ReadsKind (ExprKind-F.Num z)
reads_number z g =
    let good = good_expr_kind (ExprKind-F.Num z) g in
    let number : is_number z ≡ true = good.0 in
    let text : expr_kind_text (roll-ExprKind (ExprKind-F.Num z)) ≡ signed_decimal z = at_expr_kind writing_code (ExprKind-F.Num z) in
    let d = number_is_decimal z number in
    let b = d.begins in
    let parts = and_parts (is_word_byte b.head) (list_all is_word_byte b.tail) (ap (list_all is_word_byte) (sym b.whole) ∙ d.word) in
    let digit : is_digit b.head ≡ true = digit_is b.head b.is in
    by_word (roll-ExprKind (ExprKind-F.Num z)) (signed_decimal z) text (record { head = b.head; tail = b.tail; whole = b.whole; is = word_opens b.head parts.0 }) d.word
    (subst IsPlainWord (sym b.whole) (number_word b.head b.tail b.is))
    (λ n rest deep e.
    ap (λ s. head_at (expr_at n) (stmt_at n) (s ++ rest)) (text ∙ b.whole) ∙ head_number n b.head (b.tail ++ rest) parts.0 digit
    ∙ ap (λ s. number_at (s ++ rest)) (sym b.whole) ∙ rw (word_read (signed_decimal z) rest d.word e, word_passed (signed_decimal z) rest d.word e, number_read z number) refl)

-- ---- constants

pub reads_truth : (t : Bool) → ExprFacts (made.expr (roll-ExprKind (ExprKind-F.Bool t)))
unfolding leader_of
reads_truth true =
    let text : expr_kind_text (roll-ExprKind (ExprKind-F.Bool true)) ≡ codes "true" = at_expr_kind writing_code (ExprKind-F.Bool true) in
    by_word (roll-ExprKind (ExprKind-F.Bool true)) (codes "true") text (record { head = 116; tail = codes "rue"; whole = refl; is = refl }) refl true_word
    (λ n rest deep e. ap (λ s. head_at (expr_at n) (stmt_at n) (s ++ rest)) text ∙ rw (word_read (codes "true") rest refl e, word_passed (codes "true") rest refl e) refl)
reads_truth false =
    let text : expr_kind_text (roll-ExprKind (ExprKind-F.Bool false)) ≡ codes "false" = at_expr_kind writing_code (ExprKind-F.Bool false) in
    by_word (roll-ExprKind (ExprKind-F.Bool false)) (codes "false") text (record { head = 102; tail = codes "alse"; whole = refl; is = refl }) refl false_word
    (λ n rest deep e. ap (λ s. head_at (expr_at n) (stmt_at n) (s ++ rest)) text ∙ rw (word_read (codes "false") rest refl e, word_passed (codes "false") rest refl e) refl)

pub reads_null : ExprFacts (made.expr (roll-ExprKind ExprKind-F.Null))
unfolding leader_of
reads_null =
    let text : expr_kind_text (roll-ExprKind ExprKind-F.Null) ≡ codes "null" = at_expr_kind writing_code ExprKind-F.Null in
    by_word (roll-ExprKind ExprKind-F.Null) (codes "null") text (record { head = 110; tail = codes "ull"; whole = refl; is = refl }) refl null_word
    (λ n rest deep e. ap (λ s. head_at (expr_at n) (stmt_at n) (s ++ rest)) text ∙ rw (word_read (codes "null") rest refl e, word_passed (codes "null") rest refl e) refl)

pub reads_undefined : ExprFacts (made.expr (roll-ExprKind ExprKind-F.Undefined))
unfolding leader_of
reads_undefined =
    let text : expr_kind_text (roll-ExprKind ExprKind-F.Undefined) ≡ codes "undefined" = at_expr_kind writing_code ExprKind-F.Undefined in
    by_word (roll-ExprKind ExprKind-F.Undefined) (codes "undefined") text (record { head = 117; tail = codes "ndefined"; whole = refl; is = refl }) refl undefined_word
    (λ n rest deep e. ap (λ s. head_at (expr_at n) (stmt_at n) (s ++ rest)) text ∙ rw (word_read (codes "undefined") rest refl e, word_passed (codes "undefined") rest refl e) refl)

-- ---- texts and values

pub reads_text : (cs : List ℕ) → ReadsKind (ExprKind-F.ExprKind::Text cs)
reads_text cs g =
    let good = good_expr_kind (ExprKind-F.ExprKind::Text cs) g in
    let scalars : all_scalars cs ≡ true = good.0 in
    let short : is_short cs ≡ true = le-leb (units_of cs) text_limit good.1.short_texts in
    let text : expr_kind_text (roll-ExprKind (ExprKind-F.ExprKind::Text cs)) ≡ literal cs = at_expr_kind writing_code (ExprKind-F.ExprKind::Text cs) in
    by_symbol (roll-ExprKind (ExprKind-F.ExprKind::Text cs)) 34 (flat_map code_escaped cs ++ 34 ∷ []) text refl refl
    (λ n rest deep e.
    let bytes : expr_kind_text (roll-ExprKind (ExprKind-F.ExprKind::Text cs)) ++ rest ≡ 34 ∷ (flat_map code_escaped cs ++ 34 ∷ rest) = ap (λ s. s ++ rest) text ∙ simp append_assoc in
    ap (head_at (expr_at n) (stmt_at n)) bytes ∙ rw (text_read cs rest scalars short) refl)

pub reads_value : (d : Data) → ReadsKind (ExprKind-F.Val d)
reads_value d g =
    let good = good_expr_kind (ExprKind-F.Val d) g in
    let «data» : is_data d ≡ true = good.1.filled_code in
    let within : is_within d ≡ true = good.1.small_values in
    let utf8 : IsUtf8 (data_text d) = data_utf8 d «data» in
    let cs : List ℕ = chars (data_text d) in
    let scalars : all_scalars cs ≡ true = scalars-chars (data_text d) utf8 in
    let text : expr_kind_text (roll-ExprKind (ExprKind-F.Val d)) ≡ 36 ∷ 118 ∷ 40 ∷ 34 ∷ ((flat_map code_escaped cs ++ 34 ∷ []) ++ 41 ∷ []) = at_expr_kind writing_code (ExprKind-F.Val d) in
    by_symbol (roll-ExprKind (ExprKind-F.Val d)) 36 (118 ∷ 40 ∷ 34 ∷ ((flat_map code_escaped cs ++ 34 ∷ []) ++ 41 ∷ [])) text refl refl
    (λ n rest deep e.
    let bytes : expr_kind_text (roll-ExprKind (ExprKind-F.Val d)) ++ rest ≡ 36 ∷ 118 ∷ 40 ∷ 34 ∷ (flat_map code_escaped cs ++ 34 ∷ 41 ∷ rest) = ap (λ s. s ++ rest) text ∙ simp append_assoc in
    ap (head_at (expr_at n) (stmt_at n)) bytes ∙ rw (string_read cs (41 ∷ rest) scalars, encodes-chars (data_text d) utf8, datum_read d within) refl)

-- ---- lists

abbrev pub HeldExpr : Type 0
HeldExpr = (e : Expr) × (Good sort.Expr e → ExprFacts e)

abbrev pub HeldProp : Type 0
HeldProp = (p : Prop) × (Good sort.Prop p → PropFacts p)

-- an expression as an item of a list that the byte closes
pub expr_item : (close : ℕ) → opens close ≡ false → (n : ℕ) (e : Expr) → ExprFacts e → depth_of_expr e ≤ n → IsItem expr_text close (expr_at n) e
expr_item close shut n e f deep =
    let b = f.begins in
    record {
      begins = record { head = b.head; tail = b.tail; whole = b.whole; is = (differ opens b.head close b.is shut, differ opens b.head 44 b.is refl) };
      reads = λ more h. whole e f n more deep h;
    }

pub expr_items : (close : ℕ) → opens close ≡ false → (n : ℕ) (es : List HeldExpr) → AllGood sort.Expr (map (λ (h : HeldExpr). h.0) es)
    → all_of 0 max (map depth_of_expr (map (λ (h : HeldExpr). h.0) es)) ≤ n → AreItems expr_text close (expr_at n) (map (λ (h : HeldExpr). h.0) es)
expr_items close shut n [] g deep = tt
expr_items close shut n (h ∷ es) g deep = (expr_item close shut n h.0 (h.1 g.0) (omega arith), expr_items close shut n es g.1 (omega arith))

prop_items : (n : ℕ) (ps : List HeldProp) → AllGood sort.Prop (map (λ (h : HeldProp). h.0) ps)
    → all_of 0 max (map depth_of_prop (map (λ (h : HeldProp). h.0) ps)) ≤ n → AreItems prop_text 125 (prop_at (expr_at n)) (map (λ (h : HeldProp). h.0) ps)
prop_items n [] g deep = tt
prop_items n (h ∷ ps) g deep =
    let f = h.1 g.0 in (record { begins = f.begins; reads = λ more c. f.reads n more (omega arith) c }, prop_items n ps g.1 (omega arith))

pub reads_array : (es : List HeldExpr) → ReadsKind (ExprKind-F.Arr (map (λ (h : HeldExpr). h.0) es))
reads_array es g =
    let items : List Expr = map (λ (h : HeldExpr). h.0) es in
    let good = good_expr_kind (ExprKind-F.Arr items) g in
    let all = good_rows sort.Expr items good.0 good.1 in
    let text : expr_kind_text (roll-ExprKind (ExprKind-F.Arr items)) ≡ 91 ∷ (separated (map expr_text items) ++ 93 ∷ []) = at_expr_kind writing_code (ExprKind-F.Arr items) in
    let depth : depth_of_kind (roll-ExprKind (ExprKind-F.Arr items)) ≡ all_of 0 max (map depth_of_expr items) = at_expr_kind (measuring nothing nothing) (ExprKind-F.Arr items) in
    by_symbol (roll-ExprKind (ExprKind-F.Arr items)) 91 (separated (map expr_text items) ++ 93 ∷ []) text refl refl
    (λ n rest deep e.
    let bytes : expr_kind_text (roll-ExprKind (ExprKind-F.Arr items)) ++ rest ≡ 91 ∷ (separated (map expr_text items) ++ 93 ∷ rest) = ap (λ s. s ++ rest) text ∙ simp append_assoc in
    let list : list_by 93 (expr_at n) (separated (map expr_text items) ++ 93 ∷ rest) ≡ Some (items, rest) =
    list_read expr_text 93 (expr_at n) refl (λ r. refl) items rest (expr_items 93 refl n es all (omega (arith, depth))) in
    ap (head_at (expr_at n) (stmt_at n)) bytes ∙ rw list refl)

pub reads_object : (ps : List HeldProp) → ReadsKind (ExprKind-F.Obj (map (λ (h : HeldProp). h.0) ps))
reads_object ps g =
    let items : List Prop = map (λ (h : HeldProp). h.0) ps in
    let good = good_expr_kind (ExprKind-F.Obj items) g in
    let all = good_rows sort.Prop items good.0 good.1 in
    let text : expr_kind_text (roll-ExprKind (ExprKind-F.Obj items)) ≡ 40 ∷ 123 ∷ (separated (map prop_text items) ++ 125 ∷ 41 ∷ []) = at_expr_kind writing_code (ExprKind-F.Obj items) in
    let depth : depth_of_kind (roll-ExprKind (ExprKind-F.Obj items)) ≡ all_of 0 max (map depth_of_prop items) = at_expr_kind (measuring nothing nothing) (ExprKind-F.Obj items) in
    by_symbol (roll-ExprKind (ExprKind-F.Obj items)) 40 (123 ∷ (separated (map prop_text items) ++ 125 ∷ 41 ∷ [])) text refl refl
    (λ n rest deep e.
    let bytes : expr_kind_text (roll-ExprKind (ExprKind-F.Obj items)) ++ rest ≡ 40 ∷ 123 ∷ (separated (map prop_text items) ++ 125 ∷ 41 ∷ rest) = ap (λ s. s ++ rest) text ∙ simp append_assoc in
    let list : list_by 125 (prop_at (expr_at n)) (separated (map prop_text items) ++ 125 ∷ 41 ∷ rest) ≡ Some (items, 41 ∷ rest) =
    list_read prop_text 125 (prop_at (expr_at n)) refl (λ r. refl) items (41 ∷ rest) (prop_items n ps all (omega (arith, depth))) in
    ap (head_at (expr_at n) (stmt_at n)) bytes ∙ rw list refl)
