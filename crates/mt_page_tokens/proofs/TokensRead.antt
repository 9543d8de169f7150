-- Each token is read exactly.
use Rattle.std.proofs.Common.{◌≡◌, ℕ, zero, suc, ◌-◌, ◌<◌, ◌≤◌, Bool, true, false, ◌&&◌, List, [], ◌∷◌, ◌++◌, length, take, drop, Option, Some, None, if◌then◌else◌, refl, sym, ap, ◌∙◌, subst, append_assoc, arith, codes, flat_map}
use Rattle.std.proofs.lemmas.Bool.{and_parts, and_from}
use Rattle.std.proofs.lemmas.List.{append-nil, take_at, drop_at, length-append}
use Rattle.std.proofs.lemmas.Str.{chars-encodes, encodes-chars, scalars-chars, IsUtf8-from_is_utf8}
use Rattle.std.proofs.lemmas.Slice.Eq.{bytes_eq-Decides}
use Rattle.std.specs.List.{list_all}
use Rattle.std.specs.Str.{encode_utf8_all, all_scalars, bytes_eq, chars, is_utf8}
use Rattle.mt_tree.specs.Tables.{is_attribute, is_handler, is_spelled, is_tag}
use Rattle.mt_tree.specs.declared.html.Attribute.{Attribute}
use Rattle.mt_tree.specs.declared.html.AttributeValue.{AttributeValue}
use Rattle.mt_tree.specs.declared.html.AttributeValue.TheVariants.{Plain, Handler}
use Rattle.mt_syntax.specs.CodeText.{code_text}
use Rattle.mt_syntax.specs.PageText.{attribute_text, escaped, value_text}
use Rattle.mt_syntax.specs.declared.program.Code.{Code}
use Rattle.mt_page_tokens.specs.declared.tokens.Opening.{Opening}
use Rattle.mt_page_tokens.specs.Codes.{code_spelled, is_code}
use Rattle.mt_page_tokens.specs.Tokens.{Chars, opening, script}
use Rattle.mt_page_tokens.specs.Limits.{are_distinct, attribute_fits, is_text, opens, value_fits}
use Rattle.mt_page_tokens.specs.Reading.{◌>>=◌, text_at, unescaped, upto, past, value_at, attribute_at, attributes_by, opening_at, words_at, script_at}
use Rattle.mt_page_tokens.proofs.Lacking.{lacks, upto_at, past_at, upto_none, past_none, spelled_lacks}
use Rattle.mt_page_tokens.proofs.Escapes.{unescaped-escaped, escaped_quoteless}
use Rattle.mt_page_tokens.proofs.AttributeTurns.{one_more}
use Rattle.mt_page_tokens.proofs.Codes.{code_back, code_sound}
use Rattle.mt_page_tokens.proofs.TagLaws.{tag_is_spelled}
use Rattle.mt_page_tokens.proofs.Loops.{text_read}

-- ---- tools

pub bind_some : {A B : Type 0} (o : Option A) (f : A → Option B) (y : B) → (o >>= f) ≡ Some y → (x : A) × (o ≡ Some x) × (f x ≡ Some y)
bind_some (Some x) f y h = (x, refl, h)
bind_some None f y h = absurd cc

pub guard_some : {A : Type 0} (b : Bool) (x y : A) → (if b then Some x else None) ≡ Some y → (b ≡ true) × (x ≡ y)
guard_some true x y h = (refl, cc)
guard_some false x y h = absurd cc

pub same_bytes : (xs ys : List ℕ) → xs ≡ ys → bytes_eq xs ys ≡ true
same_bytes xs ys e = (bytes_eq-Decides xs ys).1 e

-- ---- texts and codes

pub text_back : (text : Chars) → all_scalars text ≡ true → text_at (encode_utf8_all text) ≡ Some text
text_back text s = text_read (encode_utf8_all text) (text, (s, refl)) ∙ ap (λ (t : Chars). Some t) (chars-encodes text s)

pub text_sound : (bytes : List ℕ) (text : Chars) → text_at bytes ≡ Some text → encode_utf8_all text ≡ bytes
unfolding text_at
text_sound bytes text h =
    let g = guard_some (is_utf8 bytes) (chars bytes) text h in
    ap encode_utf8_all (sym g.1) ∙ encodes-chars bytes (IsUtf8-from_is_utf8 bytes g.0)

pub text_scalars : (text : Chars) → is_text text ≡ true → all_scalars text ≡ true
unfolding is_text
text_scalars text h = (and_parts (all_scalars text) _ h).0

pub text_sound_scalars : (bytes : List ℕ) (text : Chars) → text_at bytes ≡ Some text → all_scalars text ≡ true
unfolding text_at
text_sound_scalars bytes text h =
    let g = guard_some (is_utf8 bytes) (chars bytes) text h in
    subst (λ (t : Chars). all_scalars t ≡ true) g.1 (scalars-chars bytes (IsUtf8-from_is_utf8 bytes g.0))

-- ---- attributes

value_back : (handler : Bool) (value : AttributeValue Code) → value_fits handler value ≡ true → value_at handler (value_text value) ≡ Some value
unfolding value_at
value_back true (Handler code) h = rw (code_back code h) refl
value_back false (Plain text) h = rw (text_back text (text_scalars text h), h) refl
value_back true (Plain text) h = absurd cc
value_back false (Handler code) h = absurd cc

value_sound : (handler : Bool) (bytes : List ℕ) (value : AttributeValue Code) → value_at handler bytes ≡ Some value → value_fits handler value ≡ true
unfolding value_at
value_sound true bytes value h =
    let c = bind_some (code_spelled bytes) (λ code. Some (Handler code)) value h in
    let same : Handler c.0 ≡ value = cc in
    subst (λ v. value_fits true v ≡ true) same (code_sound bytes c.0 c.1).0
value_sound false bytes value h =
    let t = bind_some (text_at bytes) (λ text. if is_text text then Some (Plain text) else None) value h in
    let g = guard_some (is_text t.0) (Plain t.0) value t.2 in
    subst (λ v. value_fits false v ≡ true) g.1 g.0

-- an attribute without the space before it
abbrev pub pair_text : Attribute Code → List ℕ
pair_text a = encode_utf8_all a.name ++ (61 ∷ 34 ∷ (escaped (value_text a.value) ++ 34 ∷ []))

regroup : (name e rest : List ℕ) → (name ++ (61 ∷ 34 ∷ (e ++ 34 ∷ []))) ++ rest ≡ name ++ (61 ∷ 34 ∷ (e ++ 34 ∷ rest))
regroup name e rest = append_assoc name (61 ∷ 34 ∷ (e ++ 34 ∷ [])) rest ∙ ap (λ (ys : List ℕ). name ++ (61 ∷ 34 ∷ ys)) (append_assoc e (34 ∷ []) rest)

pub attribute_spelled : (name : List ℕ) → is_attribute name ≡ true → is_spelled name ≡ true
attribute_spelled name h = (and_parts (is_spelled name) _ (and_parts _ _ h).0).0

attribute_parts : (bytes behind v : List ℕ) (a : Attribute Code) (rest : List ℕ) → upto 61 bytes ≡ encode_utf8_all a.name → past 61 bytes ≡ 34 ∷ behind → upto 34 behind ≡ escaped v → past 34 behind ≡ rest
    → text_at (encode_utf8_all a.name) ≡ Some a.name → value_at (is_handler (encode_utf8_all a.name)) v ≡ Some a.value → is_attribute (encode_utf8_all a.name) ≡ true → attribute_at bytes ≡ Some (a, drop 1 rest)
unfolding attribute_at
attribute_parts bytes behind v a rest u p q r t w n = rw (u, p, q, r, unescaped-escaped v, t, w, n) refl

pub attribute_back : (a : Attribute Code) (rest : List ℕ) → attribute_fits a ≡ true → attribute_at (pair_text a ++ rest) ≡ Some (a, drop 1 rest)
attribute_back a rest h =
    let name = encode_utf8_all a.name in
    let e = escaped (value_text a.value) in
    let parts = and_parts (all_scalars a.name && is_attribute name) (value_fits (is_handler name) a.value) h in
    let names = and_parts (all_scalars a.name) (is_attribute name) parts.0 in
    let lack = spelled_lacks 61 name refl refl (attribute_spelled name names.1) in
    ap attribute_at (regroup name e rest)
    ∙ attribute_parts (name ++ (61 ∷ 34 ∷ (e ++ 34 ∷ rest))) (e ++ 34 ∷ rest) (value_text a.value) a rest
    (upto_at 61 name (34 ∷ (e ++ 34 ∷ rest)) lack) (past_at 61 name (34 ∷ (e ++ 34 ∷ rest)) lack)
    (upto_at 34 e rest (escaped_quoteless (value_text a.value))) (past_at 34 e rest (escaped_quoteless (value_text a.value)))
    (text_back a.name names.0) (value_back (is_handler name) a.value parts.1) names.1

-- what is found is an attribute within the limits
attribute_sound : (bytes : List ℕ) (a : Attribute Code) (rest : List ℕ) → attribute_at bytes ≡ Some (a, rest) → attribute_fits a ≡ true
unfolding attribute_at
attribute_sound bytes a rest h =
    let name = upto 61 bytes in
    let plain = unescaped (upto 34 (drop 1 (past 61 bytes))) in
    let behind = drop 1 (past 34 (drop 1 (past 61 bytes))) in
    let t = bind_some (text_at name) (λ found. value_at (is_handler name) plain >>= λ value. (if is_attribute name then Some (record { name = found; value = value }, behind) else None)) (a, rest) h in
    let v = bind_some (value_at (is_handler name) plain) (λ value. if is_attribute name then Some (record { name = t.0; value = value }, behind) else None) (a, rest) t.2 in
    let made : Attribute Code × List ℕ = (record { name = t.0; value = v.0 }, behind) in
    let g = guard_some (is_attribute name) made (a, rest) v.2 in
    let same : encode_utf8_all t.0 ≡ name = text_sound name t.0 t.1 in
    let named : is_attribute (encode_utf8_all t.0) ≡ true = ap is_attribute same ∙ g.0 in
    let valued : value_fits (is_handler (encode_utf8_all t.0)) v.0 ≡ true = ap (λ (bs : List ℕ). value_fits (is_handler bs) v.0) same ∙ value_sound (is_handler name) plain v.0 v.1 in
    subst (λ (x : Attribute Code × List ℕ). attribute_fits x.0 ≡ true) g.1
    (and_from (all_scalars t.0 && is_attribute (encode_utf8_all t.0)) (value_fits (is_handler (encode_utf8_all t.0)) v.0) (and_from (all_scalars t.0) (is_attribute (encode_utf8_all t.0)) (text_sound_scalars name t.0 t.1) named) valued)

abbrev pub texts : List (Attribute Code) → List ℕ
texts attributes = flat_map attribute_text attributes

pair_length : (a : Attribute Code) (rest : List ℕ) → 0 < length (pair_text a ++ rest)
pair_length a rest = omega (arith, ap length (regroup (encode_utf8_all a.name) (escaped (value_text a.value)) rest), length-append (encode_utf8_all a.name) (61 ∷ 34 ∷ (escaped (value_text a.value) ++ 34 ∷ rest)))

pub attributes_back : (attributes : List (Attribute Code)) (n : ℕ) → list_all attribute_fits attributes ≡ true → length attributes ≤ n → attributes_by n (drop 1 (texts attributes)) ≡ Some attributes
unfolding attributes_by
attributes_back [] n h le = refl
attributes_back (a ∷ more) zero h le = absurd (omega arith)
attributes_back (a ∷ more) (suc n) h le =
    let parts = and_parts (attribute_fits a) (list_all attribute_fits more) h in
    one_more n (pair_text a ++ texts more) (drop 1 (texts more)) a (λ z. omega (arith, pair_length a (texts more))) (attribute_back a (texts more) parts.0)
    ∙ rw (attributes_back more n parts.1 (omega arith)) refl

pub attributes_sound : (n : ℕ) (bytes : List ℕ) (attributes : List (Attribute Code)) → attributes_by n bytes ≡ Some attributes → list_all attribute_fits attributes ≡ true
unfolding attributes_by
attributes_sound n [] attributes h = let same : [] ≡ attributes = cc in subst (λ (found : List (Attribute Code)). list_all attribute_fits found ≡ true) same refl
attributes_sound zero (b ∷ bs) attributes h = absurd cc
attributes_sound (suc n) (b ∷ bs) attributes h =
    let x = bind_some (attribute_at (b ∷ bs)) (λ y. (attributes_by n y.1 >>= λ more. Some (y.0 ∷ more))) attributes h in
    let m = bind_some (attributes_by n x.0.1) (λ more. Some (x.0.0 ∷ more)) attributes x.2 in
    let same : x.0.0 ∷ m.0 ≡ attributes = cc in
    subst (λ (found : List (Attribute Code)). list_all attribute_fits found ≡ true) same
    (and_from (attribute_fits x.0.0) (list_all attribute_fits m.0) (attribute_sound (b ∷ bs) x.0.0 x.0.1 x.1) (attributes_sound n x.0.1 m.0 m.1))

pub few_attributes : (attributes : List (Attribute Code)) → length attributes ≤ length (texts attributes)
few_attributes [] = omega arith
few_attributes (a ∷ more) = omega (arith, few_attributes more, length-append (attribute_text a) (texts more))

-- ---- opening tags

cut_tag : (tag : List ℕ) (attributes : List (Attribute Code)) → lacks 32 tag ≡ true → (upto 32 (tag ++ texts attributes) ≡ tag) × (past 32 (tag ++ texts attributes) ≡ drop 1 (texts attributes))
cut_tag tag [] l = (ap (upto 32) (append-nil tag) ∙ upto_none 32 tag l, ap (past 32) (append-nil tag) ∙ past_none 32 tag l)
cut_tag tag (a ∷ more) l = (upto_at 32 tag (pair_text a ++ texts more) l, past_at 32 tag (pair_text a ++ texts more) l)

pub opening_parts : (tag : Chars) (attributes : List (Attribute Code)) → opens tag attributes ≡ true → (all_scalars tag ≡ true) × (is_tag (encode_utf8_all tag) ≡ true) × (list_all attribute_fits attributes ≡ true) × (are_distinct attributes ≡ true)
unfolding opens
opening_parts tag attributes e =
    let p = and_parts (all_scalars tag && is_tag (encode_utf8_all tag)) (list_all attribute_fits attributes && are_distinct attributes) e in
    let q = and_parts (all_scalars tag) (is_tag (encode_utf8_all tag)) p.0 in
    let r = and_parts (list_all attribute_fits attributes) (are_distinct attributes) p.1 in
    (q.0, q.1, r.0, r.1)

opens_from : (tag : Chars) (attributes : List (Attribute Code)) → all_scalars tag ≡ true → is_tag (encode_utf8_all tag) ≡ true → list_all attribute_fits attributes ≡ true → are_distinct attributes ≡ true → opens tag attributes ≡ true
unfolding opens
opens_from tag attributes s t f d =
    and_from (all_scalars tag && is_tag (encode_utf8_all tag)) (list_all attribute_fits attributes && are_distinct attributes)
    (and_from (all_scalars tag) (is_tag (encode_utf8_all tag)) s t) (and_from (list_all attribute_fits attributes) (are_distinct attributes) f d)

opening_found : (tag : Chars) (attributes : List (Attribute Code)) (bytes : List ℕ) → bytes ≡ opening tag attributes → upto 32 (drop 1 bytes) ≡ encode_utf8_all tag → past 32 (drop 1 bytes) ≡ drop 1 (texts attributes)
    → text_at (encode_utf8_all tag) ≡ Some tag → attributes_by (length bytes) (drop 1 (texts attributes)) ≡ Some attributes → is_tag (encode_utf8_all tag) ≡ true → are_distinct attributes ≡ true → opening_at bytes ≡ Some (record { tag = tag; attributes = attributes })
unfolding opening_at
opening_found tag attributes bytes e u p t r h d = rw (u, p, t, r, h, d, same_bytes (opening tag attributes) bytes (sym e)) refl

pub opening_is : (tag : Chars) (attributes : List (Attribute Code)) → opening tag attributes ≡ 60 ∷ (encode_utf8_all tag ++ texts attributes)
unfolding opening
opening_is tag attributes = refl

pub opening_back : (tag : Chars) (attributes : List (Attribute Code)) → opens tag attributes ≡ true → opening_at (opening tag attributes) ≡ Some (record { tag = tag; attributes = attributes })
opening_back tag attributes h =
    let p = opening_parts tag attributes h in
    let bytes = encode_utf8_all tag in
    let c = cut_tag bytes attributes (spelled_lacks 32 bytes refl refl (tag_is_spelled bytes p.1)) in
    let whole = 60 ∷ (bytes ++ texts attributes) in
    let few : length attributes ≤ length whole = omega (arith, few_attributes attributes, length-append (60 ∷ bytes) (texts attributes)) in
    ap opening_at (opening_is tag attributes) ∙ opening_found tag attributes whole (sym (opening_is tag attributes)) c.0 c.1 (text_back tag p.0) (attributes_back attributes (length whole) p.2 few) p.1 p.3

pub opening_sound : (bytes : List ℕ) (o : Opening) → opening_at bytes ≡ Some o → (opens o.tag o.attributes ≡ true) × (opening o.tag o.attributes ≡ bytes)
unfolding opening_at
opening_sound bytes o h =
    let spelled = upto 32 (drop 1 bytes) in
    let t = bind_some (text_at spelled) (λ tag. attributes_by (length bytes) (past 32 (drop 1 bytes)) >>= λ attributes. (if (is_tag spelled && are_distinct attributes) && bytes_eq (opening tag attributes) bytes then Some (record { tag = tag; attributes = attributes }) else None)) o h in
    let u = bind_some (attributes_by (length bytes) (past 32 (drop 1 bytes))) (λ attributes. if (is_tag spelled && are_distinct attributes) && bytes_eq (opening t.0 attributes) bytes then Some (record { tag = t.0; attributes = attributes }) else None) o t.2 in
    let made : Opening = record { tag = t.0; attributes = u.0 } in
    let g = guard_some ((is_tag spelled && are_distinct u.0) && bytes_eq (opening t.0 u.0) bytes) made o u.2 in
    let p = and_parts (is_tag spelled && are_distinct u.0) (bytes_eq (opening t.0 u.0) bytes) g.0 in
    let q = and_parts (is_tag spelled) (are_distinct u.0) p.0 in
    let tagged : is_tag (encode_utf8_all t.0) ≡ true = ap is_tag (text_sound spelled t.0 t.1) ∙ q.0 in
    let fits = opens_from t.0 u.0 (text_sound_scalars spelled t.0 t.1) tagged (attributes_sound (length bytes) (past 32 (drop 1 bytes)) u.0 u.1) q.1 in
    subst (λ (x : Opening). (opens x.tag x.attributes ≡ true) × (opening x.tag x.attributes ≡ bytes)) g.1 (fits, (bytes_eq-Decides (opening t.0 u.0) bytes).0 p.1)

-- ---- texts between tags

pub words_back : (text : Chars) → is_text text ≡ true → words_at (escaped (encode_utf8_all text)) ≡ Some text
unfolding words_at
words_back text h =
    let bytes = escaped (encode_utf8_all text) in
    rw (unescaped-escaped (encode_utf8_all text), text_back text (text_scalars text h), h, same_bytes bytes bytes refl) refl

pub words_sound : (bytes : List ℕ) (text : Chars) → words_at bytes ≡ Some text → (is_text text ≡ true) × (escaped (encode_utf8_all text) ≡ bytes)
unfolding words_at
words_sound bytes text h =
    let t = bind_some (text_at (unescaped bytes)) (λ x. if is_text x && bytes_eq (escaped (unescaped bytes)) bytes then Some x else None) text h in
    let g = guard_some (is_text t.0 && bytes_eq (escaped (unescaped bytes)) bytes) t.0 text t.2 in
    let p = and_parts (is_text t.0) (bytes_eq (escaped (unescaped bytes)) bytes) g.0 in
    (subst (λ x. is_text x ≡ true) g.1 p.0, ap escaped (ap encode_utf8_all (sym g.1) ∙ text_sound (unescaped bytes) t.0 t.1) ∙ (bytes_eq-Decides (escaped (unescaped bytes)) bytes).0 p.1)

-- ---- scripts

middle : (before code behind : List ℕ) → length before ≡ 8 → length behind ≡ 8 → take (length (before ++ code ++ behind) - 16) (drop 8 (before ++ code ++ behind)) ≡ code
middle before code behind p q =
    let all : before ++ code ++ behind ≡ before ++ (code ++ behind) = append_assoc before code behind in
    let n : length code ≡ length (before ++ code ++ behind) - 16 = omega (arith, ap length all, length-append before (code ++ behind), length-append code behind) in
    ap (λ ys. take (length (before ++ code ++ behind) - 16) (drop 8 ys)) all ∙ ap (take (length (before ++ code ++ behind) - 16)) (drop_at before (code ++ behind) 8 p) ∙ take_at code behind (length (before ++ code ++ behind) - 16) n

pub script_is : (code : Code) → script code ≡ codes "<script>" ++ code_text code.body ++ codes "</script"
unfolding script
script_is code = refl

script_found : (code : Code) (bytes : List ℕ) → bytes ≡ script code → take (length bytes - 16) (drop 8 bytes) ≡ code_text code.body → code_spelled (code_text code.body) ≡ Some code → script_at bytes ≡ Some code
unfolding script_at
script_found code bytes e m b = rw (m, b, same_bytes (script code) bytes (sym e)) refl

pub script_back : (code : Code) → is_code code ≡ true → script_at (script code) ≡ Some code
script_back code h =
    let whole = codes "<script>" ++ code_text code.body ++ codes "</script" in
    ap script_at (script_is code) ∙ script_found code whole (sym (script_is code)) (middle (codes "<script>") (code_text code.body) (codes "</script") refl refl) (code_back code h)

pub script_sound : (bytes : List ℕ) (code : Code) → script_at bytes ≡ Some code → (is_code code ≡ true) × (script code ≡ bytes)
unfolding script_at
script_sound bytes code h =
    let inner = take (length bytes - 16) (drop 8 bytes) in
    let t = bind_some (code_spelled inner) (λ c. if bytes_eq (script c) bytes then Some c else None) code h in
    let g = guard_some (bytes_eq (script t.0) bytes) t.0 code t.2 in
    (subst (λ c. is_code c ≡ true) g.1 (code_sound inner t.0 t.1).0, ap script (sym g.1) ∙ (bytes_eq-Decides (script t.0) bytes).0 g.0)
