-- The bytes held are those behind the last whole token of the page.
use Rattle.std.proofs.Common.{◌≡◌, ℕ, suc, ◌<◌, ◌≤◌, Bool, true, false, not, ◌&&◌, ◌||◌, ◌==◌, List, [], ◌∷◌, ◌++◌, length, map, drop, if◌then◌else◌, refl, sym, ap, ◌∙◌, subst, append_assoc, arith, codes, rules}
use denote.Hole.Carrier.{roll}
use Rattle.std.proofs.lemmas.Bool.{and_parts, not-true, ltb-false, ltb-true, both_ways}
use Rattle.std.proofs.lemmas.List.{append-nil, length-append}
use Rattle.std.specs.List.{flat_map}
use Rattle.std.specs.Prelude.{nat_lt}
use Rattle.std.specs.Str.{encode_utf8_all, bytes_eq}
use Rattle.mt_tree.specs.Tables.{is_void_tag}
use Rattle.mt_tree.specs.declared.html.Attribute.{Attribute}
use Rattle.mt_tree.specs.declared.html.Element.{Element}
use Rattle.mt_tree.specs.declared.html.Html.{roll-Html, map-Html, the_lemmas}
use Rattle.mt_tree.specs.declared.html.Html.TheFolds.{ind-Html}
use Rattle.mt_tree.specs.declared.html.Html.TheOpen.{Html-F}
use Rattle.mt_tree.specs.declared.html.Html.TheVariants as html
use Rattle.mt_syntax.specs.CodeText.{code_text}
use Rattle.mt_syntax.specs.PageText.{escaped, html_text}
use Rattle.mt_syntax.specs.declared.program.Code.{Code}
use Rattle.mt_page_tokens.proofs.Codes.{code_closed}
use Rattle.mt_page_tokens.proofs.Escapes.{escaped_openless}
use Rattle.mt_page_tokens.proofs.Lacking.{lacks, lacks-append, spelled_lacks}
use Rattle.mt_page_tokens.proofs.TagLaws.{tag_is_spelled}
use Rattle.mt_page_tokens.proofs.TokensRead.{opening_is, opening_parts, texts}
use Rattle.mt_page_tokens.specs.Codes.{is_code}
use Rattle.mt_page_tokens.specs.Limits.{IsTree, Look, in_order, is_empty, look, opens}
use Rattle.mt_page_tokens.specs.Tokens.{Chars, Page, closing, doctype, opening, script}
use Rattle.mt_page_read.specs.declared.machine.Mode.TheVariants as mode
use Rattle.mt_page_read.specs.Held.{Token, tag_token, tokens, tokens_of, held_of}
use Rattle.mt_page_read.specs.Machine.{reader, refused, run, start}
use Rattle.mt_page_read.proofs.Complete.{doctype_closeless, doctype_is, doctype_no_script, no_script, texts_closeless}
use Rattle.mt_page_read.proofs.Cuts.{Cut, cut_of, cuts, cuts-append, held_before, run_cut, start_cut}
use Rattle.mt_page_read.proofs.Nodes.{behind, joined, look_node, look_script, look_words, node, text_node, text_script, text_words, whole_text}
use Rattle.mt_page_read.proofs.Runs.{run-append}
use Rattle.mt_page_read.proofs.Steps.{ends_tag, in_script, in_tag, in_words}

-- ---- lists of which one begins the other

split : (a b c d : List ℕ) → a ++ b ≡ c ++ d → length a ≤ length c → (c ≡ a ++ drop (length a) c) × (b ≡ drop (length a) c ++ d)
split [] b c d e le = (refl, e)
split (x ∷ a) b [] d e le = absurd (omega (arith, le))
split (x ∷ a) b (y ∷ c) d e le =
    let more = split a b c d (ap (drop 1) e) (omega (arith, le)) in
    let same : x ≡ y = cc in
    (ap (λ z. z ∷ c) (sym same) ∙ ap (λ (ys : List ℕ). x ∷ ys) more.0, more.1)

lacks_front : (s : ℕ) (xs ys : List ℕ) → lacks s (xs ++ ys) ≡ true → lacks s xs ≡ true
lacks_front s [] ys h = refl
lacks_front s (x ∷ xs) ys h = let p = and_parts (not (x == s)) (lacks s (xs ++ ys)) h in rw (p.0, lacks_front s xs ys p.1) refl

-- ---- tokens in order

-- a token that ends in its own >: no byte of it is let go before
record Closed (bytes : List ℕ) : Type 0 where
  pub body : List ℕ
  pub is : bytes ≡ 60 ∷ (body ++ 62 ∷ [])
  pub holds : (cuts body (mode.Tag, 60 ∷ [])).1 ≡ 60 ∷ body
  pub ends : cuts (body ++ 62 ∷ []) (mode.Tag, 60 ∷ []) ≡ (mode.Words, [])

abbrev Fine : Bool → List ℕ → Type 0
Fine true bytes = lacks 60 bytes ≡ true
Fine false bytes = Closed bytes

-- each is a token, and no text stands behind a text
abbrev InOrder : Bool → List Token → Type 0
InOrder w [] = Unit {0}
InOrder w (t ∷ ts) = Fine t.0 t.1 × ((w && t.0) ≡ false) × InOrder t.0 ts

abbrev spelled : List Token → List ℕ
spelled [] = []
spelled (t ∷ ts) = t.1 ++ spelled ts

from_tag : (bytes : List ℕ) (held : List ℕ) → cuts (60 ∷ bytes) (mode.Words, held) ≡ cuts bytes (mode.Tag, 60 ∷ [])
from_tag bytes held = refl

in_text : (bytes : List ℕ) → lacks 60 bytes ≡ true → cuts bytes (mode.Words, []) ≡ (mode.Words, bytes)
in_text bytes l = sym (run_cut bytes (reader mode.Words [] refused)) ∙ ap cut_of (in_words bytes [] refused l)

-- behind a text a tag begins as anywhere
behind_text : (ts : List Token) (fed more text : List ℕ) → InOrder true ts → spelled ts ≡ fed ++ more → 0 < length fed → cuts fed (mode.Words, text) ≡ cuts fed (mode.Words, [])
behind_text ts [] more text o e n = absurd (omega (arith, n))
behind_text [] (b ∷ fed) more text o e n = absurd cc
behind_text ((true, bytes) ∷ ts) (b ∷ fed) more text o e n = absurd (both_ways true o.1 refl)
behind_text ((false, bytes) ∷ ts) (b ∷ fed) more text o e n =
    let begins : 60 ∷ ((o.0.body ++ 62 ∷ []) ++ spelled ts) ≡ b ∷ (fed ++ more) = sym (ap (λ ys. ys ++ spelled ts) o.0.is) ∙ e in
    let same : 60 ≡ b = cc in
    subst (λ x. cuts (x ∷ fed) (mode.Words, text) ≡ cuts (x ∷ fed) (mode.Words, [])) same refl

closed_whole : (bytes : List ℕ) → Closed bytes → cuts bytes (mode.Words, []) ≡ (mode.Words, [])
closed_whole bytes c = ap (λ ys. cuts ys (mode.Words, [])) c.is ∙ from_tag (c.body ++ 62 ∷ []) [] ∙ c.ends

closed_part : (bytes fed more : List ℕ) → Closed bytes → bytes ≡ fed ++ more → length fed < length bytes → (cuts fed (mode.Words, [])).1 ≡ fed
closed_part bytes [] more c e lt = refl
closed_part bytes (b ∷ fed) more c e lt =
    let begins : 60 ∷ (c.body ++ 62 ∷ []) ≡ b ∷ (fed ++ more) = sym c.is ∙ e in
    let same : 60 ≡ b = cc in
    let inside : c.body ++ 62 ∷ [] ≡ fed ++ more = ap (drop 1) begins in
    let short : length fed ≤ length c.body = shorter fed c.body (subst (λ ys. length (b ∷ fed) < length ys) c.is lt) in
    let front = split fed more c.body (62 ∷ []) (sym inside) short in
    let holds : (cuts (fed ++ drop (length fed) c.body) (mode.Tag, 60 ∷ [])).1 ≡ (60 ∷ []) ++ (fed ++ drop (length fed) c.body) =
    subst (λ ys. (cuts ys (mode.Tag, 60 ∷ [])).1 ≡ 60 ∷ ys) front.0 c.holds in
    subst (λ x. (cuts (x ∷ fed) (mode.Words, [])).1 ≡ x ∷ fed) same (held_before fed (drop (length fed) c.body) mode.Tag (60 ∷ []) holds)
  where
    long : (ys : List ℕ) → length (ys ++ 62 ∷ []) ≡ suc (length ys)
    long [] = refl
    long (y ∷ ys) = ap suc (long ys)

    shorter : (xs ys : List ℕ) → suc (length xs) < suc (length (ys ++ 62 ∷ [])) → length xs ≤ length ys
    shorter xs ys lt = omega (arith, lt, long ys)

held_at : (ts : List Token) (w : Bool) (fed more : List ℕ) → InOrder w ts → spelled ts ≡ fed ++ more → (cuts fed (mode.Words, [])).1 ≡ held_of ts fed
held_at [] w [] more o e = refl
held_at [] w (b ∷ fed) more o e = absurd cc
held_at ((true, bytes) ∷ ts) w fed more o e = by (nat_lt (length bytes) (length fed)) refl (λ rest h. held_at ts true rest more o.2 h) where
  by : (x : Bool) → nat_lt (length bytes) (length fed) ≡ x → ((rest : List ℕ) → spelled ts ≡ rest ++ more → (cuts rest (mode.Words, [])).1 ≡ held_of ts rest)
      → (cuts fed (mode.Words, [])).1 ≡ (if x then held_of ts (drop (length bytes) fed) else fed)
  by true lt next =
      let less = ltb-true (length bytes) (length fed) lt in
      let s = split bytes (spelled ts) fed more e (omega (arith, less)) in
      let rest = drop (length bytes) fed in
      let some : 0 < length rest = omega (arith, less, length-append bytes rest, ap length s.0) in
      ap (λ ys. (cuts ys (mode.Words, [])).1) s.0 ∙ ap (λ (c : Cut). c.1) (cuts-append bytes rest (mode.Words, []) ∙ ap (cuts rest) (in_text bytes o.0) ∙ behind_text ts rest more bytes o.2 s.1 some)
      ∙ next rest s.1
  by false ge next =
      let s = split fed more bytes (spelled ts) (sym e) (ltb-false (length bytes) (length fed) ge) in
      ap (λ (c : Cut). c.1) (in_text fed (lacks_front 60 fed (drop (length fed) bytes) (subst (λ ys. lacks 60 ys ≡ true) s.0 o.0)))
held_at ((false, bytes) ∷ ts) w fed more o e = by (nat_lt (length fed) (length bytes)) refl (λ rest h. held_at ts false rest more o.2 h) where
  by : (x : Bool) → nat_lt (length fed) (length bytes) ≡ x → ((rest : List ℕ) → spelled ts ≡ rest ++ more → (cuts rest (mode.Words, [])).1 ≡ held_of ts rest)
      → (cuts fed (mode.Words, [])).1 ≡ (if not x then held_of ts (drop (length bytes) fed) else fed)
  by true lt next =
      let less = ltb-true (length fed) (length bytes) lt in
      let s = split fed more bytes (spelled ts) (sym e) (omega (arith, less)) in
      closed_part bytes fed (drop (length fed) bytes) o.0 s.0 less
  by false ge next =
      let s = split bytes (spelled ts) fed more e (ltb-false (length fed) (length bytes) ge) in
      let rest = drop (length bytes) fed in
      ap (λ ys. (cuts ys (mode.Words, [])).1) s.0 ∙ ap (λ (c : Cut). c.1) (cuts-append bytes rest (mode.Words, []) ∙ ap (cuts rest) (closed_whole bytes o.0)) ∙ next rest s.1

-- ---- each token of a page

lone : (bytes : List ℕ) → lacks 62 bytes ≡ true → bytes_eq (codes "<script") (60 ∷ bytes) ≡ false → Closed ((60 ∷ bytes) ++ 62 ∷ [])
lone bytes l n = record {
  body = bytes;
  is = refl;
  holds = ap (λ (c : Cut). c.1) (sym (run_cut bytes (reader mode.Tag (60 ∷ []) refused)) ∙ ap cut_of inside);
  ends = sym (run_cut (bytes ++ 62 ∷ []) (reader mode.Tag (60 ∷ []) refused))
      ∙ ap cut_of (run-append bytes (62 ∷ []) (reader mode.Tag (60 ∷ []) refused) ∙ ap (run (62 ∷ [])) inside ∙ ends_tag (60 ∷ bytes) refused n);
} where
  inside : run bytes (reader mode.Tag (60 ∷ []) refused) ≡ reader mode.Tag (60 ∷ bytes) refused
  inside = in_tag bytes (60 ∷ []) refused l

opening_closed : (tag : Chars) (attributes : List (Attribute Code)) → opens tag attributes ≡ true → Closed (opening tag attributes ++ 62 ∷ [])
opening_closed tag attributes h =
    let p = opening_parts tag attributes h in
    let name = encode_utf8_all tag in
    let l = lacks-append 62 name (texts attributes) (spelled_lacks 62 name refl refl (tag_is_spelled name p.1)) (texts_closeless attributes p.2) in
    subst (λ ys. Closed (ys ++ 62 ∷ [])) (sym (opening_is tag attributes)) (lone (name ++ texts attributes) l (no_script name attributes p.1))

closing_closed : (tag : Chars) (attributes : List (Attribute Code)) → opens tag attributes ≡ true → Closed (closing tag ++ 62 ∷ [])
closing_closed tag attributes h =
    let p = opening_parts tag attributes h in
    let name = encode_utf8_all tag in
    lone (47 ∷ name) (spelled_lacks 62 name refl refl (tag_is_spelled name p.1)) refl

doctype_closed : Closed (doctype ++ 62 ∷ [])
doctype_closed = subst (λ ys. Closed (ys ++ 62 ∷ [])) (sym doctype_is) (lone (drop 1 doctype) doctype_closeless doctype_no_script)

slashed : (held : List ℕ) → cuts (codes "</script") (mode.Script, held) ≡ (mode.Slash, held ++ codes "</script")
slashed held = simp append_assoc refl

abbrev script_body : Code → List ℕ
script_body code = codes "script>" ++ (code_text code.body ++ codes "</script")

script_cut : (code : Code) → script code ≡ 60 ∷ script_body code
unfolding script
script_cut code = refl

script_closed : (code : Code) → is_code code ≡ true → Closed (script code ++ 62 ∷ [])
script_closed code h = subst (λ ys. Closed (ys ++ 62 ∷ [])) (sym (script_cut code)) (record {
  body = script_body code;
  is = refl;
  holds = ap (λ (c : Cut). c.1) through ∙ append_assoc (codes "<script>") text (codes "</script");
  ends = cuts-append (script_body code) (62 ∷ []) (mode.Tag, 60 ∷ []) ∙ ap (cuts (62 ∷ [])) through;
}) where
  text : List ℕ
  text = code_text code.body

  inside : cuts text (mode.Script, codes "<script>") ≡ (mode.Script, codes "<script>" ++ text)
  inside = sym (run_cut text (reader mode.Script (codes "<script>") refused)) ∙ ap cut_of (in_script text (codes "<script>") refused (code_closed code h))

  through : cuts (script_body code) (mode.Tag, 60 ∷ []) ≡ (mode.Slash, (codes "<script>" ++ text) ++ codes "</script")
  through = cuts-append text (codes "</script") (mode.Script, codes "<script>") ∙ ap (cuts (codes "</script")) inside ∙ slashed (codes "<script>" ++ text)

-- ---- every tree

module _ (tag : Chars) (attributes : List (Attribute Code)) (children : List Page) where
  tokens_node : tokens (node tag attributes children)
      ≡ tag_token (opening tag attributes) ∷ (if is_void_tag (encode_utf8_all tag) then [] else flat_map (λ (ts : List Token). ts) (map tokens children) ++ tag_token (closing tag) ∷ [])
  tokens_node = search (rules, the_lemmas)

tokens_words : (text : Chars) → tokens (html.Text text) ≡ (true, escaped (encode_utf8_all text)) ∷ []
tokens_words text = search (rules, the_lemmas)

tokens_script : (code : Code) → tokens (html.Script code) ≡ tag_token (script code) ∷ []
tokens_script code = search (rules, the_lemmas)

spelled-append : (xs ys : List Token) → spelled (xs ++ ys) ≡ spelled xs ++ spelled ys
spelled-append [] ys = refl
spelled-append (x ∷ xs) ys = ap (λ zs. x.1 ++ zs) (spelled-append xs ys) ∙ sym (append_assoc x.1 (spelled xs) (spelled ys))

record Tokened (h : Page) : Type 0 where
  pub text : spelled (tokens h) ≡ html_text h
  pub ordered : (w : Bool) (rest : List Token) → (look h).1 ≡ true → (w && (look h).0) ≡ false → InOrder (look h).0 rest → InOrder w (tokens h ++ rest)

abbrev TokenedElement : Element Code → Type 0
TokenedElement e = Tokened (html.Element e)

tokened_words : (text : Chars) → Tokened (html.Text text)
tokened_words text = record {
  text = ap spelled (tokens_words text) ∙ append-nil (escaped (encode_utf8_all text)) ∙ sym (text_words text);
  ordered = λ w rest good apart more.
      let is = ap (λ (x : Look). x.0) (look_words text) in
      subst (λ ts. InOrder w (ts ++ rest)) (sym (tokens_words text))
      (escaped_openless (encode_utf8_all text), subst (λ b. (w && b) ≡ false) is apart, subst (λ b. InOrder b rest) is more);
}

right_false : (w : Bool) → (w && false) ≡ false
right_false true = refl
right_false false = refl

tokened_script : (code : Code) → Tokened (html.Script code)
tokened_script code = record {
  text = ap spelled (tokens_script code) ∙ append-nil (script code ++ 62 ∷ []) ∙ sym (text_script code);
  ordered = λ w rest good apart more.
      let is = look_script code in
      subst (λ ts. InOrder w (ts ++ rest)) (sym (tokens_script code))
      (script_closed code (sym (ap (λ (x : Look). x.1) is) ∙ good), right_false w, subst (λ b. InOrder b rest) (ap (λ (x : Look). x.0) is) more);
}

abbrev Known : Type 0
Known = (h : Page) × Tokened h

abbrev KnownElement : Type 0
KnownElement = (e : Element Code) × TokenedElement e

abbrev bare : List Known → List Page
bare ks = map (λ k. k.0) ks

abbrev tokens_in : List Page → List Token
tokens_in hs = flat_map (λ (ts : List Token). ts) (map tokens hs)

children_text : (ks : List Known) → spelled (tokens_in (bare ks)) ≡ joined (map html_text (bare ks))
children_text [] = refl
children_text (k ∷ ks) = spelled-append (tokens k.0) (tokens_in (bare ks)) ∙ ap (λ ys. ys ++ spelled (tokens_in (bare ks))) k.1.text ∙ ap (λ ys. html_text k.0 ++ ys) (children_text ks)

children_ordered : (ks : List Known) (w : Bool) (rest : List Token) → in_order w (map look (bare ks)) ≡ true → ((v : Bool) → InOrder v rest) → InOrder w (tokens_in (bare ks) ++ rest)
children_ordered [] w rest o more = more w
children_ordered (k ∷ ks) w rest o more =
    let h = k.0 in
    let p = and_parts ((look h).1 && not (w && (look h).0)) (in_order (look h).0 (map look (bare ks))) o in
    let q = and_parts (look h).1 (not (w && (look h).0)) p.0 in
    subst (InOrder w) (sym (append_assoc (tokens h) (tokens_in (bare ks)) rest))
    (k.1.ordered w (tokens_in (bare ks) ++ rest) q.0 (not-true (w && (look h).0) q.1) (children_ordered ks (look h).0 rest p.1 more))

tokened_node : (tag : Chars) (attributes : List (Attribute Code)) (ks : List Known) → Tokened (node tag attributes (bare ks))
tokened_node tag attributes ks = record {
  text = ap spelled (tokens_node tag attributes (bare ks)) ∙ append_assoc (opening tag attributes) (62 ∷ []) _ ∙ ap (λ ys. opening tag attributes ++ 62 ∷ ys) (behind_text_is (is_void_tag name)) ∙ sym (text_node tag attributes (bare ks));
  ordered = λ w rest good apart more.
      let is = look_node tag attributes (bare ks) in
      let p = and_parts (opens tag attributes && (not (is_void_tag name) || is_empty (map look (bare ks)))) (in_order false (map look (bare ks))) (sym (ap (λ (x : Look). x.1) is) ∙ good) in
      let o = (and_parts (opens tag attributes) _ p.0).0 in
      subst (λ ts. InOrder w (ts ++ rest)) (sym (tokens_node tag attributes (bare ks)))
      (opening_closed tag attributes o, right_false w, behind_ordered (is_void_tag name) rest o p.1 (subst (λ b. InOrder b rest) (ap (λ (x : Look). x.0) is) more));
} where
  name : List ℕ
  name = encode_utf8_all tag

  last : List Token
  last = tag_token (closing tag) ∷ []

  behind_text_is : (v : Bool) → spelled (if v then [] else tokens_in (bare ks) ++ last) ≡ behind v tag (map html_text (bare ks))
  behind_text_is true = refl
  behind_text_is false =
      spelled-append (tokens_in (bare ks)) last ∙ ap (λ ys. ys ++ spelled last) (children_text ks) ∙ ap (λ ys. joined (map html_text (bare ks)) ++ ys) (append-nil (closing tag ++ 62 ∷ []))
      ∙ sym (append_assoc (joined (map html_text (bare ks))) (closing tag) (62 ∷ []))

  behind_ordered : (v : Bool) (rest : List Token) → opens tag attributes ≡ true → in_order false (map look (bare ks)) ≡ true → InOrder false rest → InOrder false ((if v then [] else tokens_in (bare ks) ++ last) ++ rest)
  behind_ordered true rest o i more = more
  behind_ordered false rest o i more =
      subst (InOrder false) (sym (append_assoc (tokens_in (bare ks)) last rest)) (children_ordered ks false (last ++ rest) i (λ v. (closing_closed tag attributes o, right_false v, more)))

by_html : (y : Html-F Code Known KnownElement) → Tokened (roll-Html Code (map-Html Code Known KnownElement Page (Element Code) (λ k. k.0) (λ k. k.0) y))
unfolding roll-Html roll
by_html (Html-F.Element k) = k.1
by_html (Html-F.Text text) = tokened_words text
by_html (Html-F.Script code) = tokened_script code

all_tokened : (h : Page) → Tokened h
all_tokened = ind-Html Code Tokened TokenedElement (λ x y is. subst (λ z. Tokened (roll-Html Code z)) is (by_html y))
    (λ x y is. subst (λ z. TokenedElement (record { tag = z.tag; attributes = z.attributes; children = z.children })) is (tokened_node y.tag y.attributes y.children))

-- ---- pages

fragment_ordered : (page : Page) → IsTree page → InOrder false (tokens page)
fragment_ordered page p = subst (InOrder false) (append-nil (tokens page)) ((all_tokened page).ordered false [] p.fits refl tt)

page_ordered : (whole : Bool) (page : Page) → IsTree page → InOrder false (tokens_of whole page)
page_ordered true page p = (doctype_closed, refl, fragment_ordered page p)
page_ordered false page p = fragment_ordered page p

page_spelled : (whole : Bool) (page : Page) → spelled (tokens_of whole page) ≡ whole_text whole page
page_spelled true page = ap (λ ys. (doctype ++ 62 ∷ []) ++ ys) (all_tokened page).text
page_spelled false page = (all_tokened page).text

pub held_is : (whole : Bool) (fed more : List ℕ) (page : Page) → IsTree page → whole_text whole page ≡ fed ++ more → (run fed (start whole)).held ≡ held_of (tokens_of whole page) fed
held_is whole fed more page p e = start_cut whole fed ∙ held_at (tokens_of whole page) false fed more (page_ordered whole page p) (page_spelled whole page ∙ e)
