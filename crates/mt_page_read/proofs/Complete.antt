-- The text of a tree within the limits is read as that tree.
use Rattle.std.proofs.Common.{◌≡◌, ℕ, suc, ◌+◌, ◌<◌, ◌≤◌, Bool, true, false, not, ◌&&◌, ◌||◌, ◌==◌, List, [], ◌∷◌, ◌++◌, length, map, drop, Some, if◌then◌else◌, refl, sym, ap, ◌∙◌, subst, append_assoc, arith, codes, eq-eqb}
use denote.Hole.Carrier.{roll}
use Rattle.std.proofs.lemmas.Bool.{and_parts, not-true, both_ways, false_from_ne_true, lt-ltb, ne_eqb}
use Rattle.std.proofs.lemmas.List.{append-nil}
use Rattle.std.proofs.lemmas.Str.{chars-encodes, chars-nil}
use Rattle.std.proofs.lemmas.Slice.Eq.{bytes_eq-Decides}
use Rattle.std.specs.List.{list_all, starts_with}
use Rattle.std.specs.Str.{encode_utf8_all, all_scalars, bytes_eq, chars}
use Rattle.mt_tree.specs.Tables.{is_attribute, is_lower_case, is_spelled, is_tag, is_void_tag, continues_name}
use Rattle.mt_page_tokens.proofs.TagLaws.{tag_is_spelled, script_no_tag}
use Rattle.mt_tree.specs.declared.html.Attribute.{Attribute}
use Rattle.mt_tree.specs.declared.html.Html.{roll-Html, map-Html}
use Rattle.mt_tree.specs.declared.html.Html.TheVariants as html
use Rattle.mt_tree.specs.declared.html.Element.{Element}
use Rattle.mt_tree.specs.declared.html.Html.TheOpen.{Html-F}
use Rattle.mt_tree.specs.declared.html.Html.TheFolds.{ind-Html}
use Rattle.mt_page_read.specs.declared.tree.Frame.{Frame}
use Rattle.mt_page_read.specs.declared.tree.Stage.TheVariants as stage
use Rattle.mt_page_read.specs.declared.tree.Growing.{Growing}
use Rattle.mt_page_tokens.specs.declared.tokens.Opening.{Opening}
use Rattle.mt_page_read.specs.declared.machine.Mode.TheVariants as mode
use Rattle.mt_page_read.specs.declared.machine.Machine.{Machine}
use Rattle.mt_syntax.specs.CodeText.{code_text}
use Rattle.mt_syntax.specs.PageText.{attribute_text, escaped, html_text, value_text}
use Rattle.mt_syntax.specs.declared.program.Code.{Code}
use Rattle.mt_page_tokens.specs.Codes.{is_code}
use Rattle.mt_page_tokens.specs.Tokens.{Chars, Page, closing, doctype, opening, script}
use Rattle.mt_page_tokens.specs.Limits.{IsTree, Look, attribute_fits, greatest, in_order, is_element, is_empty, is_text, look, nesting, opens}
use Rattle.mt_page_tokens.specs.Reading.{opening_at, words_at, script_at, unescaped}
use Rattle.mt_page_read.specs.Machine.{growing, with_child, grown, element_of, frame_of, opened, closed, tagged, worded, scripted, reader, run, start, finished}
use Rattle.mt_syntax_laws.specs.Openings.{opens_nothing}
use Rattle.mt_page_tokens.proofs.Lacking.{lacks, lacks-append, spelled_lacks}
use Rattle.mt_page_tokens.proofs.Escapes.{unescaped-escaped, escaped_openless, escaped_closeless}
use Rattle.mt_page_tokens.proofs.Codes.{code_closed}
use Rattle.mt_page_tokens.proofs.TokensRead.{attribute_spelled, opening_back, opening_is, opening_parts, pair_text, script_back, script_is, text_scalars, texts, words_back}
use Rattle.mt_page_read.proofs.Steps.{in_words, past_tag, past_script, nothing_worded}
use Rattle.mt_page_read.proofs.Runs.{run-append}
use Rattle.mt_page_read.proofs.Nodes.{joined, look_node, look_script, look_words, nesting_node, node, root_words, text_node, text_script, text_words, whole_text}

-- the reader stands between tokens, but for a text that the next < ends; then the tree is g
pub record Between (r : Machine) (g : Growing) : Type 0 where
  pub held : List ℕ
  pub before : Growing
  pub is : r ≡ reader mode.Words held before
  pub gives : worded held before ≡ g

pub ready : (g : Growing) → Between (reader mode.Words [] g) g
ready g = record { held = []; before = g; is = refl; gives = nothing_worded g }

past_tag_between : (bytes rest : List ℕ) (r : Machine) (g : Growing) → Between r g → lacks 62 bytes ≡ true → bytes_eq (codes "<script") (60 ∷ bytes) ≡ false
    → run (60 ∷ bytes ++ 62 ∷ rest) r ≡ run rest (reader mode.Words [] (tagged (60 ∷ bytes) g))
past_tag_between bytes rest r g b l n = ap (run (60 ∷ bytes ++ 62 ∷ rest)) b.is ∙ past_tag bytes b.held rest b.before l n ∙ ap (λ x. run rest (reader mode.Words [] (tagged (60 ∷ bytes) x))) b.gives

past_script_between : (code rest : List ℕ) (r : Machine) (g : Growing) → Between r g → opens_nothing code ≡ true
    → run ((codes "<script>" ++ code ++ codes "</script") ++ 62 ∷ rest) r ≡ run rest (reader mode.Words [] (scripted (codes "<script>" ++ code ++ codes "</script") g))
past_script_between code rest r g b l = ap (run ((codes "<script>" ++ code ++ codes "</script") ++ 62 ∷ rest)) b.is ∙ past_script code b.held rest b.before l ∙ ap (λ x. run rest (reader mode.Words [] (scripted (codes "<script>" ++ code ++ codes "</script") x))) b.gives

pub record Went (h : Page) (fs : List Frame) (r : Machine) (rest : List ℕ) : Type 0 where
  pub after : Machine
  pub between : Between after (grown h (growing stage.Root fs))
  pub empty : (look h).0 ≡ false → after.held ≡ []
  pub runs : run (html_text h ++ rest) r ≡ run rest after

abbrev pub Reads : Page → Type 0
Reads h = (fs : List Frame) (r : Machine) (rest : List ℕ) → (look h).1 ≡ true → nesting h + length fs ≤ 60 → ((look h).0 ≡ true → r.held ≡ []) → Between r (growing stage.Root fs) → Went h fs r rest

abbrev pub ReadsElement : Element Code → Type 0
ReadsElement e = Reads (html.Element e)

-- ---- a text

no_text : (text : Chars) → all_scalars text ≡ true → [] ≡ escaped (encode_utf8_all text) → text ≡ []
unfolding escaped
no_text text s e = sym (chars-encodes text s) ∙ ap chars (sym (unescaped-escaped (encode_utf8_all text)) ∙ ap unescaped (sym e) ∙ nothing) ∙ chars-nil where
  nothing : unescaped [] ≡ []
  nothing = unescaped-escaped []

worded_as : (text : Chars) (g : Growing) (bytes : List ℕ) → bytes ≡ escaped (encode_utf8_all text) → is_text text ≡ true → is_empty text ≡ false → worded bytes g ≡ grown (html.Text text) g
unfolding worded
worded_as text g [] e t n = absurd (both_ways (is_empty text) n (ap is_empty (no_text text (text_scalars text t) e)))
worded_as text g (b ∷ bs) e t n = rw (ap words_at e ∙ words_back text t) refl

reads_words : (text : Chars) → Reads (html.Text text)
reads_words text fs r rest fits nests empty b =
    let l = ap (λ (x : Look). x.1) (look_words text) in
    let parts = and_parts (is_text text) (not (is_empty text)) (sym l ∙ fits) in
    let bytes = escaped (encode_utf8_all text) in
    let none : b.held ≡ [] = ap (λ (x : Machine). x.held) (sym b.is) ∙ empty (ap (λ (x : Look). x.0) (look_words text)) in
    let g : b.before ≡ growing stage.Root fs = sym (nothing_worded b.before) ∙ ap (λ ys. worded ys b.before) (sym none) ∙ b.gives in
    let start : r ≡ reader mode.Words [] (growing stage.Root fs) = b.is ∙ ap (λ ys. reader mode.Words ys b.before) none ∙ ap (λ x. reader mode.Words [] x) g in
    record {
      after = reader mode.Words bytes (growing stage.Root fs);
      between = record { held = bytes; before = growing stage.Root fs; is = refl; gives = worded_as text (growing stage.Root fs) bytes refl parts.0 (not-true (is_empty text) parts.1) };
      empty = λ e. absurd (both_ways (look (html.Text text)).0 e (ap (λ (x : Look). x.0) (look_words text)));
      runs = ap (λ ys. run (ys ++ rest) r) (text_words text) ∙ ap (run (bytes ++ rest)) start ∙ through bytes rest (growing stage.Root fs) (escaped_openless (encode_utf8_all text));
    }
  where
    through : (bytes rest : List ℕ) (g : Growing) → lacks 60 bytes ≡ true → run (bytes ++ rest) (reader mode.Words [] g) ≡ run rest (reader mode.Words bytes g)
    through bytes rest g l = run-append bytes rest (reader mode.Words [] g) ∙ ap (run rest) (in_words bytes [] g l)

-- ---- a script

scripted_as : (code : Code) (bytes : List ℕ) (g : Growing) → bytes ≡ script code → is_code code ≡ true → scripted bytes g ≡ grown (html.Script code) g
unfolding scripted
scripted_as code bytes g e h = rw (ap script_at e ∙ script_back code h) refl

reads_script : (code : Code) → Reads (html.Script code)
reads_script code fs r rest fits nests empty b =
    let is = sym (ap (λ (x : Look). x.1) (look_script code)) ∙ fits in
    let whole = codes "<script>" ++ code_text code.body ++ codes "</script" in
    let g = growing stage.Root fs in
    record {
      after = reader mode.Words [] (grown (html.Script code) g);
      between = ready (grown (html.Script code) g);
      empty = λ e. refl;
      runs = ap (λ ys. run (ys ++ rest) r) (text_script code ∙ ap (λ ys. ys ++ 62 ∷ []) (script_is code)) ∙ ap (λ ys. run ys r) (append_assoc whole (62 ∷ []) rest)
          ∙ past_script_between (code_text code.body) rest r g b (code_closed code is)
          ∙ ap (λ x. run rest (reader mode.Words [] x)) (scripted_as code whole g (sym (script_is code)) is);
    }

-- ---- an element

attribute_closeless : (a : Attribute Code) → attribute_fits a ≡ true → lacks 62 (attribute_text a) ≡ true
attribute_closeless a h =
    let name = encode_utf8_all a.name in
    let value = escaped (value_text a.value) in
    let parts = and_parts (all_scalars a.name && is_attribute name) _ h in
    let spelled = attribute_spelled name (and_parts (all_scalars a.name) _ parts.0).1 in
    lacks-append 62 (32 ∷ name) (61 ∷ 34 ∷ (value ++ 34 ∷ [])) (spelled_lacks 62 name refl refl spelled) (lacks-append 62 value (34 ∷ []) (escaped_closeless (value_text a.value)) refl)

pub texts_closeless : (attributes : List (Attribute Code)) → list_all attribute_fits attributes ≡ true → lacks 62 (texts attributes) ≡ true
texts_closeless [] h = refl
texts_closeless (a ∷ more) h =
    let parts = and_parts (attribute_fits a) (list_all attribute_fits more) h in
    lacks-append 62 (attribute_text a) (texts more) (attribute_closeless a parts.0) (texts_closeless more parts.1)

has_byte : (s : ℕ) (xs ys : List ℕ) → lacks s (xs ++ s ∷ ys) ≡ true → ⊥
has_byte s [] ys h = both_ways (s == s) (not-true (s == s) (and_parts (not (s == s)) _ h).0) (eq-eqb s s refl)
has_byte s (x ∷ xs) ys h = has_byte s xs ys (and_parts (not (x == s)) _ h).1

pub no_script : (tag : List ℕ) (attributes : List (Attribute Code)) → is_tag tag ≡ true → bytes_eq (codes "<script") (60 ∷ (tag ++ texts attributes)) ≡ false
no_script tag attributes t = false_from_ne_true (bytes_eq (codes "<script") (60 ∷ (tag ++ texts attributes))) (λ h. differ attributes (ap (drop 1) ((bytes_eq-Decides (codes "<script") (60 ∷ (tag ++ texts attributes))).0 h))) where
  differ : (more : List (Attribute Code)) → codes "script" ≡ tag ++ texts more → ⊥
  differ [] e = both_ways (is_tag tag) (ap is_tag (sym (e ∙ append-nil tag)) ∙ script_no_tag) t
  differ (a ∷ more) e = has_byte 32 tag (pair_text a ++ texts more) (ap (lacks 32) (sym e))

no_slash : (tag more : List ℕ) → is_spelled tag ≡ true → starts_with (λ x y. x == y) (60 ∷ tag ++ more) (60 ∷ 47 ∷ []) ≡ false
no_slash [] more h = absurd cc
no_slash (b ∷ bs) more h =
    let lower = (and_parts (is_lower_case b) (list_all continues_name bs) h).0 in
    rw (ne_eqb 47 b (λ e. both_ways (is_lower_case b) (ap is_lower_case (sym e)) lower)) refl

tagged_opens : (bytes : List ℕ) (fs : List Frame) (o : Opening) → starts_with (λ x y. x == y) bytes (60 ∷ 47 ∷ []) ≡ false → opening_at bytes ≡ Some o → tagged bytes (growing stage.Root fs) ≡ opened (Some o) (growing stage.Root fs)
unfolding tagged
tagged_opens bytes fs o s e = rw (s, e) refl

opened_void : (fs : List Frame) (o : Opening) → length fs < 60 → is_void_tag (encode_utf8_all o.tag) ≡ true → opened (Some o) (growing stage.Root fs) ≡ grown (element_of (frame_of o)) (growing stage.Root fs)
unfolding opened
opened_void fs o l v = rw (lt-ltb (length fs) 60 l, v) refl

opened_more : (fs : List Frame) (o : Opening) → length fs < 60 → is_void_tag (encode_utf8_all o.tag) ≡ false → opened (Some o) (growing stage.Root fs) ≡ growing stage.Root (frame_of o ∷ fs)
unfolding opened
opened_more fs o l v = rw (lt-ltb (length fs) 60 l, v) refl

tagged_closes : (f : Frame) (fs : List Frame) → tagged (closing f.tag) (growing stage.Root (f ∷ fs)) ≡ grown (element_of f) (growing stage.Root fs)
unfolding tagged closed
tagged_closes f fs = rw ((bytes_eq-Decides (closing f.tag) (closing f.tag)).1 refl) refl

grown_inside : (h : Page) (f : Frame) (fs : List Frame) → grown h (growing stage.Root (f ∷ fs)) ≡ growing stage.Root (with_child h f ∷ fs)
unfolding grown
grown_inside h f fs = refl

abbrev with_children : List Page → Frame → Frame
with_children hs f = record { tag = f.tag; attributes = f.attributes; children = f.children ++ hs }

record WentAll (hs : List Page) (f : Frame) (fs : List Frame) (r : Machine) (rest : List ℕ) : Type 0 where
  pub after : Machine
  pub between : Between after (growing stage.Root (with_children hs f ∷ fs))
  pub runs : run (joined (map html_text hs) ++ rest) r ≡ run rest after

abbrev Known : Type 0
Known = (h : Page) × Reads h

abbrev bare : List Known → List Page
bare ks = map (λ k. k.0) ks

reads_all : (ks : List Known) (text_before : Bool) (f : Frame) (fs : List Frame) (r : Machine) (rest : List ℕ) → in_order text_before (map look (bare ks)) ≡ true → suc (greatest (map nesting (bare ks))) + length fs ≤ 60
    → (text_before ≡ false → r.held ≡ []) → Between r (growing stage.Root (f ∷ fs)) → WentAll (bare ks) f fs r rest
reads_all [] text_before f fs r rest ordered nests empty b = record {
  after = r;
  between = subst (λ cs. Between r (growing stage.Root (record { tag = f.tag; attributes = f.attributes; children = cs } ∷ fs))) (sym (append-nil f.children)) b;
  runs = refl;
}
reads_all (k ∷ ks) text_before f fs r rest ordered nests empty b =
    let h = k.0 in
    let p = and_parts ((look h).1 && not (text_before && (look h).0)) (in_order (look h).0 (map look (bare ks))) ordered in
    let q = and_parts (look h).1 (not (text_before && (look h).0)) p.0 in
    let behind = joined (map html_text (bare ks)) ++ rest in
    let nests_h : nesting h + length (f ∷ fs) ≤ 60 = omega arith in
    let one = k.1 (f ∷ fs) r behind q.0 nests_h (λ e. empty (free text_before (look h).0 e (not-true (text_before && (look h).0) q.1))) b in
    let inside = subst (λ g. Between one.after g) (grown_inside h f fs) one.between in
    let nests_more : suc (greatest (map nesting (bare ks))) + length fs ≤ 60 = omega arith in
    let more = reads_all ks (look h).0 (with_child h f) fs one.after rest p.1 nests_more one.empty inside in
    record {
      after = more.after;
      between = subst (λ cs. Between more.after (growing stage.Root (record { tag = f.tag; attributes = f.attributes; children = cs } ∷ fs))) (append_assoc f.children (h ∷ []) (bare ks)) more.between;
      runs = ap (λ ys. run ys r) (append_assoc (html_text h) (joined (map html_text (bare ks))) rest) ∙ one.runs ∙ more.runs;
    }
  where
    free : (x y : Bool) → y ≡ true → (x && y) ≡ false → x ≡ false
    free true y e h = absurd (both_ways y h e)
    free false y e h = refl

-- an element's text, cut behind its opening tag
cut_open : (tag : Chars) (attributes : List (Attribute Code)) (body rest : List ℕ) → (opening tag attributes ++ 62 ∷ body) ++ rest ≡ 60 ∷ (encode_utf8_all tag ++ texts attributes) ++ 62 ∷ (body ++ rest)
cut_open tag attributes body rest = append_assoc (opening tag attributes) (62 ∷ body) rest ∙ ap (λ ys. ys ++ 62 ∷ (body ++ rest)) (opening_is tag attributes)

-- the reader behind an opening tag
opens_run : (tag : Chars) (attributes : List (Attribute Code)) (body rest : List ℕ) (fs : List Frame) (r : Machine) → opens tag attributes ≡ true → Between r (growing stage.Root fs)
    → run ((opening tag attributes ++ 62 ∷ body) ++ rest) r ≡ run (body ++ rest) (reader mode.Words [] (opened (Some (record { tag = tag; attributes = attributes })) (growing stage.Root fs)))
opens_run tag attributes body rest fs r h b =
    let p = opening_parts tag attributes h in
    let name = encode_utf8_all tag in
    let spelled = tag_is_spelled name p.1 in
    let bytes = name ++ texts attributes in
    ap (λ ys. run ys r) (cut_open tag attributes body rest)
    ∙ past_tag_between bytes (body ++ rest) r (growing stage.Root fs) b (lacks-append 62 name (texts attributes) (spelled_lacks 62 name refl refl spelled) (texts_closeless attributes p.2)) (no_script name attributes p.1)
    ∙ ap (λ x. run (body ++ rest) (reader mode.Words [] x)) (tagged_opens (60 ∷ bytes) fs (record { tag = tag; attributes = attributes }) (no_slash name (texts attributes) spelled) (ap opening_at (sym (opening_is tag attributes)) ∙ opening_back tag attributes h))

no_children : (ks : List Known) → is_empty (map look (bare ks)) ≡ true → bare ks ≡ []
no_children [] h = refl
no_children (k ∷ ks) h = absurd cc

close_run : (f : Frame) (rest : List ℕ) (fs : List Frame) (r : Machine) → opens f.tag f.attributes ≡ true → Between r (growing stage.Root (f ∷ fs))
    → run (closing f.tag ++ 62 ∷ rest) r ≡ run rest (reader mode.Words [] (grown (element_of f) (growing stage.Root fs)))
close_run f rest fs r h b =
    let p = opening_parts f.tag f.attributes h in
    let name = encode_utf8_all f.tag in
    past_tag_between (47 ∷ name) rest r (growing stage.Root (f ∷ fs)) b (spelled_lacks 62 name refl refl (tag_is_spelled name p.1)) refl
    ∙ ap (λ x. run rest (reader mode.Words [] x)) (tagged_closes f fs)

reads_node : (tag : Chars) (attributes : List (Attribute Code)) (ks : List Known) → Reads (node tag attributes (bare ks))
reads_node tag attributes ks fs r rest fits nests empty b =
    let hs = bare ks in
    let name = encode_utf8_all tag in
    let l = sym (ap (λ (x : Look). x.1) (look_node tag attributes hs)) ∙ fits in
    let p = and_parts (opens tag attributes && (not (is_void_tag name) || is_empty (map look hs))) (in_order false (map look hs)) l in
    let q = and_parts (opens tag attributes) (not (is_void_tag name) || is_empty (map look hs)) p.0 in
    let deep : suc (greatest (map nesting hs)) + length fs ≤ 60 = subst (λ (n : ℕ). n + length fs ≤ 60) (nesting_node tag attributes hs) nests in
    let g = growing stage.Root fs in
    record {
      after = reader mode.Words [] (grown (node tag attributes hs) g);
      between = ready (grown (node tag attributes hs) g);
      empty = λ e. refl;
      runs = ap (λ ys. run (ys ++ rest) r) (text_node tag attributes hs) ∙ both (is_void_tag name) refl q.0 q.1 p.1 deep;
    }
  where
    both : (v : Bool) → is_void_tag (encode_utf8_all tag) ≡ v → opens tag attributes ≡ true → (not (is_void_tag (encode_utf8_all tag)) || is_empty (map look (bare ks))) ≡ true → in_order false (map look (bare ks)) ≡ true → suc (greatest (map nesting (bare ks))) + length fs ≤ 60
        → run ((opening tag attributes ++ 62 ∷ (if is_void_tag (encode_utf8_all tag) then [] else joined (map html_text (bare ks)) ++ closing tag ++ 62 ∷ [])) ++ rest) r ≡ run rest (reader mode.Words [] (grown (node tag attributes (bare ks)) (growing stage.Root fs)))
    both true e h void ordered deep =
        let none : bare ks ≡ [] = no_children ks (rw e at void) in
        let few : length fs < 60 = omega arith in
        rw e (opens_run tag attributes [] rest fs r h b ∙ ap (λ x. run rest (reader mode.Words [] x)) (opened_void fs (record { tag = tag; attributes = attributes }) few e ∙ ap (λ cs. grown (node tag attributes cs) (growing stage.Root fs)) (sym none)))
    both false e h void ordered deep =
        let few : length fs < 60 = omega arith in
        let o : Opening = record { tag = tag; attributes = attributes } in
        let body = joined (map html_text (bare ks)) ++ closing tag ++ 62 ∷ [] in
        let more = reads_all ks false (frame_of o) fs (reader mode.Words [] (growing stage.Root (frame_of o ∷ fs))) (closing tag ++ 62 ∷ rest) ordered deep (λ z. refl) (ready (growing stage.Root (frame_of o ∷ fs))) in
        rw e (opens_run tag attributes body rest fs r h b ∙ ap (λ x. run (body ++ rest) (reader mode.Words [] x)) (opened_more fs o few e)
        ∙ ap (λ ys. run ys (reader mode.Words [] (growing stage.Root (frame_of o ∷ fs)))) (append_assoc (joined (map html_text (bare ks)) ++ closing tag) (62 ∷ []) rest ∙ append_assoc (joined (map html_text (bare ks))) (closing tag) (62 ∷ rest))
        ∙ more.runs ∙ close_run (with_children (bare ks) (frame_of o)) rest fs more.after h more.between)

-- ---- every tree

abbrev KnownElement : Type 0
KnownElement = (e : Element Code) × ReadsElement e

abbrev bare_html : Html-F Code Known KnownElement → Html-F Code Page (Element Code)
bare_html = map-Html Code Known KnownElement Page (Element Code) (λ k. k.0) (λ k. k.0)

by_html : (y : Html-F Code Known KnownElement) → Reads (roll-Html Code (bare_html y))
unfolding roll-Html roll
by_html (Html-F.Element k) = k.1
by_html (Html-F.Text text) = reads_words text
by_html (Html-F.Script code) = reads_script code

pub all_read : (h : Page) → Reads h
all_read = ind-Html Code Reads ReadsElement (λ x y is. subst (λ z. Reads (roll-Html Code z)) is (by_html y)) (λ x y is. subst (λ z. ReadsElement (record { tag = z.tag; attributes = z.attributes; children = z.children })) is (reads_node y.tag y.attributes y.children))

-- ---- pages

abbrev Plain : Page → Type 0
Plain h = is_element h ≡ true → (look h).0 ≡ false

abbrev PlainElement : Element Code → Type 0
PlainElement e = Plain (html.Element e)

plain_html : (y : Html-F Code ((h : Page) × Plain h) ((e : Element Code) × PlainElement e)) → Plain (roll-Html Code (map-Html Code ((h : Page) × Plain h) ((e : Element Code) × PlainElement e) Page (Element Code) (λ k. k.0) (λ k. k.0) y))
unfolding roll-Html roll
plain_html (Html-F.Element k) = k.1
plain_html (Html-F.Text text) = λ e. absurd (both_ways (is_element (html.Text text)) (root_words text) e)
plain_html (Html-F.Script code) = λ e. ap (λ (x : Look). x.0) (look_script code)

plain : (h : Page) → Plain h
plain = ind-Html Code Plain PlainElement (λ x y is. subst (λ z. Plain (roll-Html Code z)) is (plain_html y))
    (λ x y is. subst (λ z. PlainElement (record { tag = z.tag; attributes = z.attributes; children = z.children })) is (λ e. ap (λ (x : Look). x.0) (look_node y.tag y.attributes (map (λ k. k.0) y.children))))

grown_root : (page : Page) → is_element page ≡ true → grown page (growing stage.Root []) ≡ growing (stage.Done page) []
unfolding grown
grown_root page e = rw e refl

fragment_read : (page : Page) → IsTree page → run (html_text page) (start false) ≡ reader mode.Words [] (growing (stage.Done page) [])
fragment_read page p =
    let no = plain page p.element in
    let w = all_read page [] (start false) [] p.fits (omega (arith, p.nests)) (λ e. refl) (ready (growing stage.Root [])) in
    let none : w.between.held ≡ [] = ap (λ (x : Machine). x.held) (sym w.between.is) ∙ w.empty no in
    let tree : w.between.before ≡ growing (stage.Done page) [] = sym (nothing_worded w.between.before) ∙ ap (λ ys. worded ys w.between.before) (sym none) ∙ w.between.gives ∙ grown_root page p.element in
    ap (λ ys. run ys (start false)) (sym (append-nil (html_text page))) ∙ w.runs ∙ w.between.is ∙ ap (λ ys. reader mode.Words ys w.between.before) none ∙ ap (λ g. reader mode.Words [] g) tree

pub doctype_is : doctype ≡ 60 ∷ drop 1 doctype
unfolding doctype
doctype_is = refl

pub doctype_closeless : lacks 62 (drop 1 doctype) ≡ true
unfolding doctype
doctype_closeless = refl

pub doctype_no_script : bytes_eq (codes "<script") (60 ∷ drop 1 doctype) ≡ false
unfolding doctype
doctype_no_script = refl

doctype_tag : tagged (60 ∷ drop 1 doctype) (growing stage.Doctype []) ≡ growing stage.Root []
unfolding doctype tagged
doctype_tag = refl

doctype_read : (rest : List ℕ) → run ((doctype ++ 62 ∷ []) ++ rest) (start true) ≡ run rest (start false)
doctype_read rest =
    ap (λ ys. run ys (start true)) (append_assoc doctype (62 ∷ []) rest ∙ ap (λ ys. ys ++ 62 ∷ rest) doctype_is)
    ∙ past_tag_between (drop 1 doctype) rest (start true) (growing stage.Doctype []) (ready (growing stage.Doctype [])) doctype_closeless doctype_no_script
    ∙ ap (λ g. run rest (reader mode.Words [] g)) doctype_tag

pub page_read : (whole : Bool) (page : Page) → IsTree page → run (whole_text whole page) (start whole) ≡ reader mode.Words [] (growing (stage.Done page) [])
page_read true page p = doctype_read (html_text page) ∙ fragment_read page p
page_read false page p = fragment_read page p

-- the text of a page within the limits is read as it
pub only : (whole : Bool) (page : Page) → IsTree page → finished (run (whole_text whole page) (start whole)) ≡ Some page
only whole page p = ap finished (page_read whole page p)
