-- What the reader has read is the text of what it has made.
use Rattle.std.proofs.Common.{◌≡◌, ℕ, suc, ◌+◌, ◌-◌, ◌<◌, ◌≤◌, Bool, true, false, not, ◌&&◌, ◌||◌, ◌==◌, List, [], ◌∷◌, ◌++◌, length, map, Option, Some, None, if◌then◌else◌, refl, sym, ap, ◌∙◌, subst, append_assoc, arith, codes}
use Rattle.std.proofs.lemmas.Bool.{and_parts, and_from, or_right, not_from_false, ltb-true, eqb-true}
use Rattle.std.proofs.lemmas.List.{append-nil, map-append}
use Rattle.std.proofs.lemmas.Slice.Eq.{bytes_eq-Decides}
use Rattle.std.specs.List.{starts_with}
use Rattle.std.specs.Prelude.{nat_lt}
use Rattle.std.specs.Str.{encode_utf8_all, bytes_eq}
use Rattle.mt_tree.specs.Tables.{is_void_tag}
use Rattle.mt_tree.specs.declared.html.Html.TheVariants as html
use Rattle.mt_page_read.specs.declared.tree.Frame.{Frame}
use Rattle.mt_page_read.specs.declared.tree.Stage.{Stage}
use Rattle.mt_page_read.specs.declared.tree.Stage.TheVariants as stage
use Rattle.mt_page_read.specs.declared.tree.Growing.{Growing}
use Rattle.mt_page_tokens.specs.declared.tokens.Opening.{Opening}
use Rattle.mt_page_read.specs.declared.machine.Mode.{Mode}
use Rattle.mt_page_read.specs.declared.machine.Mode.TheVariants as mode
use Rattle.mt_page_read.specs.declared.machine.Machine.{Machine}
use Rattle.mt_tree.specs.declared.html.Attribute.{Attribute}
use Rattle.mt_syntax.specs.PageText.{escaped, html_text}
use Rattle.mt_syntax.specs.declared.program.Code.{Code}
use Rattle.mt_page_tokens.specs.Tokens.{Chars, Page, closing, doctype, opening}
use Rattle.mt_page_tokens.specs.Limits.{IsTree, Look, greatest, in_order, is_element, is_empty, is_text, look, nesting, opens}
use Rattle.mt_page_tokens.specs.Reading.{opening_at, words_at, script_at}
use Rattle.mt_page_read.specs.Machine.{growing, refused, with_child, grown, element_of, frame_of, opened, closed, tagged, worded, scripted, reader, after, step, run, child_by, words_of, script_of, start, finished, finished_by}
use Rattle.mt_page_tokens.proofs.TokensRead.{opening_sound, words_sound, script_sound}
use Rattle.mt_page_read.proofs.Nodes.{before_root, joined, look_node, look_script, look_words, nesting_node, nesting_script, nesting_words, node, text_node, text_script, text_words, whole_text}
use Rattle.mt_page_read.proofs.Steps.{step_is}

-- the text of what is open, the innermost first
abbrev pub frames_text : List Frame → List ℕ
frames_text [] = []
frames_text (f ∷ fs) = frames_text fs ++ (opening f.tag f.attributes ++ 62 ∷ joined (map html_text f.children))

pub record FrameFits (f : Frame) (fs : List Frame) : Type 0 where
  pub opens : opens f.tag f.attributes ≡ true
  pub void : is_void_tag (encode_utf8_all f.tag) ≡ false
  pub ordered : in_order false (map look f.children) ≡ true
  pub nests : suc (greatest (map nesting f.children)) + length fs ≤ 60

abbrev pub FramesFit : List Frame → Type 0
FramesFit [] = Unit {0}
FramesFit (f ∷ fs) = FrameFits f fs × FramesFit fs

-- this text was read, and the tree stands for it
abbrev pub TreeRead : Bool → List ℕ → Stage → List Frame → Type 0
TreeRead whole text stage.Doctype fs = (whole ≡ true) × (fs ≡ []) × (text ≡ [])
TreeRead whole text stage.Root fs = (text ≡ before_root whole ++ frames_text fs) × FramesFit fs
TreeRead whole text (stage.Done page) fs = (fs ≡ []) × IsTree page × (text ≡ whole_text whole page)
TreeRead whole text stage.Refused fs = fs ≡ []

abbrev pub Read : Bool → List ℕ → Growing → Type 0
Read whole text g = TreeRead whole text g.stage g.frames

abbrev last_text : Bool → List Look → Bool
last_text w [] = w
last_text w (x ∷ xs) = last_text x.0 xs

-- the last child of the innermost element is a text
abbrev ends_text : List Frame → Bool
ends_text [] = false
ends_text (f ∷ fs) = last_text false (map look f.children)

-- ---- lists

joined-append : (xs : List (List ℕ)) (x : List ℕ) → joined (xs ++ x ∷ []) ≡ joined xs ++ x
joined-append [] x = append-nil x
joined-append (y ∷ xs) x = ap (λ ys. y ++ ys) (joined-append xs x) ∙ sym (append_assoc y (joined xs) x)

greatest-append : (xs : List ℕ) (x n : ℕ) → greatest xs ≤ n → x ≤ n → greatest (xs ++ x ∷ []) ≤ n
greatest-append [] x n p q = omega arith
greatest-append (y ∷ xs) x n p q = let more : greatest (xs ++ x ∷ []) ≤ n = greatest-append xs x n (omega arith) q in omega arith

in_order-append : (w : Bool) (xs : List Look) (x : Look) → in_order w xs ≡ true → x.1 ≡ true → (last_text w xs && x.0) ≡ false → in_order w (xs ++ x ∷ []) ≡ true
in_order-append w [] x p q r = and_from (x.1 && not (w && x.0)) true (and_from x.1 (not (w && x.0)) q (not_from_false (w && x.0) r)) refl
in_order-append w (y ∷ xs) x p q r =
    let h = and_parts (y.1 && not (w && y.0)) (in_order y.0 xs) p in
    and_from (y.1 && not (w && y.0)) (in_order y.0 (xs ++ x ∷ [])) h.0 (in_order-append y.0 xs x h.1 q r)

last-append : (w : Bool) (xs : List Look) (x : Look) → last_text w (xs ++ x ∷ []) ≡ x.0
last-append w [] x = refl
last-append w (y ∷ xs) x = last-append y.0 xs x

-- ---- a node more

child_fits : (h : Page) (f : Frame) (fs : List Frame) → FrameFits f fs → (look h).1 ≡ true → (ends_text (f ∷ fs) && (look h).0) ≡ false → nesting h + length (f ∷ fs) ≤ 60 → FrameFits (with_child h f) fs
child_fits h f fs fits good apart nests = record {
  opens = fits.opens;
  void = fits.void;
  ordered = ap (in_order false) (map-append look f.children (h ∷ [])) ∙ in_order-append false (map look f.children) (look h) fits.ordered good apart;
  nests =
      let most : greatest (map nesting f.children ++ nesting h ∷ []) ≤ 59 - length fs = greatest-append (map nesting f.children) (nesting h) (59 - length fs) (omega (arith, fits.nests)) (omega arith) in
      let same = ap greatest (map-append nesting f.children (h ∷ [])) in
      omega (arith, most, same, fits.nests);
}

child_text : (h : Page) (f : Frame) → joined (map html_text (f.children ++ h ∷ [])) ≡ joined (map html_text f.children) ++ html_text h
child_text h f = ap joined (map-append html_text f.children (h ∷ [])) ∙ joined-append (map html_text f.children) (html_text h)

child_frames : (h : Page) (f : Frame) (fs : List Frame) → frames_text (f ∷ fs) ++ html_text h ≡ frames_text (with_child h f ∷ fs)
child_frames h f fs =
    append_assoc (frames_text fs) (opening f.tag f.attributes ++ 62 ∷ joined (map html_text f.children)) (html_text h)
    ∙ ap (λ ys. frames_text fs ++ ys) (append_assoc (opening f.tag f.attributes) (62 ∷ joined (map html_text f.children)) (html_text h) ∙ ap (λ ys. opening f.tag f.attributes ++ 62 ∷ ys) (sym (child_text h f)))

pub grown_read : (whole : Bool) (h : Page) (text : List ℕ) (s : Stage) (fs : List Frame) → TreeRead whole text s fs → (look h).1 ≡ true → (ends_text fs && (look h).0) ≡ false → nesting h + length fs ≤ 60
    → Read whole (text ++ html_text h) (grown h (growing s fs))
unfolding grown
grown_read whole h text stage.Doctype [] t good apart nests = refl
grown_read whole h text stage.Doctype (f ∷ fs) t good apart nests = absurd cc
grown_read whole h text stage.Root [] t good apart nests = by_root (is_element h) refl where
  by_root : (e : Bool) → is_element h ≡ e → TreeRead whole (text ++ html_text h) (if e then stage.Done h else stage.Refused) []
  by_root true e = (refl, record { element = e; fits = good; nests = omega arith }, ap (λ ys. ys ++ html_text h) (t.0 ∙ append-nil (before_root whole)))
  by_root false e = refl
grown_read whole h text stage.Root (f ∷ fs) t good apart nests = (
  ap (λ ys. ys ++ html_text h) t.0 ∙ append_assoc (before_root whole) (frames_text (f ∷ fs)) (html_text h) ∙ ap (λ ys. before_root whole ++ ys) (child_frames h f fs),
  (child_fits h f fs t.1.0 good apart nests, t.1.1),
)
grown_read whole h text (stage.Done page) [] t good apart nests = refl
grown_read whole h text (stage.Done page) (f ∷ fs) t good apart nests = absurd cc
grown_read whole h text stage.Refused [] t good apart nests = refl
grown_read whole h text stage.Refused (f ∷ fs) t good apart nests = absurd cc

-- behind a node that is no text, no text stands last
pub grown_apart : (h : Page) (s : Stage) (fs : List Frame) → (look h).0 ≡ false → ends_text (grown h (growing s fs)).frames ≡ false
unfolding grown
grown_apart h s [] e = refl
grown_apart h s (f ∷ fs) e = ap (last_text false) (map-append look f.children (h ∷ [])) ∙ last-append false (map look f.children) (look h) ∙ e

few_frames : (whole : Bool) (text : List ℕ) (s : Stage) (fs : List Frame) → TreeRead whole text s fs → length fs ≤ 60
few_frames whole text s [] t = omega arith
few_frames whole text stage.Doctype (f ∷ fs) t = absurd cc
few_frames whole text stage.Root (f ∷ fs) t = omega (arith, t.1.0.nests)
few_frames whole text (stage.Done page) (f ∷ fs) t = absurd cc
few_frames whole text stage.Refused (f ∷ fs) t = absurd cc

-- ---- a text, a script

not_both : (x y : Bool) → x ≡ false → (x && y) ≡ false
not_both true y e = absurd cc
not_both false y e = refl

not_right : (x y : Bool) → y ≡ false → (x && y) ≡ false
not_right true y e = e
not_right false y e = refl

no_words : (b : ℕ) (bytes : List ℕ) (text : Chars) → escaped (encode_utf8_all text) ≡ b ∷ bytes → not (is_empty text) ≡ true
unfolding escaped
no_words b bytes [] e = absurd cc
no_words b bytes (c ∷ cs) e = refl

pub worded_read : (whole : Bool) (bytes text : List ℕ) (g : Growing) → Read whole text g → ends_text g.frames ≡ false → Read whole (text ++ bytes) (worded bytes g)
unfolding worded
worded_read whole [] text g t apart = subst (λ ys. Read whole ys g) (sym (append-nil text)) t
worded_read whole (b ∷ bytes) text g t apart = by_words (words_at (b ∷ bytes)) refl where
  by_words : (o : Option Chars) → words_at (b ∷ bytes) ≡ o → Read whole (text ++ b ∷ bytes) (child_by (words_of o) g)
  by_words None e = refl
  by_words (Some found) e =
      let w = words_sound (b ∷ bytes) found e in
      let l = look_words found in
      let few = few_frames whole text g.stage g.frames t in
      subst (λ ys. Read whole (text ++ ys) (grown (html.Text found) g)) (text_words found ∙ w.1)
      (grown_read whole (html.Text found) text g.stage g.frames t
      (ap (λ (x : Look). x.1) l ∙ and_from (is_text found) (not (is_empty found)) w.0 (no_words b bytes found w.1))
      (not_both (ends_text g.frames) (look (html.Text found)).0 apart)
      (omega (arith, nesting_words found, few)))

pub scripted_read : (whole : Bool) (bytes text : List ℕ) (g : Growing) → Read whole text g → Read whole (text ++ bytes ++ 62 ∷ []) (scripted bytes g) × (ends_text (scripted bytes g).frames ≡ false)
unfolding scripted
scripted_read whole bytes text g t = by_code (script_at bytes) refl where
  by_code : (o : Option Code) → script_at bytes ≡ o → Read whole (text ++ bytes ++ 62 ∷ []) (child_by (script_of o) g) × (ends_text (child_by (script_of o) g).frames ≡ false)
  by_code None e = (refl, refl)
  by_code (Some code) e =
      let w = script_sound bytes code e in
      let l = look_script code in
      let few = few_frames whole text g.stage g.frames t in (
        subst (λ ys. Read whole ys (grown (html.Script code) g)) (ap (λ ys. text ++ ys) (text_script code ∙ ap (λ ys. ys ++ 62 ∷ []) w.1) ∙ sym (append_assoc text bytes (62 ∷ [])))
            (grown_read whole (html.Script code) text g.stage g.frames t (ap (λ (x : Look). x.1) l ∙ w.0) (not_right (ends_text g.frames) (look (html.Script code)).0 (ap (λ (x : Look). x.0) l)) (omega (arith, nesting_script code, few))),
        grown_apart (html.Script code) g.stage g.frames (ap (λ (x : Look). x.0) l),
      )

-- ---- tags

node_good : (tag : Chars) (attributes : List (Attribute Code)) (hs : List Page) → opens tag attributes ≡ true → (not (is_void_tag (encode_utf8_all tag)) || is_empty (map look hs)) ≡ true → in_order false (map look hs) ≡ true → (look (node tag attributes hs)).1 ≡ true
node_good tag attributes hs o v i = ap (λ (x : Look). x.1) (look_node tag attributes hs) ∙ and_from (opens tag attributes && (not (is_void_tag (encode_utf8_all tag)) || is_empty (map look hs))) (in_order false (map look hs)) (and_from (opens tag attributes) (not (is_void_tag (encode_utf8_all tag)) || is_empty (map look hs)) o v) i

abbrev Both : Bool → List ℕ → Growing → Type 0
Both whole text g = Read whole text g × (ends_text g.frames ≡ false)

opened_root : (whole : Bool) (bytes text : List ℕ) (fs : List Frame) (o : Opening) → TreeRead whole text stage.Root fs → opens o.tag o.attributes ≡ true → opening o.tag o.attributes ≡ bytes → length fs < 60 → (v : Bool) → is_void_tag (encode_utf8_all o.tag) ≡ v
    → Both whole (text ++ bytes ++ 62 ∷ []) (if v then grown (element_of (frame_of o)) (growing stage.Root fs) else growing stage.Root (frame_of o ∷ fs))
opened_root whole bytes text fs o t h same few true v =
    let n = node o.tag o.attributes [] in
    let is : html_text n ≡ opening o.tag o.attributes ++ 62 ∷ [] = text_node o.tag o.attributes [] ∙ rw v refl in (
      subst (λ ys. Read whole ys (grown n (growing stage.Root fs))) (ap (λ ys. text ++ ys) (is ∙ ap (λ ys. ys ++ 62 ∷ []) same) ∙ sym (append_assoc text bytes (62 ∷ [])))
          (grown_read whole n text stage.Root fs t (node_good o.tag o.attributes [] h (or_right (not (is_void_tag (encode_utf8_all o.tag))) true refl) refl) (not_right (ends_text fs) (look n).0 (ap (λ (x : Look). x.0) (look_node o.tag o.attributes []))) (omega (arith, nesting_node o.tag o.attributes [], few))),
      grown_apart n stage.Root fs (ap (λ (x : Look). x.0) (look_node o.tag o.attributes [])),
    )
opened_root whole bytes text fs o t h same few false v = (
  (
    append_assoc text bytes (62 ∷ []) ∙ ap (λ ys. ys ++ (bytes ++ 62 ∷ [])) t.0 ∙ append_assoc (before_root whole) (frames_text fs) (bytes ++ 62 ∷ []) ∙ ap (λ ys. before_root whole ++ (frames_text fs ++ (ys ++ 62 ∷ []))) (sym same),
    (record { opens = h; void = v; ordered = refl; nests = omega arith }, t.1),
  ),
  refl,
)

opened_read : (whole : Bool) (bytes text : List ℕ) (s : Stage) (fs : List Frame) (o : Option Opening) → TreeRead whole text s fs → opening_at bytes ≡ o → Both whole (text ++ bytes ++ 62 ∷ []) (opened o (growing s fs))
unfolding opened
opened_read whole bytes text s fs None t e = (refl, refl)
opened_read whole bytes text stage.Doctype fs (Some o) t e = (refl, refl)
opened_read whole bytes text (stage.Done page) fs (Some o) t e = (refl, refl)
opened_read whole bytes text stage.Refused fs (Some o) t e = (refl, refl)
opened_read whole bytes text stage.Root fs (Some o) t e = by_room (nat_lt (length fs) 60) refl where
  w : (opens o.tag o.attributes ≡ true) × (opening o.tag o.attributes ≡ bytes)
  w = opening_sound bytes o e

  by_room : (b : Bool) → nat_lt (length fs) 60 ≡ b
      → Both whole (text ++ bytes ++ 62 ∷ []) (if b then (if is_void_tag (encode_utf8_all o.tag) then grown (element_of (frame_of o)) (growing stage.Root fs) else growing stage.Root (frame_of o ∷ fs)) else refused)
  by_room true h = opened_root whole bytes text fs o t w.0 w.1 (ltb-true (length fs) 60 h) (is_void_tag (encode_utf8_all o.tag)) refl
  by_room false h = (refl, refl)

closed_root : (whole : Bool) (bytes text : List ℕ) (f : Frame) (fs : List Frame) → TreeRead whole text stage.Root (f ∷ fs) → closing f.tag ≡ bytes → Both whole (text ++ bytes ++ 62 ∷ []) (grown (element_of f) (growing stage.Root fs))
closed_root whole bytes text f fs t same =
    let n = node f.tag f.attributes f.children in
    let inner = joined (map html_text f.children) in
    let open_f = opening f.tag f.attributes in
    let is : html_text n ≡ open_f ++ 62 ∷ (inner ++ bytes ++ 62 ∷ []) = text_node f.tag f.attributes f.children ∙ rw (t.1.0.void, same) refl in
    let before : List ℕ = before_root whole ++ frames_text fs in
    let cut : text ++ bytes ++ 62 ∷ [] ≡ before ++ html_text n =
    append_assoc text bytes (62 ∷ []) ∙ ap (λ ys. ys ++ (bytes ++ 62 ∷ [])) (t.0 ∙ sym (append_assoc (before_root whole) (frames_text fs) (open_f ++ 62 ∷ inner)))
    ∙ append_assoc before (open_f ++ 62 ∷ inner) (bytes ++ 62 ∷ [])
    ∙ ap (λ ys. before ++ ys) (append_assoc open_f (62 ∷ inner) (bytes ++ 62 ∷ []) ∙ ap (λ ys. open_f ++ 62 ∷ ys) (sym (append_assoc inner bytes (62 ∷ []))) ∙ sym is) in
    let no = ap (λ (x : Look). x.0) (look_node f.tag f.attributes f.children) in (
      subst (λ ys. Read whole ys (grown n (growing stage.Root fs))) (sym cut)
          (grown_read whole n before stage.Root fs (refl, t.1.1)
          (node_good f.tag f.attributes f.children t.1.0.opens (rw t.1.0.void refl) t.1.0.ordered)
          (not_right (ends_text fs) (look n).0 no) (omega (arith, nesting_node f.tag f.attributes f.children, t.1.0.nests))),
      grown_apart n stage.Root fs no,
    )

closed_read : (whole : Bool) (bytes text : List ℕ) (s : Stage) (fs : List Frame) → TreeRead whole text s fs → Both whole (text ++ bytes ++ 62 ∷ []) (closed bytes (growing s fs))
unfolding closed
closed_read whole bytes text s [] t = (refl, refl)
closed_read whole bytes text stage.Doctype (f ∷ fs) t = absurd cc
closed_read whole bytes text (stage.Done page) (f ∷ fs) t = absurd cc
closed_read whole bytes text stage.Refused (f ∷ fs) t = absurd cc
closed_read whole bytes text stage.Root (f ∷ fs) t = by_same (bytes_eq (closing f.tag) bytes) refl where
  by_same : (b : Bool) → bytes_eq (closing f.tag) bytes ≡ b → Both whole (text ++ bytes ++ 62 ∷ []) (if b then grown (element_of f) (growing stage.Root fs) else refused)
  by_same true e = closed_root whole bytes text f fs t ((bytes_eq-Decides (closing f.tag) bytes).0 e)
  by_same false e = (refl, refl)

by_slash : (whole : Bool) (bytes text : List ℕ) (s : Stage) (fs : List Frame) (b : Bool) → TreeRead whole text s fs → Both whole (text ++ bytes ++ 62 ∷ []) (if b then closed bytes (growing s fs) else opened (opening_at bytes) (growing s fs))
by_slash whole bytes text s fs true t = closed_read whole bytes text s fs t
by_slash whole bytes text s fs false t = opened_read whole bytes text s fs (opening_at bytes) t refl

pub tagged_read : (whole : Bool) (bytes text : List ℕ) (s : Stage) (fs : List Frame) → TreeRead whole text s fs → Both whole (text ++ bytes ++ 62 ∷ []) (tagged bytes (growing s fs))
unfolding tagged
tagged_read whole bytes text stage.Root fs t = by_slash whole bytes text stage.Root fs (starts_with (λ x y. x == y) bytes (60 ∷ 47 ∷ [])) t
tagged_read whole bytes text (stage.Done page) fs t = by_slash whole bytes text (stage.Done page) fs (starts_with (λ x y. x == y) bytes (60 ∷ 47 ∷ [])) t
tagged_read whole bytes text stage.Refused fs t = by_slash whole bytes text stage.Refused fs (starts_with (λ x y. x == y) bytes (60 ∷ 47 ∷ [])) t
tagged_read whole bytes text stage.Doctype fs t = by_same (bytes_eq doctype bytes) refl where
  by_same : (b : Bool) → bytes_eq doctype bytes ≡ b → Both whole (text ++ bytes ++ 62 ∷ []) (if b then growing stage.Root fs else refused)
  by_same true e =
      let is : text ++ bytes ++ 62 ∷ [] ≡ before_root whole ++ frames_text fs = rw (t.0, t.1, t.2, (bytes_eq-Decides doctype bytes).0 e) (sym (append-nil (bytes ++ 62 ∷ []))) in
      ((is, subst FramesFit (sym t.1) tt), ap ends_text t.1)
  by_same false e = (refl, refl)

-- ---- the reader

pub record Fed (whole : Bool) (fed : List ℕ) (r : Machine) : Type 0 where
  pub text : List ℕ
  pub is : fed ≡ text ++ r.held
  pub tree : Read whole text r.tree
  pub apart : r.mode ≡ mode.Words → ends_text r.tree.frames ≡ false

module _ (whole : Bool) (b : ℕ) (text held : List ℕ) (g : Growing) (t : Read whole text g) where
  stays : (m : Mode) → (m ≡ mode.Words → ends_text g.frames ≡ false) → Fed whole ((text ++ held) ++ b ∷ []) (reader m (held ++ b ∷ []) g)
  stays m apart = record { text = text; is = append_assoc text held (b ∷ []); tree = t; apart = apart }

  ends_with : (next : Growing) → b ≡ 62 → Read whole (text ++ held ++ 62 ∷ []) next × (ends_text next.frames ≡ false) → Fed whole ((text ++ held) ++ b ∷ []) (reader mode.Words [] next)
  ends_with next e n = record { text = text ++ held ++ 62 ∷ []; is = ap (λ c. (text ++ held) ++ c ∷ []) e ∙ sym (append-nil (text ++ held ++ 62 ∷ [])); tree = n.0; apart = λ z. n.1 }

  after_read : (m : Mode) → (m ≡ mode.Words → ends_text g.frames ≡ false) → Fed whole ((text ++ held) ++ b ∷ []) (after b m held g)
  after_read mode.Words apart = by_open (b == 60) where
    by_open : (x : Bool) → Fed whole ((text ++ held) ++ b ∷ []) (if x then reader mode.Tag (b ∷ []) (worded held g) else reader mode.Words (held ++ b ∷ []) g)
    by_open true = record { text = text ++ held; is = refl; tree = worded_read whole held text g t (apart refl); apart = λ e. absurd cc }
    by_open false = stays mode.Words apart
  after_read mode.Tag apart = by_close (b == 62) refl (bytes_eq (codes "<script") held) where
    by_close : (x : Bool) → (b == 62) ≡ x → (y : Bool) → Fed whole ((text ++ held) ++ b ∷ []) (if x then (if y then reader mode.Script (held ++ b ∷ []) g else reader mode.Words [] (tagged held g)) else reader mode.Tag (held ++ b ∷ []) g)
    by_close true e true = stays mode.Script (λ z. absurd cc)
    by_close true e false = ends_with (tagged held g) (eqb-true b 62 e) (tagged_read whole held text g.stage g.frames t)
    by_close false e y = stays mode.Tag (λ z. absurd cc)
  after_read mode.Script apart = by_open (b == 60) where
    by_open : (x : Bool) → Fed whole ((text ++ held) ++ b ∷ []) (reader (if x then mode.Less else mode.Script) (held ++ b ∷ []) g)
    by_open true = stays mode.Less (λ z. absurd cc)
    by_open false = stays mode.Script (λ z. absurd cc)
  after_read mode.Less apart = by_slash_or (b == 47) (b == 60) where
    by_slash_or : (x y : Bool) → Fed whole ((text ++ held) ++ b ∷ []) (reader (if x then mode.Slash else (if y then mode.Less else mode.Script)) (held ++ b ∷ []) g)
    by_slash_or true y = stays mode.Slash (λ z. absurd cc)
    by_slash_or false true = stays mode.Less (λ z. absurd cc)
    by_slash_or false false = stays mode.Script (λ z. absurd cc)
  after_read mode.Slash apart = by_close (b == 62) refl where
    by_close : (x : Bool) → (b == 62) ≡ x → Fed whole ((text ++ held) ++ b ∷ []) (if x then reader mode.Words [] (scripted held g) else reader mode.Slash (held ++ b ∷ []) g)
    by_close true e = ends_with (scripted held g) (eqb-true b 62 e) (scripted_read whole held text g t)
    by_close false e = stays mode.Slash (λ z. absurd cc)

step_read : (whole : Bool) (b : ℕ) (fed : List ℕ) (r : Machine) → Fed whole fed r → Fed whole (fed ++ b ∷ []) (step b r)
step_read whole b fed r h =
    subst (λ x. Fed whole (fed ++ b ∷ []) x) (sym (step_is b r)) (subst (λ ys. Fed whole (ys ++ b ∷ []) (after b r.mode r.held r.tree)) (sym h.is) (after_read whole b h.text r.held r.tree h.tree r.mode h.apart))

pub run_read : (whole : Bool) (bytes fed : List ℕ) (r : Machine) → Fed whole fed r → Fed whole (fed ++ bytes) (run bytes r)
run_read whole [] fed r h = subst (λ ys. Fed whole ys r) (sym (append-nil fed)) h
run_read whole (b ∷ bytes) fed r h = subst (λ ys. Fed whole ys (run bytes (step b r))) (append_assoc fed (b ∷ []) bytes) (run_read whole bytes (fed ++ b ∷ []) (step b r) (step_read whole b fed r h))

start_read : (whole : Bool) → Fed whole [] (start whole)
start_read true = record { text = []; is = refl; tree = (refl, refl, refl); apart = λ e. refl }
start_read false = record { text = []; is = refl; tree = (refl, tt); apart = λ e. refl }

by_stage : (whole : Bool) (fed text held : List ℕ) (s : Stage) (fs : List Frame) (page : Page) → fed ≡ text ++ held → TreeRead whole text s fs → finished_by s held ≡ Some page → IsTree page × (whole_text whole page ≡ fed)
by_stage whole fed text [] (stage.Done found) fs page is t e =
    let same : found ≡ page = cc in
    subst (λ x. IsTree x × (whole_text whole x ≡ fed)) same (t.1, sym t.2 ∙ sym (append-nil text) ∙ sym is)
by_stage whole fed text (b ∷ held) (stage.Done found) fs page is t e = absurd cc
by_stage whole fed text held stage.Doctype fs page is t e = absurd cc
by_stage whole fed text held stage.Root fs page is t e = absurd cc
by_stage whole fed text held stage.Refused fs page is t e = absurd cc

-- what is read is a page within the limits, and the bytes are its text
pub found : (whole : Bool) (fed : List ℕ) (page : Page) → finished (run fed (start whole)) ≡ Some page → IsTree page × (whole_text whole page ≡ fed)
found whole fed page e =
    let r = run fed (start whole) in
    let h = run_read whole fed [] (start whole) (start_read whole) in
    by_stage whole fed h.text r.held r.tree.stage r.tree.frames page h.is h.tree e
