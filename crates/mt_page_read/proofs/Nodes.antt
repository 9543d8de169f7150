-- What the folds over a tree make of one node.
use Rattle.std.proofs.Common.{◌≡◌, ℕ, suc, Bool, true, false, not, ◌&&◌, ◌||◌, List, [], ◌∷◌, ◌++◌, map, if◌then◌else◌, refl, sym, ap, ◌∙◌, append_assoc, codes, rules}
use Rattle.std.specs.List.{flat_map}
use Rattle.std.specs.Str.{encode_utf8_all}
use Rattle.mt_tree.specs.Tables.{is_void_tag}
use Rattle.mt_tree.specs.declared.html.Attribute.{Attribute}
use Rattle.mt_tree.specs.declared.html.Html.{the_lemmas}
use Rattle.mt_tree.specs.declared.html.Html.TheVariants as html
use Rattle.mt_syntax.specs.CodeText.{code_text}
use Rattle.mt_syntax.specs.PageText.{attribute_text, closing_text, escaped, html_text}
use Rattle.mt_syntax.specs.declared.program.Code.{Code}
use Rattle.mt_page_tokens.specs.Codes.{is_code}
use Rattle.mt_page_tokens.specs.Limits.{greatest, in_order, is_element, is_empty, is_text, look, nesting, opens}
use Rattle.mt_page_tokens.specs.Tokens.{Chars, Page, closing, doctype, opening, script, text_of}
use Rattle.mt_page_tokens.proofs.TokensRead.{opening_is, script_is, texts}

abbrev pub node : Chars → List (Attribute Code) → List Page → Page
node tag attributes children = html.Element (record { tag = tag; attributes = attributes; children = children })

abbrev pub joined : List (List ℕ) → List ℕ
joined [] = []
joined (xs ∷ xss) = xs ++ joined xss

flat_is_joined : (xss : List (List ℕ)) → flat_map (λ (text : List ℕ). text) xss ≡ joined xss
flat_is_joined [] = refl
flat_is_joined (xs ∷ xss) = ap (λ (ys : List ℕ). xs ++ ys) (flat_is_joined xss)

-- what stands behind an opening tag
abbrev pub behind : Bool → Chars → List (List ℕ) → List ℕ
behind void tag children = if void then [] else joined children ++ closing tag ++ 62 ∷ []

behind_is : (void : Bool) (tag : Chars) (children : List (List ℕ)) → (if void then [] else flat_map (λ (text : List ℕ). text) children ++ closing_text tag) ≡ behind void tag children
behind_is true tag children = refl
behind_is false tag children = ap (λ (ys : List ℕ). ys ++ closing_text tag) (flat_is_joined children) ∙ sym (append_assoc (joined children) (closing tag) (62 ∷ []))

module _ (tag : Chars) (attributes : List (Attribute Code)) (children : List Page) where
  text_by_fold : html_text (node tag attributes children)
      ≡ codes "<" ++ (encode_utf8_all tag ++ (flat_map attribute_text attributes ++ (codes ">" ++ (if is_void_tag (encode_utf8_all tag) then [] else flat_map (λ (text : List ℕ). text) (map html_text children) ++ closing_text tag))))
  text_by_fold = search (rules, the_lemmas)

  pub text_node : html_text (node tag attributes children) ≡ opening tag attributes ++ 62 ∷ (behind (is_void_tag (encode_utf8_all tag)) tag (map html_text children))
  text_node =
      let name = encode_utf8_all tag in
      let last = behind (is_void_tag name) tag (map html_text children) in
      text_by_fold
      ∙ ap (λ (ys : List ℕ). 60 ∷ (name ++ (texts attributes ++ 62 ∷ ys))) (behind_is (is_void_tag name) tag (map html_text children))
      ∙ ap (λ (ys : List ℕ). 60 ∷ ys) (sym (append_assoc name (texts attributes) (62 ∷ last)))
      ∙ ap (λ (ys : List ℕ). ys ++ 62 ∷ last) (sym (opening_is tag attributes))

  pub look_node : look (node tag attributes children) ≡ (false, opens tag attributes && (not (is_void_tag (encode_utf8_all tag)) || is_empty (map look children)) && in_order false (map look children))
  look_node = search (rules, the_lemmas)

  pub nesting_node : nesting (node tag attributes children) ≡ suc (greatest (map nesting children))
  nesting_node = search (rules, the_lemmas)

  pub root_node : is_element (node tag attributes children) ≡ true
  root_node = search (rules, the_lemmas)

module _ (text : Chars) where
  pub text_words : html_text (html.Text text) ≡ escaped (encode_utf8_all text)
  text_words = search (rules, the_lemmas)

  pub look_words : look (html.Text text) ≡ (true, is_text text && not (is_empty text))
  look_words = search (rules, the_lemmas)

  pub nesting_words : nesting (html.Text text) ≡ 0
  nesting_words = search (rules, the_lemmas)

  pub root_words : is_element (html.Text text) ≡ false
  root_words = search (rules, the_lemmas)

module _ (code : Code) where
  script_by_fold : html_text (html.Script code) ≡ codes "<script>" ++ (code_text code.body ++ codes "</script>")
  script_by_fold = search (rules, the_lemmas)

  pub text_script : html_text (html.Script code) ≡ script code ++ 62 ∷ []
  text_script =
      let text = code_text code.body in
      script_by_fold ∙ sym (append_assoc (codes "<script>") text (codes "</script>"))
      ∙ sym (append_assoc (codes "<script>" ++ text) (codes "</script") (62 ∷ []))
      ∙ ap (λ (ys : List ℕ). ys ++ 62 ∷ []) (sym (script_is code))

  pub look_script : look (html.Script code) ≡ (false, is_code code)
  look_script = search (rules, the_lemmas)

  pub nesting_script : nesting (html.Script code) ≡ 0
  nesting_script = search (rules, the_lemmas)

  pub root_script : is_element (html.Script code) ≡ false
  root_script = search (rules, the_lemmas)

-- ---- whole texts

-- what stands before the root: nothing in a fragment
abbrev pub before_root : Bool → List ℕ
before_root true = doctype ++ 62 ∷ []
before_root false = []

abbrev pub whole_text : Bool → Page → List ℕ
whole_text whole page = before_root whole ++ html_text page

pub text_is : (whole : Bool) (page : Page) → text_of whole page ≡ whole_text whole page
unfolding doctype
text_is true page = refl
text_is false page = refl
