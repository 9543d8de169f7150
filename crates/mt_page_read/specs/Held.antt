-- The tokens of a page, and the bytes that stand behind the last whole one.
use Rattle.std.specs.Prelude.{ℕ, Bool, true, false, not, nat_lt, if◌then◌else◌, List, [], ◌∷◌, ◌++◌, length, drop}
use Rattle.std.specs.List.{flat_map}
use Rattle.std.specs.Str.{encode_utf8_all}
use Rattle.mt_tree.specs.Tables.{is_void_tag}
use Rattle.mt_tree.specs.declared.html.Html.{fold-Html}
use Rattle.mt_tree.specs.declared.html.Html.TheOpen.{Html-F, Element-F}
use Rattle.mt_syntax.specs.PageText.{escaped}
use Rattle.mt_syntax.specs.declared.program.Code.{Code}
use Rattle.mt_page_tokens.specs.Tokens.{Page, closing, doctype, opening, script}

-- whether it is a text, and its bytes
abbrev pub Token : Type 0
Token = Bool × List ℕ

-- an opening tag, a closing tag, a script whole: each ends in its own >
abbrev pub tag_token : List ℕ → Token
tag_token bytes = (false, bytes ++ 62 ∷ [])

abbrev pub element_tokens : Element-F Code (List Token) (List Token) → List Token
element_tokens e = tag_token (opening e.tag e.attributes)
    ∷ (if is_void_tag (encode_utf8_all e.tag) then [] else flat_map (λ (ts : List Token). ts) e.children ++ tag_token (closing e.tag) ∷ [])

abbrev pub html_tokens : Html-F Code (List Token) (List Token) → List Token
html_tokens (Html-F.Element tokens) = tokens
html_tokens (Html-F.Text text) = (true, escaped (encode_utf8_all text)) ∷ []
html_tokens (Html-F.Script code) = tag_token (script code) ∷ []

abbrev pub tokens : Page → List Token
tokens = fold-Html Code (List Token) (List Token) html_tokens element_tokens

-- those of a page begin with <!DOCTYPE html>, those of a fragment with its root
abbrev pub tokens_of : Bool → Page → List Token
tokens_of true root = tag_token doctype ∷ tokens root
tokens_of false root = tokens root

-- the bytes that begin with a token's bytes hold it whole; a text is whole only where a byte more is there, the `<` behind it
abbrev pub is_whole : Token → List ℕ → Bool
is_whole t bytes = if t.0 then nat_lt (length t.1) (length bytes) else not (nat_lt (length bytes) (length t.1))

-- Of bytes with which the text of these tokens begins: those behind the last whole token.
abbrev pub held_of : List Token → List ℕ → List ℕ
held_of [] bytes = bytes
held_of (t ∷ ts) bytes = if is_whole t bytes then held_of ts (drop (length t.1) bytes) else bytes
