-- Small sources, and how far the machine reads them.
use Rattle.std.specs.Prelude.{ℕ, ◌+◌, ◌-◌, ◌≡◌, Bool, true, false, List, [], ◌∷◌, codes, None}
use Rattle.std.specs.Option.{is_some}
use Rattle.mt_tree.specs.declared.kind.Kind.{Kind}
use Rattle.mt_tree.specs.declared.kind.Kind.TheVariants as kind
use Rattle.mt_grammar.specs.Token.{Token, Tokens, nowhere}
use Rattle.mt_grammar.specs.Machine.{Next, feed, finish, start}

abbrev token : Kind → List ℕ → Token
token x bs = record { kind = x; text = bs; place = nowhere }

abbrev name : Token
name = token kind.Name (codes "a")

abbrev number : Token
number = token kind.Number (codes "1")

abbrev word : List ℕ → Token
word bs = token kind.Reserved bs

abbrev sign : List ℕ → Token
sign bs = token kind.Punctuator bs

abbrev opening : Token
opening = sign (codes "(")

abbrev closing : Token
closing = sign (codes ")")

abbrev opening_brace : Token
opening_brace = sign (codes "{")

abbrev closing_brace : Token
closing_brace = sign (codes "}")

abbrev semicolon : Token
semicolon = sign (codes ";")

abbrev tag_end : Token
tag_end = token kind.TagEnd (codes ">")

-- how many tokens are taken, and whether they all are and make a program
abbrev taken_from : ℕ → Tokens → Next → ℕ × Bool
taken_from i ts None = (i - 1, false)
taken_from i [] s = (i, is_some (finish s))
taken_from i (t ∷ ts) s = taken_from (i + 1) ts (feed t s)

abbrev taken : Tokens → ℕ × Bool
taken ts = taken_from 0 ts start

-- `var = 1;` and its like are refused at the first token that no program can continue
abbrev pub Refused : Type 0
Refused =
    (taken (word (codes "var") ∷ sign (codes "=") ∷ number ∷ semicolon ∷ []) ≡ (1, false))
    × (taken (name ∷ opening ∷ semicolon ∷ []) ≡ (2, false))
    × (taken (number ∷ sign (codes "=") ∷ number ∷ semicolon ∷ []) ≡ (1, false))
    × (taken (name ∷ sign (codes ".") ∷ name ∷ opening ∷ closing ∷ sign (codes "=") ∷ number ∷ semicolon ∷ []) ≡ (5, false))
    × (taken (word (codes "const") ∷ name ∷ semicolon ∷ []) ≡ (2, false))
    × (taken (word (codes "if") ∷ opening ∷ number ∷ closing ∷ []) ≡ (4, false))
    × (taken (word (codes "service") ∷ name ∷ opening ∷ closing ∷ opening_brace ∷ word (codes "return") ∷ token kind.TagOpen (codes "<p") ∷ tag_end ∷ token kind.ChildText (codes "x") ∷ token kind.CloseTag (codes "</b>") ∷ semicolon ∷ closing_brace ∷ []) ≡ (9, false))
    × (taken (sign (codes "++") ∷ name ∷ opening ∷ closing ∷ semicolon ∷ []) ≡ (4, false))
    × (taken (name ∷ sign (codes "++") ∷ sign (codes ".") ∷ name ∷ semicolon ∷ []) ≡ (2, false))
    × (taken (word (codes "if") ∷ opening ∷ number ∷ closing ∷ word (codes "let") ∷ name ∷ semicolon ∷ []) ≡ (4, false))
    × (taken (opening_brace ∷ name ∷ sign (codes ":") ∷ number ∷ closing_brace ∷ semicolon ∷ []) ≡ (2, false))
    × (taken (opening_brace ∷ word (codes "function") ∷ name ∷ opening ∷ closing ∷ opening_brace ∷ closing_brace ∷ closing_brace ∷ []) ≡ (1, false))
    × (taken (sign (codes "!") ∷ name ∷ sign (codes "=") ∷ number ∷ semicolon ∷ []) ≡ (2, false))
    × (taken (name ∷ name ∷ semicolon ∷ []) ≡ (1, false))

abbrev pub Accepted : Type 0
Accepted =
    (taken [] ≡ (0, true))
    × (taken (word (codes "if") ∷ opening ∷ number ∷ closing ∷ word (codes "if") ∷ opening ∷ number ∷ closing ∷ semicolon ∷ word (codes "else") ∷ semicolon ∷ []) ≡ (11, true))
    × (taken (name ∷ sign (codes "++") ∷ sign (codes "+") ∷ sign (codes "++") ∷ name ∷ semicolon ∷ []) ≡ (6, true))
    × (taken (opening_brace ∷ word (codes "let") ∷ name ∷ closing_brace ∷ []) ≡ (4, true))
    × (taken (opening ∷ opening_brace ∷ name ∷ sign (codes ":") ∷ number ∷ sign (codes ",") ∷ closing_brace ∷ closing ∷ semicolon ∷ []) ≡ (9, true))
    × (taken (word (codes "for") ∷ opening ∷ word (codes "var") ∷ name ∷ sign (codes "=") ∷ number ∷ sign (codes ",") ∷ name ∷ semicolon ∷ semicolon ∷ closing ∷ semicolon ∷ []) ≡ (12, true))
    × (taken (word (codes "try") ∷ opening_brace ∷ closing_brace ∷ word (codes "catch") ∷ opening ∷ name ∷ closing ∷ opening_brace ∷ closing_brace ∷ []) ≡ (9, true))
    × (taken (name ∷ sign (codes ".") ∷ word (codes "if") ∷ sign (codes "?") ∷ name ∷ sign (codes ":") ∷ name ∷ sign (codes "+=") ∷ number ∷ semicolon ∷ []) ≡ (10, true))
    × (taken (token kind.TagOpen (codes "<br") ∷ tag_end ∷ semicolon ∷ []) ≡ (3, true))
    × (taken
    (token kind.TagOpen (codes "<p") ∷ token kind.AttributeName (codes "b") ∷ token kind.AttributeName (codes "c") ∷ sign (codes "=") ∷ token kind.TildeOpen (codes "~{") ∷ name ∷ closing_brace ∷ tag_end
    ∷ token kind.DollarOpen (codes "${") ∷ number ∷ closing_brace ∷ token kind.TagOpen (codes "<br") ∷ token kind.TagEnd (codes "/>") ∷ token kind.CloseTag (codes "</p >") ∷ semicolon ∷ [])
    ≡ (15, true))
    × (taken (word (codes "function") ∷ name ∷ opening ∷ name ∷ sign (codes ",") ∷ name ∷ closing ∷ opening_brace ∷ word (codes "return") ∷ word (codes "function") ∷ opening ∷ closing ∷ opening_brace ∷ closing_brace ∷ closing_brace ∷ []) ≡ (15, true))
