-- What the grammar may take the texts of tokens to spell.
use Rattle.std.proofs.Common.{◌≡◌, ℕ, Bool, true, false, ◌&&◌, not, List, [], ◌∷◌, drop, Option, refl, sym, ap, ◌∙◌, subst}
use Rattle.std.specs.Prelude.{if◌then◌else◌}
use Rattle.std.specs.Str.{bytes_eq}
use Rattle.std.proofs.lemmas.Bool.{true≢false, and_parts}
use Rattle.mt_tree.specs.declared.kind.Kind.{Kind}
use Rattle.mt_tree.specs.declared.kind.Kind.TheVariants as kind
use Rattle.mt_syntax.specs.Names.{is_attribute_name, is_name}
use Rattle.mt_syntax.specs.Shape.{is_assignment}
use Rattle.mt_tree.specs.declared.operators.Binary.{Binary}
use Rattle.mt_grammar.specs.declared.terminal.Terminal.{Terminal}
use Rattle.mt_grammar.specs.declared.terminal.Terminal.TheVariants as k
use Rattle.mt_grammar.specs.Token.{Token, Tokens, listed, open_name, signs, tag_bytes, tag_ends, terminal, terminal_of, words}
use Rattle.mt_parser_marks.specs.Values.{name_of}
use Rattle.mt_parser.proofs.Fits.{TagFits, TextFits}

-- what the lexer says of a text by its kind
abbrev pub KindFits : Kind → List ℕ → Type 0
KindFits kind.Name text = is_name (name_of text) ≡ true
KindFits kind.TagOpen text = TagFits (tag_bytes (drop 1 text))
KindFits kind.AttributeName text = is_attribute_name (name_of text) ≡ true
KindFits kind.ChildText text = TextFits text
KindFits _ text = Unit {0}

-- the next token is no text of an element
abbrev pub NoTextNext : Tokens → Type 0
NoTextNext [] = Unit {0}
NoTextNext (t ∷ ts) = t.kind ≡ kind.ChildText → ⊥

-- each text fits its kind, and no text of an element stands directly behind another
abbrev pub AllFit : Tokens → Type 0
AllFit [] = Unit {0}
AllFit (t ∷ ts) = KindFits t.kind t.text × (t.kind ≡ kind.ChildText → NoTextNext ts) × AllFit ts

-- ---- terminals that are looked up

abbrev all_rows : (Terminal → Bool) → List (List ℕ × Terminal) → Bool
all_rows p [] = true
all_rows p (row ∷ rows) = p row.1 && all_rows p rows

listed_passes : (p : Terminal → Bool) (rows : List (List ℕ × Terminal)) (fallback : Terminal) (text : List ℕ) → p fallback ≡ true → all_rows p rows ≡ true → p (listed rows fallback text) ≡ true
listed_passes p [] fallback text h g = h
listed_passes p (row ∷ rows) fallback text h g =
    let parts = and_parts (p row.1) (all_rows p rows) g in chosen (bytes_eq row.0 text) parts.0 (listed_passes p rows fallback text h parts.1)
  where
    chosen : (b : Bool) → p row.1 ≡ true → p (listed rows fallback text) ≡ true → p (if b then row.1 else listed rows fallback text) ≡ true
    chosen true here later = here
    chosen false here later = later

-- a terminal of a kind's own
abbrev of_kind : Terminal → Bool
of_kind k.Name = true
of_kind k.TagOpen = true
of_kind k.AttributeName = true
of_kind k.ChildText = true
of_kind _ = false

abbrev is_listed : Terminal → Bool
is_listed t = not (of_kind t)

-- whether the sign is one of assignment, if it is said to be
abbrev assigns : Terminal → Bool
assigns (k.Assign o) = is_assignment o
assigns _ = true

abbrev Says : Kind → Terminal → Type 0
Says kind.Reserved t = is_listed t ≡ true
Says kind.Punctuator t = is_listed t ≡ true
Says kind.TagEnd t = is_listed t ≡ true
Says kind t = Unit {0}

says : (y : Kind) (text : List ℕ) → Says y (terminal_of y text)
says kind.Reserved text = listed_passes is_listed words k.OtherWord text refl refl
says kind.Punctuator text = listed_passes is_listed signs k.Other text refl refl
says kind.TagEnd text = listed_passes is_listed tag_ends k.Other text refl refl
says _ text = tt

-- ---- tokens by their terminals

not_listed : (t u : Terminal) → t ≡ u → is_listed t ≡ true → is_listed u ≡ false → ⊥
not_listed t u e h g = true≢false (sym h ∙ ap is_listed e ∙ g)

name_by : (y : Kind) (text : List ℕ) → terminal_of y text ≡ k.Name → KindFits y text → is_name (name_of text) ≡ true
name_by kind.Name text e h = h
name_by kind.Reserved text e h = absurd (not_listed (terminal_of kind.Reserved text) k.Name e (says kind.Reserved text) refl)
name_by kind.Punctuator text e h = absurd (not_listed (terminal_of kind.Punctuator text) k.Name e (says kind.Punctuator text) refl)
name_by kind.TagEnd text e h = absurd (not_listed (terminal_of kind.TagEnd text) k.Name e (says kind.TagEnd text) refl)
name_by _ text e h = absurd cc

tag_by : (y : Kind) (text : List ℕ) → terminal_of y text ≡ k.TagOpen → KindFits y text → TagFits (tag_bytes (drop 1 text))
tag_by kind.TagOpen text e h = h
tag_by kind.Reserved text e h = absurd (not_listed (terminal_of kind.Reserved text) k.TagOpen e (says kind.Reserved text) refl)
tag_by kind.Punctuator text e h = absurd (not_listed (terminal_of kind.Punctuator text) k.TagOpen e (says kind.Punctuator text) refl)
tag_by kind.TagEnd text e h = absurd (not_listed (terminal_of kind.TagEnd text) k.TagOpen e (says kind.TagEnd text) refl)
tag_by _ text e h = absurd cc

attribute_by : (y : Kind) (text : List ℕ) → terminal_of y text ≡ k.AttributeName → KindFits y text → is_attribute_name (name_of text) ≡ true
attribute_by kind.AttributeName text e h = h
attribute_by kind.Reserved text e h = absurd (not_listed (terminal_of kind.Reserved text) k.AttributeName e (says kind.Reserved text) refl)
attribute_by kind.Punctuator text e h = absurd (not_listed (terminal_of kind.Punctuator text) k.AttributeName e (says kind.Punctuator text) refl)
attribute_by kind.TagEnd text e h = absurd (not_listed (terminal_of kind.TagEnd text) k.AttributeName e (says kind.TagEnd text) refl)
attribute_by _ text e h = absurd cc

text_kind : (y : Kind) (text : List ℕ) → terminal_of y text ≡ k.ChildText → y ≡ kind.ChildText
text_kind kind.ChildText text e = refl
text_kind kind.Reserved text e = absurd (not_listed (terminal_of kind.Reserved text) k.ChildText e (says kind.Reserved text) refl)
text_kind kind.Punctuator text e = absurd (not_listed (terminal_of kind.Punctuator text) k.ChildText e (says kind.Punctuator text) refl)
text_kind kind.TagEnd text e = absurd (not_listed (terminal_of kind.TagEnd text) k.ChildText e (says kind.TagEnd text) refl)
text_kind _ text e = absurd cc

assigns_by : (y : Kind) (text : List ℕ) → assigns (terminal_of y text) ≡ true
assigns_by kind.Reserved text = listed_passes assigns words k.OtherWord text refl refl
assigns_by kind.Punctuator text = listed_passes assigns signs k.Other text refl refl
assigns_by kind.TagEnd text = listed_passes assigns tag_ends k.Other text refl refl
assigns_by _ text = refl

pub name_fits : (t : Token) → terminal t ≡ k.Name → KindFits t.kind t.text → is_name (name_of t.text) ≡ true
unfolding terminal
name_fits t = name_by t.kind t.text

pub tag_fits : (t : Token) → terminal t ≡ k.TagOpen → KindFits t.kind t.text → TagFits (open_name t)
unfolding terminal open_name
tag_fits t = tag_by t.kind t.text

pub attribute_fits : (t : Token) → terminal t ≡ k.AttributeName → KindFits t.kind t.text → is_attribute_name (name_of t.text) ≡ true
unfolding terminal
attribute_fits t = attribute_by t.kind t.text

pub is_text_token : (t : Token) → terminal t ≡ k.ChildText → t.kind ≡ kind.ChildText
unfolding terminal
is_text_token t = text_kind t.kind t.text

pub text_fits : (t : Token) → terminal t ≡ k.ChildText → KindFits t.kind t.text → TextFits t.text
text_fits t e h = subst (λ y. KindFits y t.text) (is_text_token t e) h

pub assignment_fits : (t : Token) (o : Option Binary) → terminal t ≡ k.Assign o → is_assignment o ≡ true
unfolding terminal
assignment_fits t o e = ap assigns (sym e) ∙ assigns_by t.kind t.text
