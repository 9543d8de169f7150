-- The tokens of a source, one by one.
use Rattle.std.proofs.Common.{◌≡◌, ℕ, zero, suc, ◌+◌, ◌<◌, List, [], ◌∷◌, ◌++◌, length, take, get_or, map, refl, sym, ap, ◌∙◌, arith}
use Rattle.std.proofs.lemmas.List.{map-append, take_more}
use Rattle.mt_tree.specs.declared.place.Place.{Place}
use Rattle.mt_tree.specs.Place.{place_of}
use Rattle.mt_tree.specs.declared.kind.Kind.{Kind}
use Rattle.mt_lexer.specs.declared.token.Token.{Token as Lexed}
use Rattle.mt_lexer.specs.Character.{text_of}
use Rattle.mt_lexer.specs.Tokens.{Mark, marks_of, AllCut}
use Rattle.mt_grammar.specs.Token.{Token, terminal_of, terminal}
use Rattle.mt_parser_marks.specs.declared.token.Token.{Token as CodeToken}
use Rattle.mt_parser_marks.specs.Views.{token_of}
use Rattle.mt_parser_marks.specs.Tokens.{token_in, HasTerminal}

marks_of-append : (ts us : List Lexed) → marks_of (ts ++ us) ≡ marks_of ts ++ marks_of us
marks_of-append [] us = refl
marks_of-append (t ∷ ts) us = ap (λ (l : List Mark). record { kind = t.kind; span = t.span } ∷ l) (marks_of-append ts us)

cut_at : (source : List ℕ) (ts : List Lexed) (i : ℕ) (d : Lexed) → i < length ts → AllCut source ts → (get_or ts i d).text.now ≡ text_of source (get_or ts i d).span
cut_at source [] i d h a = absurd (omega arith)
cut_at source (t ∷ ts) zero d h a = a.0
cut_at source (t ∷ ts) (suc i) d h a = cut_at source ts i d (omega arith) a.1

abbrev made : Kind → List ℕ → Place → Token
made k text p = record { kind = k; text = text; place = p }

-- a token more
pub marked-more : (source : List ℕ) (list : List CodeToken) (ts : List Lexed) (i : ℕ) (d : Lexed) (t : CodeToken) → i < length ts → AllCut source ts
    → map token_of list ≡ map (token_in source) (marks_of (take i ts)) → t.kind ≡ (get_or ts i d).kind → t.mark.text.now ≡ (get_or ts i d).text.now
    → t.mark.place ≡ place_of source (get_or ts i d).span.start → map token_of (list ++ t ∷ []) ≡ map (token_in source) (marks_of (take (i + 1) ts))
marked-more source list ts i d t h cut so_far k text place =
    let u = get_or ts i d in
    let same : token_of t ≡ token_in source (record { kind = u.kind; span = u.span }) =
    ap (λ (k : Kind). made k t.mark.text.now t.mark.place) k ∙ ap (λ (text : List ℕ). made u.kind text t.mark.place) (text ∙ cut_at source ts i d h cut) ∙ ap (λ (p : Place). made u.kind (text_of source u.span) p) place in
    let marks : marks_of (take (i + 1) ts) ≡ marks_of (take i ts) ++ record { kind = u.kind; span = u.span } ∷ [] = ap marks_of (take_more ts i d h) ∙ marks_of-append (take i ts) (u ∷ []) in
    map-append token_of list (t ∷ []) ∙ ap (λ (l : List Token). l ++ token_of t ∷ []) so_far ∙ ap (λ (t : Token). map (token_in source) (marks_of (take i ts)) ++ t ∷ []) same
    ∙ sym (ap (map (token_in source)) marks ∙ map-append (token_in source) (marks_of (take i ts)) (record { kind = u.kind; span = u.span } ∷ []))

pub has_terminal : (t : CodeToken) → t.terminal ≡ terminal_of t.kind t.mark.text.now → HasTerminal t
unfolding terminal
has_terminal t h = h
