use Rattle.std.proofs.Common.{◌≡◌, [], ◌∷◌, ◌++◌, ap, get_or, map, List, ℕ, refl, subst, sym, ◌∙◌}
use Rattle.std.specs.List.{All}
use Rattle.std.proofs.lemmas.List.{take_all}
use Rattle.std.proofs.lemmas.List.Elements.{All-push}
use Rattle.mt_tree.specs.declared.kind.Kind.TheVariants as k
use Rattle.mt_lexer.specs.declared.token.Token.{Token as Lexed}
use Rattle.mt_lexer.specs.Tokens.{marks_of, AllCut}
use Rattle.mt_grammar.specs.Token.{Tokens}
use Rattle.mt_parser_marks.specs.declared.token.Token.{Token}
use Rattle.mt_parser_marks.specs.Views.{token_of, tokens_of}
use Rattle.mt_parser_marks.specs.Tokens.{token_in, tokens_in, HasTerminal}
use Rattle.mt_parser_marks.specs.Readable.{IsReadable}
use Rattle.mt_parser_marks.proofs.Readings.{readable}
use Rattle.mt_parser_marks.proofs.Marked.{marked-more, has_terminal}
use Rattle.mt_parser_marks.proofs.tokens.tokens_of.Goals as goal

-- what an index past the end reads
abbrev past : Lexed
past = record { kind = k.Name; text = record { ref_ptr = (0, 0); now = [] }; span = record { start = 0; end = 0 } }

pub loop-token-preserved : goal.loop-token-preserved
loop-token-preserved c =
    let ts = c.list-token-items.result.now in let i = c.loop-token.token-index in let list = c.loop-token.list.items in let u = get_or ts i past in
    let t : Token = record { kind = u.kind; terminal = c.terminal_of.result; mark = record { place = c.moved-cursor.result.place; text = u.text } } in
    let h : c.push.new.self.items ≡ list ++ t ∷ [] = c.in_ok-push.ensures.items in
    let cut = subst (λ (source : List ℕ). AllCut source ts) (sym c.source-source.ensures) c.list-token-items.ensures.texts in
    record {
      within = c.moved-cursor.ensures.within;
      stands = c.moved-cursor.ensures.stands;
      tokens = ap (map token_of) h ∙ marked-more c.source-source.result.now list ts i past t c.loop-token-test.true cut c.loop-token.invariant.tokens refl refl c.moved-cursor.ensures.there;
      terminals = subst (λ (l : List Token). All HasTerminal l) (sym h) (All-push HasTerminal list t c.loop-token.invariant.terminals (has_terminal t c.terminal_of.ensures));
    }

pub returns-clause-tokens : goal.returns-clause-tokens
unfolding tokens_of tokens_in
returns-clause-tokens c =
    let ts = c.list-token-items.result.now in let source = c.source-source.result.now in
    c.loop-token.invariant.tokens ∙ ap (map (token_in source)) (ap marks_of (take_all c.loop-token.token-index ts c.loop-token-test.false) ∙ c.list-token-items.ensures.marks)
    ∙ ap (λ (source : List ℕ). map (token_in source) c.args.tokens.now.marks) c.source-source.ensures

pub returns-clause-readable : goal.returns-clause-readable
returns-clause-readable c source d = subst (λ (ts : Tokens). All IsReadable ts) (sym (returns-clause-tokens c)) (readable source c.args.tokens.now d)
