-- What the lexer, the parser and the check of the rules answer tells of the source, and a source is not both accepted and refused.
use Rattle.std.proofs.Common.{◌≡◌, List, ℕ, Result, Ok, Err, Some, None, length, sym, ap, subst, ◌∙◌}
use Rattle.mt_lexer.proofs.Readings.{only}
use Rattle.mt_lexer.specs.declared.refusal.LexRefusal.{LexRefusal}
use Rattle.mt_lexer.specs.declared.refusal.LexRefusal.TheVariants as spelling
use Rattle.mt_lexer.specs.Tokens.{Spelled}
use Rattle.mt_lexer.specs.Verdict.{IsReading, Reads}
use Rattle.mt_parser_marks.specs.Tokens.{tokens_in}
use Rattle.mt_parser.proofs.Answer.{one_answer}
use Rattle.mt_parser.proofs.Few.{same_source}
use Rattle.mt_parser.specs.declared.refusal.ParseRefusal.{ParseRefusal}
use Rattle.mt_parser.specs.declared.refusal.ParseRefusal.TheVariants as grammar
use Rattle.mt_parser.specs.Parsing.{Answers, IsAnswer}
use Rattle.mt_syntax.specs.First.{first_of}
use Rattle.mt_syntax.specs.declared.broken.Broken.{Broken}
use Rattle.mt_stage.specs.Accepted.{Refuses, broken_places}
use Rattle.mt_stage.specs.declared.refusal.StageRefusal.{StageRefusal}
use Rattle.mt_stage.specs.declared.refusal.StageRefusal.TheVariants as stage
use Rattle.mt_syntax.specs.declared.program.Program.{Program}
use Rattle.mt_tree.specs.Place.{place_of}
use Rattle.mt_source.specs.declared.refusal.SourceRefusal.{SourceRefusal}
use Rattle.mt_source.specs.declared.refusal.SourceRefusal.TheVariants.{Spelling, Grammar, Rules}
use Rattle.mt_source.specs.Sources.{IsSourceOf, IsNotAcceptedText, IsRefusedWith, IsOfText}

pub misspelled : (text : List ℕ) (refusal : LexRefusal) → IsReading text (Err refusal) → IsRefusedWith text (Spelling refusal)
misspelled text (spelling.NotUtf8 p) r = r.0
misspelled text (spelling.BadCharacter p) r = r.0
misspelled text (spelling.BadEscape p) r = r.0
misspelled text (spelling.Unclosed p) r = r.0
misspelled text (spelling.NumberTooLarge p) r = r.0
misspelled text (spelling.TooManyTokens p) r = r.0
misspelled text spelling.NoMemory r = tt

pub ungrammatical : (text : List ℕ) (s : Spelled) (refusal : ParseRefusal) → Reads text (Ok s) → Answers (tokens_in s) (place_of text (length text)) (Err refusal) → IsRefusedWith text (Grammar refusal)
ungrammatical text s (grammar.Syntax p) r a = (s, r, a)
ungrammatical text s (grammar.TooDeep p) r a = (s, r, a)
ungrammatical text s grammar.NoMemory r a = tt

pub broken : (text : List ℕ) (program : Program) (refusal : StageRefusal) → IsSourceOf text program → Refuses refusal program → IsRefusedWith text (Rules refusal)
broken text program (stage.Broken rule place) is r = (program, is, r)
broken text program stage.NoMemory is r = tt

-- the tokens of a text have its bytes
pub source_of : (text : List ℕ) (s : Spelled) (program : Program) → Reads text (Ok s) → IsSourceOf s.source program → IsSourceOf text program
source_of text s program r is = subst (λ (x : List ℕ). IsSourceOf x program) (same_source text s r) is

pub refused_of : (text : List ℕ) (s : Spelled) (refusal : SourceRefusal) → Reads text (Ok s) → IsRefusedWith s.source refusal → IsRefusedWith text refusal
refused_of text s refusal r is = subst (λ (x : List ℕ). IsRefusedWith x refusal) (same_source text s r) is

pub reads_itself : (text : List ℕ) (s : Spelled) → Reads text (Ok s) → Reads s.source (Ok s)
reads_itself text s r = subst (λ (x : List ℕ). Reads x (Ok s)) (sym (same_source text s r)) r

-- a text without a spelling spells no program
no_program : (text : List ℕ) (refusal : LexRefusal) → Reads text (Err refusal) → IsNotAcceptedText text
no_program text refusal r program (s, reads, answers) unbroken = let same : Ok s ≡ Err refusal = only text (Err refusal) (Ok s) r reads in absurd (cc)

-- tokens have one answer
one : (text : List ℕ) (s u : Spelled) (a b : Result Program ParseRefusal) → Reads text (Ok s) → Reads text (Ok u) → IsAnswer a → IsAnswer b
    → Answers (tokens_in s) (place_of text (length text)) a → Answers (tokens_in u) (place_of text (length text)) b → a ≡ b
one text s u a b r q f g h k =
    let same : Ok u ≡ Ok s = only text (Ok s) (Ok u) r q in
    let tokens : u ≡ s = cc in
    one_answer (tokens_in s) (place_of text (length text)) a b f g h (subst (λ (x : Spelled). Answers (tokens_in x) (place_of text (length text)) b) tokens k)

ungrammatical_once : (text : List ℕ) (s : Spelled) (refusal : ParseRefusal) → IsAnswer (Err refusal) → Reads text (Ok s) → Answers (tokens_in s) (place_of text (length text)) (Err refusal) → IsNotAcceptedText text
ungrammatical_once text s refusal f r a program (u, reads, answers) unbroken =
    let same : Err refusal ≡ Ok program = one text s u (Err refusal) (Ok program) r reads f tt a answers in absurd (cc)

broken_once : (text : List ℕ) (program : Program) (b : Broken) → IsSourceOf text program → first_of (broken_places program) ≡ Some b → IsNotAcceptedText text
broken_once text program b (s, r, a) first other (u, reads, answers) unbroken =
    let same : Ok program ≡ Ok other = one text s u (Ok program) (Ok other) r reads tt tt a answers in
    let programs : program ≡ other = cc in
    let none : None ≡ Some b = ap first_of (sym unbroken ∙ ap broken_places (sym programs)) ∙ first in absurd (cc)

pub never_both : (text : List ℕ) (refusal : SourceRefusal) → IsOfText refusal → IsRefusedWith text refusal → IsNotAcceptedText text
never_both text (Spelling (spelling.NotUtf8 p)) is r = no_program text _ r
never_both text (Spelling (spelling.BadCharacter p)) is r = no_program text _ r
never_both text (Spelling (spelling.BadEscape p)) is r = no_program text _ r
never_both text (Spelling (spelling.Unclosed p)) is r = no_program text _ r
never_both text (Spelling (spelling.NumberTooLarge p)) is r = no_program text _ r
never_both text (Spelling (spelling.TooManyTokens p)) is r = no_program text _ r
never_both text (Spelling spelling.NoMemory) is r = absurd is
never_both text (Grammar (grammar.Syntax p)) is (s, r, a) = ungrammatical_once text s (grammar.Syntax p) tt r a
never_both text (Grammar (grammar.TooDeep p)) is (s, r, a) = ungrammatical_once text s (grammar.TooDeep p) tt r a
never_both text (Grammar grammar.NoMemory) is r = absurd is
never_both text (Rules (stage.Broken rule place)) is (program, source, first) = broken_once text program _ source first
never_both text (Rules stage.NoMemory) is r = absurd is
