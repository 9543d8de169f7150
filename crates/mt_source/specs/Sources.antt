-- Which sources are accepted, and how others are refused.
use Rattle.std.specs.Prelude.{◌≡◌, ℕ, List, [], length, Some, Ok, Err, ⊤}
use Rattle.mt_lexer.specs.declared.refusal.LexRefusal.TheVariants as spelling
use Rattle.mt_lexer.specs.Tokens.{Spelled}
use Rattle.mt_lexer.specs.Verdict.{Reads}
use Rattle.mt_parser_marks.specs.Tokens.{tokens_in}
use Rattle.mt_parser.specs.declared.refusal.ParseRefusal.TheVariants as grammar
use Rattle.mt_parser.specs.Parsing.{Answers}
use Rattle.mt_syntax.specs.First.{first_of}
use Rattle.mt_stage.specs.Accepted.{broken_places}
use Rattle.mt_stage.specs.declared.refusal.StageRefusal.TheVariants as stage
use Rattle.mt_syntax.specs.declared.program.Program.{Program}
use Rattle.mt_tree.specs.Place.{place_of}
use Rattle.mt_source.specs.declared.refusal.SourceRefusal.{SourceRefusal}
use Rattle.mt_source.specs.declared.refusal.SourceRefusal.TheVariants.{Spelling, Grammar, Rules}

-- the text spells tokens that are this program, whose tree is not too deep; where a program lacks something at the end, that is the place of the end of the text
abbrev pub IsSourceOf : List ℕ → Program → Type 0
IsSourceOf text program = (s : Spelled) × Reads text (Ok s) × Answers (tokens_in s) (place_of text (length text)) (Ok program)

-- it is a program that breaks no rule
abbrev pub IsAcceptedText : List ℕ → Type 0
IsAcceptedText text = (program : Program) × IsSourceOf text program × (broken_places program ≡ [])

abbrev pub IsNotAcceptedText : List ℕ → Type 0
IsNotAcceptedText text = (program : Program) → IsSourceOf text program → broken_places program ≡ [] → ⊥

-- the text has no spelling, its tokens are no program that is not too deep, or its program breaks a rule first at this place; want of memory says nothing of it
abbrev pub IsRefusedWith : List ℕ → SourceRefusal → Type 0
IsRefusedWith text (Spelling spelling.NoMemory) = ⊤
IsRefusedWith text (Spelling refusal) = Reads text (Err refusal)
IsRefusedWith text (Grammar grammar.NoMemory) = ⊤
IsRefusedWith text (Grammar refusal) = (s : Spelled) × Reads text (Ok s) × Answers (tokens_in s) (place_of text (length text)) (Err refusal)
IsRefusedWith text (Rules stage.NoMemory) = ⊤
IsRefusedWith text (Rules (stage.Broken rule place)) = (program : Program) × IsSourceOf text program × (first_of (broken_places program) ≡ Some (record { place = place; rule = rule }))

-- the refusal tells of the text, and not of want of memory
abbrev pub IsOfText : SourceRefusal → Type 0
IsOfText (Spelling spelling.NoMemory) = ⊥
IsOfText (Spelling refusal) = ⊤
IsOfText (Grammar grammar.NoMemory) = ⊥
IsOfText (Grammar refusal) = ⊤
IsOfText (Rules stage.NoMemory) = ⊥
IsOfText (Rules refusal) = ⊤
