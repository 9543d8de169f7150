-- The lines that a run writes where it has no other output.
use Rattle.std.specs.Prelude.{◌++◌, ℕ, List, [], codes, decimal}
use Rattle.mt_syntax.specs.DataText.{json_text}
use Rattle.mt_tree.specs.declared.place.Place.{Place}
use Rattle.mt_lexer.specs.declared.refusal.LexRefusal.{LexRefusal}
use Rattle.mt_lexer.specs.declared.refusal.LexRefusal.TheVariants.{NotUtf8, BadCharacter, BadEscape, Unclosed, NumberTooLarge, TooManyTokens, NoMemory}
use Rattle.mt_parser.specs.declared.refusal.ParseRefusal.{ParseRefusal}
use Rattle.mt_parser.specs.declared.refusal.ParseRefusal.TheVariants as grammar
use Rattle.mt_syntax.specs.First.{number_of}
use Rattle.mt_stage.specs.declared.refusal.StageRefusal.{StageRefusal}
use Rattle.mt_stage.specs.declared.refusal.StageRefusal.TheVariants as stage
use Rattle.mt_source.specs.declared.refusal.SourceRefusal.{SourceRefusal}
use Rattle.mt_source.specs.declared.refusal.SourceRefusal.TheVariants.{Spelling, Grammar, Rules}

unfoldable pub usage_text : List ℕ
usage_text =
    codes "usage: hopjs check APP\n       hopjs start APP\n       hopjs page APP TARGET\n"
    ++ codes "       hopjs replay APP SCHEDULE [--loopback]\n       hopjs serve APP PORT COUNT\n       hopjs load N\n"

-- the application is accepted
unfoldable pub accepted_line : List ℕ
accepted_line = codes "accepted\n"

-- the application reached the end of its start
unfoldable pub started_line : List ℕ
started_line = codes "started\n"

-- it did not, with this text
abbrev pub failed_line : List ℕ → List ℕ
failed_line text = codes "start failed: " ++ json_text text ++ codes "\n"

-- the application uses what is not built
unfoldable pub not_built_line : List ℕ
not_built_line = codes "refused NotBuilt at 1:1\n"

unfoldable pub file_fault_line : List ℕ
file_fault_line = codes "file fault\n"

unfoldable pub too_long_line : List ℕ
too_long_line = codes "file too long\n"

-- the first line that is no command, counted from 1
abbrev pub bad_line : ℕ → List ℕ
bad_line number = codes "bad schedule line " ++ decimal number ++ codes "\n"

abbrev pub refused_at : List ℕ → Place → List ℕ
refused_at rule place = (codes "refused " ++ rule ++ codes " at ") ++ (decimal place.line ++ codes ":" ++ decimal place.column) ++ codes "\n"

-- why a text has no spelling, and where
abbrev pub spelling_line : LexRefusal → List ℕ
spelling_line (NotUtf8 place) = refused_at (codes "NotUtf8") place
spelling_line (BadCharacter place) = refused_at (codes "BadCharacter") place
spelling_line (BadEscape place) = refused_at (codes "BadEscape") place
spelling_line (Unclosed place) = refused_at (codes "Unclosed") place
spelling_line (NumberTooLarge place) = refused_at (codes "NumberTooLarge") place
spelling_line (TooManyTokens place) = refused_at (codes "TooManyTokens") place
spelling_line NoMemory = []

-- why its tokens are no program that is not too deep, and where
abbrev pub grammar_line : ParseRefusal → List ℕ
grammar_line (grammar.Syntax place) = refused_at (codes "Syntax") place
grammar_line (grammar.TooDeep place) = refused_at (codes "TooDeep") place
grammar_line grammar.NoMemory = []

-- which rule its program breaks first, and where
abbrev pub rules_line : StageRefusal → List ℕ
rules_line (stage.Broken rule place) = refused_at (codes "S" ++ decimal (number_of rule)) place
rules_line stage.NoMemory = []

-- why a source is not accepted
abbrev pub source_line : SourceRefusal → List ℕ
source_line (Spelling refusal) = spelling_line refusal
source_line (Grammar refusal) = grammar_line refusal
source_line (Rules refusal) = rules_line refusal
