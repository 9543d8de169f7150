-- What the parser answers.
use Rattle.std.specs.Prelude.{◌≡◌, ℕ, None, Some, Result, Ok, Err, [], ◌∷◌, drop}
use Rattle.mt_tree.specs.declared.place.Place.{Place}
use Rattle.mt_grammar.specs.Token.{Tokens}
use Rattle.mt_grammar.specs.Tree.{Stmts}
use Rattle.mt_grammar.specs.Grammar.{IsProgram}
use Rattle.mt_grammar.specs.Depth.{too_deep_at}
use Rattle.mt_parser_machine.specs.Refused.{IsOffending}
use Rattle.mt_syntax.specs.declared.program.Program.{Program}
use Rattle.mt_parser_builder.specs.Program.{program_of}
use Rattle.mt_parser.specs.declared.refusal.ParseRefusal.{ParseRefusal}
use Rattle.mt_parser.specs.declared.refusal.ParseRefusal.TheVariants.{Syntax, TooDeep, NoMemory}
use Rattle.mt_tree.specs.Limits.{depth_limit}

-- where the first of the tokens stands, or else the end of the source
abbrev pub place_or : Place → Tokens → Place
place_or end [] = end
place_or end (t ∷ ts) = t.place

-- The tokens are derived, and their tree is not too deep: its program. They are derived, but the tree is too deep: the place of the first node that is.
-- They are not derived: the place of the first token that no program goes on with, or of the end.
abbrev pub Answers : Tokens → Place → Result Program ParseRefusal → Type 0
Answers ts end (Ok program) = (ss : Stmts) × IsProgram ts ss × (too_deep_at depth_limit ss ≡ None) × (program ≡ program_of ss)
Answers ts end (Err (TooDeep place)) = (ss : Stmts) × IsProgram ts ss × (too_deep_at depth_limit ss ≡ Some place)
Answers ts end (Err (Syntax place)) = (i : ℕ) × IsOffending ts i × (place ≡ place_or end (drop i ts))
Answers ts end (Err NoMemory) = Unit {0}

-- the answer says something of the tokens
abbrev pub IsAnswer : Result Program ParseRefusal → Type 0
IsAnswer (Ok program) = Unit {0}
IsAnswer (Err (Syntax place)) = Unit {0}
IsAnswer (Err (TooDeep place)) = Unit {0}
IsAnswer (Err NoMemory) = ⊥
