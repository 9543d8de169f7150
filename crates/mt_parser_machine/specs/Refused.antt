-- Where the machine refuses a list of tokens.
use Rattle.std.specs.Prelude.{◌≡◌, ℕ, ◌+◌, ◌<◌, ◌≤◌, ◌⊎◌, None, Some, Result, Ok, Err, length, take}
use Rattle.std.specs.Global.{Vec}
use Rattle.mt_grammar.specs.Token.{Tokens}
use Rattle.mt_grammar.specs.Tree.{Stmts}
use Rattle.mt_grammar.specs.Grammar.{IsProgram}
use Rattle.mt_grammar.specs.Continues.{BeginsProgram}
use Rattle.mt_grammar.specs.Machine.{Configuration, after, end_by, start}
use Rattle.mt_parser_marks.specs.declared.node.Node.{Node}
use Rattle.mt_parser_machine.specs.declared.refusal.ReadRefusal.{ReadRefusal}
use Rattle.mt_parser_machine.specs.declared.refusal.ReadRefusal.TheVariants.{At, NoMemory}

-- it reads the tokens in front of that number, and then refuses the next one, or the end where none is left
abbrev pub RefusedAt : Tokens → ℕ → Type 0
RefusedAt ts i =
    (c : Configuration) × (after (take i ts) start ≡ Some c)
    × ((i < length ts) × (after (take (i + 1) ts) start ≡ None) ⊎ (i ≡ length ts) × (end_by c.focus c.levels c.nodes ≡ None))

-- the tokens are no program: some program begins with those in front of that number, and none with one token more
abbrev pub IsOffending : Tokens → ℕ → Type 0
IsOffending ts i =
    ((ss : Stmts) → IsProgram ts ss → ⊥) × (i ≤ length ts) × BeginsProgram (take i ts) × (i < length ts → BeginsProgram (take (i + 1) ts) → ⊥)

-- a refusal names that number, unless memory ran out
abbrev pub Refuses : Tokens → Result (Vec Node) ReadRefusal → Type 0
Refuses ts (Ok nodes) = Unit {0}
Refuses ts (Err (At i)) = RefusedAt ts i
Refuses ts (Err NoMemory) = Unit {0}
