-- A schedule asks for targets alone.
use Rattle.std.proofs.Common.{ℕ, List, [], ◌∷◌, sym, subst, inl, inr}
use Rattle.std.specs.List.{AllByRecursion}
use Rattle.mt_small.specs.declared.command.SmallCommand.{SmallCommand}
use Rattle.mt_small.specs.declared.command.SmallCommand.TheVariants.{Load, Serve, Deliver}
use Rattle.mt_small.specs.Readable.{AsksForTarget}
use Rattle.mt_small.specs.Schedule.{SpellsCommand, SpellsCommands, SpellsSchedule, lines_of, contents}

command_asks : (line : List ℕ) (command : SmallCommand) → SpellsCommand line command → AsksForTarget command
command_asks line (Load k target) spelled = spelled.4
command_asks line (Serve k m) spelled = tt
command_asks line (Deliver k m) spelled = tt

commands_ask : (lines : List (List ℕ)) (commands : List SmallCommand) → SpellsCommands lines commands → AllByRecursion AsksForTarget commands
commands_ask [] commands none = subst (AllByRecursion AsksForTarget) (sym none) tt
commands_ask (line ∷ lines) commands (inl skipped) = commands_ask lines commands skipped.1
commands_ask (line ∷ lines) commands (inr spelled) =
    subst (AllByRecursion AsksForTarget) (sym spelled.2) (command_asks line spelled.0 spelled.3, commands_ask lines spelled.1 spelled.4)

pub schedule_asks : (text : List ℕ) (commands : List SmallCommand) → SpellsSchedule text commands → AllByRecursion AsksForTarget commands
schedule_asks text commands spelled = commands_ask (contents (lines_of text)) commands spelled.1
