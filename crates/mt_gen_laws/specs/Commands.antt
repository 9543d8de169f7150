-- What a step of the generated schedule asks for, as a command.
use Rattle.std.specs.Prelude.{codes, None}
use Rattle.mt_tree.specs.declared.event.EventKind.TheVariants.{Click}
use Rattle.mt_tree.specs.declared.event.NodeName.TheVariants.{Id}
use Rattle.mt_http_types.specs.declared.target.Target.{Target}
use Rattle.mt_gen.specs.Schedule.{Step, load, click, serve, deliver}
use Rattle.mt_schedule.specs.declared.command.Command.{Command}
use Rattle.mt_schedule.specs.declared.command.Command.TheVariants.{Load, Event, Serve, Deliver}

-- the one page
abbrev pub page : Target
page = record { 0 = codes "/hop/main" }

abbrev pub command_of : Step → Command
command_of (load client) = Load client page
command_of (click client) = Event client Click (Id (codes "b")) None
command_of (serve client message) = Serve client message
command_of (deliver client message) = Deliver client message
