-- What a step of the machine gives.
use Rattle.std.specs.Prelude.{◌≡◌, Bool, true, false, Option, Some, None, Result, Ok, Err}
use Rattle.std.specs.declared.alloc.AllocError.{AllocError}
use Rattle.mt_grammar.specs.Nodes.{Nodes}
use Rattle.mt_grammar.specs.Machine.{Next, at}
use Rattle.mt_parser_machine.specs.declared.focus.Focus.{Focus}
use Rattle.mt_parser_machine.specs.declared.machine.Machine.{Machine}
use Rattle.mt_parser_machine.specs.Views.{focus_of}

-- it goes on as the grammar's machine does, unless memory ran out
abbrev pub Steps : Result (Option Focus) AllocError → Next → Machine → Type 0
Steps (Err e) s m = Unit {0}
Steps (Ok None) s m = s ≡ None
Steps (Ok (Some x)) s m = s ≡ at (focus_of x) m.stack m.nodes

-- whether the tokens may end, and the nodes of the program then
abbrev pub Ends : Bool → Option Nodes → Nodes → Type 0
Ends true s out = s ≡ Some out
Ends false s out = s ≡ None
