use Rattle.std.proofs.Common.{IfOk, subst}
use Rattle.mt_start.proofs.Starts.{of_program}
use Rattle.mt_start.specs.Starts.{EndsLike, ending_of, start_of}
use Rattle.mt_syntax.specs.declared.program.Program.{Program}
use Rattle.mt_start.proofs.startup.start.Goals as goal

pub returns-in-Ok : goal.returns-in-Ok
returns-in-Ok c =
    let found = c.in-Ok.ensures.accepted in
    let ended = subst (λ (p : Program). IfOk c.start_program.result (λ e. EndsLike (ending_of (start_of p)) e)) c.program.ensures.same c.start_program.ensures in
    of_program c.args.text.now c.in-Ok.checked found.0 found.1 c.start_program.result ended
