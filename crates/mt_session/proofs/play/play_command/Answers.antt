use Rattle.std.proofs.Common.{refl}
use Rattle.mt_session.proofs.Plays.{interrupted-before}
use Rattle.mt_session.proofs.play.play_command.Goals as goal

pub returns-in-Err-WireFault-clause-interrupted : goal.returns-in-Err-WireFault-clause-interrupted
returns-in-Err-WireFault-clause-interrupted g c =
    interrupted-before c.args.small.now c.args.command.now c.args.session.now.parties.items _ _ _ _ c.in-Err-WireFault.ensures.failed refl

pub returns-clause-interrupted : goal.returns-clause-interrupted
returns-clause-interrupted g c =
    interrupted-before c.args.small.now c.args.command.now c.args.session.now.parties.items _ _ _ _ c.in-Err-NoMemory.ensures.failed refl
