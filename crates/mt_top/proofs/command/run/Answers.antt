use Rattle.mt_top.proofs.Exclusion.{ends_as_expected}
use Rattle.mt_top.proofs.command.run.Goals as goal

pub returns-clause-exact : goal.returns-clause-exact
returns-clause-exact g c = λ expected is. ends_as_expected
    (record { contents = g.F.Files.contents c.args.files.now; faults = g.F.Files.faults c.args.files.now; faults_after = g.F.Files.faults c.carry_out.new.files })
    (record { held = g.O.Sink.held c.args.out.now; held_after = g.O.Sink.held c.carry_out.new.out; faults = g.O.Sink.faults c.args.out.now; faults_after = g.O.Sink.faults c.carry_out.new.out })
    (record { messages = g.W.Wire.messages c.carry_out.new.wire; faults = g.W.Wire.faults c.args.wire.now; faults_after = g.W.Wire.faults c.carry_out.new.wire })
    _ expected _ is c.carry_out.ensures.meaning
