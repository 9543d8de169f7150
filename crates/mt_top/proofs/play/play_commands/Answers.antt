use Rattle.mt_top.proofs.Meanings.{with_targets}
use Rattle.mt_top.proofs.play.play_commands.Goals as goal

pub returns-in-Done-clause-meaning : goal.returns-in-Done-clause-meaning
returns-in-Done-clause-meaning g c = record {
  transcript_is = c.play_small.ensures.transcript c.in-Done.is;
  sends_are = c.play_small.ensures.sends c.in-Done.is;
  taken = c.play_small.ensures.taken c.in-Done.is;
  machine_is = with_targets c.args.commands.now (g.W.Wire.messages c.play_small.new.wire) _ c.requires.targets (c.play_small.ensures.machine c.in-Done.is);
}
