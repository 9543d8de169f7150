use Rattle.std.proofs.Common.{◌∙◌}
use Rattle.mt_parser.specs.Levels.{levels_of}
use Rattle.mt_parser.proofs.Runs.{first_popped, later_popped}
use Rattle.mt_parser.proofs.levels.Levels.next.Goals as goal

pub returns-in_ok-add-in-Some-clause-first : goal.returns-in_ok-add-in-Some-clause-first
returns-in_ok-add-in-Some-clause-first c = first_popped c.args.self.now.top c.in-Some.run' (levels_of c.args.self.now.runs.items) (levels_of c.pop.new.self.runs.items) (rw c.in-Some.is at c.pop.ensures.popped)

pub returns-in_ok-add-in-Some-clause-later : goal.returns-in_ok-add-in-Some-clause-later
returns-in_ok-add-in-Some-clause-later c =
    c.in_ok-add-in-Some.ensures.added ∙ later_popped c.in-Some.run' (levels_of c.args.self.now.runs.items) (levels_of c.pop.new.self.runs.items) (rw c.in-Some.is at c.pop.ensures.popped)
