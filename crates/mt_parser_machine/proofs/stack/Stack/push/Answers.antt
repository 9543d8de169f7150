use Rattle.std.proofs.Common.{◌∷◌, List, ap, ◌∙◌}
use Rattle.mt_grammar.specs.Stack.{Level}
use Rattle.mt_parser_machine.specs.Counts.{counted}
use Rattle.mt_parser_machine.specs.Views.{level_of}
use Rattle.mt_parser_machine.proofs.Views.{pushed}
use Rattle.mt_parser_machine.proofs.stack.Stack.push.Goals as goal

pub returns-clause-top : goal.returns-clause-top
returns-clause-top c = pushed _ _ _ c.in_ok-push.ensures.items ∙ ap (λ (fs : List Level). level_of c.args.level ∷ fs) c.self.view_is

pub returns-clause-counts : goal.returns-clause-counts
returns-clause-counts c = ap counted (pushed _ _ _ c.in_ok-push.ensures.items ∙ ap (λ (fs : List Level). level_of c.args.level ∷ fs) c.self.view_is)
