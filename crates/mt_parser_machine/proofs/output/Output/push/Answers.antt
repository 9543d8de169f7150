use Rattle.std.proofs.Common.{[], ◌∷◌, ◌++◌, ap, ◌∙◌}
use Rattle.mt_grammar.specs.Nodes.{Nodes}
use Rattle.mt_parser_marks.specs.NodeViews.{node_of}
use Rattle.mt_parser_machine.proofs.Views.{appended}
use Rattle.mt_parser_machine.proofs.output.Output.push.Goals as goal

pub returns : goal.returns
returns c = appended _ _ _ c.in_ok-push.ensures.items ∙ ap (λ (ns : Nodes). ns ++ node_of c.args.node ∷ []) c.self.view_is
