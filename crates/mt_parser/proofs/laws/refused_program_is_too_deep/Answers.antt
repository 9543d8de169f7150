use Rattle.std.proofs.Common.{◌<◌, subst}
use Rattle.mt_syntax.specs.Depth.{depth_of_program}
use Rattle.mt_grammar.proofs.Unique.{unique}
use Rattle.mt_parser_builder.specs.Program.{program_of}
use Rattle.mt_parser.proofs.Depths.{past_limit}
use Rattle.mt_parser.proofs.laws.refused_program_is_too_deep.Goals as goal
use Rattle.mt_tree.specs.Limits.{depth_limit}

pub returns : goal.returns
returns c ts end place ss answer derived =
    subst (λ t. depth_limit < depth_of_program (program_of t)) (unique ts answer.0 ss answer.1 derived) (past_limit answer.0 depth_limit place answer.2)
