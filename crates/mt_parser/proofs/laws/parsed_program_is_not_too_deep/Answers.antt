use Rattle.std.proofs.Common.{◌≤◌, sym, subst}
use Rattle.mt_syntax.specs.Depth.{depth_of_program}
use Rattle.mt_parser.proofs.Depths.{within_limit}
use Rattle.mt_parser.proofs.laws.parsed_program_is_not_too_deep.Goals as goal
use Rattle.mt_tree.specs.Limits.{depth_limit}

pub returns : goal.returns
returns c ts end program answer = subst (λ p. depth_of_program p ≤ depth_limit) (sym answer.3) (within_limit answer.0 depth_limit answer.2)
