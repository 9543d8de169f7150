use Rattle.std.proofs.Common.{◌≤◌, sym, subst}
use Rattle.mt_syntax.specs.Depth.{depth_of_program}
use Rattle.mt_syntax_laws.proofs.Deep.{tilde_at_most}
use Rattle.mt_syntax_laws.proofs.Kept.{depth_kept}
use Rattle.mt_syntax_laws.proofs.codes_are_at_most_as_deep.Goals as goal

pub returns : goal.returns
returns c p number t values derived is = subst (λ d. d ≤ depth_of_program p) (sym (depth_kept values t.body)) (tilde_at_most p number t derived is)
