use Rattle.mt_syntax_laws.proofs.Kept.{depth_kept}
use Rattle.mt_syntax_laws.proofs.substitution_keeps_depth.Goals as goal

pub returns : goal.returns
returns c values body = depth_kept values body
