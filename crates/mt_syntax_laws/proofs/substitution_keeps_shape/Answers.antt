use Rattle.mt_syntax_laws.proofs.Kept.{shape_kept}
use Rattle.mt_syntax_laws.proofs.substitution_keeps_shape.Goals as goal

pub returns : goal.returns
returns c values body = shape_kept values body
