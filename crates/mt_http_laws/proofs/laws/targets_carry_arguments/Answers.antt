use Rattle.mt_http_laws.proofs.Frames.{frame_asks}
use Rattle.mt_http_laws.proofs.laws.targets_carry_arguments.Goals as goal

pub returns : goal.returns
returns c = frame_asks
