use Rattle.mt_http_types.proofs.Targets.{same_bytes}
use Rattle.mt_http_types.proofs.target.targets_are_ascii.Goals as goal

pub returns : goal.returns
returns c = same_bytes
