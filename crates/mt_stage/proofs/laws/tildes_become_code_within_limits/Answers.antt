use Rattle.mt_stage.proofs.Limits.{within_limits}
use Rattle.mt_stage.proofs.laws.tildes_become_code_within_limits.Goals as goal

pub returns : goal.returns
returns c p number t values accepted is enough limits = within_limits p number t values accepted is enough limits
