use Rattle.mt_syntax_laws.proofs.Injection.{code}
use Rattle.mt_syntax_laws.proofs.substituted_tilde_is_code.Goals as goal

pub returns : goal.returns
returns c t values derived enough plain all_data = code t values derived enough plain all_data
