use Rattle.mt_syntax_laws.proofs.Injection.{values_of_code}
use Rattle.mt_syntax_laws.proofs.each_dollar_has_its_value.Goals as goal

pub returns : goal.returns
returns c t values derived enough = values_of_code t values derived enough
