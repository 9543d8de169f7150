use Rattle.mt_syntax_laws.proofs.Injection.{only_values_differ}
use Rattle.mt_syntax_laws.proofs.only_values_differ.Goals as goal

pub returns : goal.returns
returns c ds es body equally_many = only_values_differ ds es equally_many body
