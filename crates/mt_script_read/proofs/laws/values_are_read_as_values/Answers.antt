use Rattle.mt_script_read.proofs.Tildes.{tilde_alone_is_read, tilde_is_read, values_of_tilde}
use Rattle.mt_script_read.proofs.laws.values_are_read_as_values.Goals as goal

pub returns-clause-read : goal.returns-clause-read
returns-clause-read c = tilde_is_read

pub returns-clause-alone : goal.returns-clause-alone
returns-clause-alone c = tilde_alone_is_read

pub returns-clause-values : goal.returns-clause-values
returns-clause-values c = values_of_tilde
