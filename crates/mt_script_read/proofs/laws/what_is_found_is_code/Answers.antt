use Rattle.mt_script_read.proofs.FoundStatements.{found_code_is_readable}
use Rattle.mt_script_read.proofs.laws.what_is_found_is_code.Goals as goal

pub returns : goal.returns
returns c = found_code_is_readable
