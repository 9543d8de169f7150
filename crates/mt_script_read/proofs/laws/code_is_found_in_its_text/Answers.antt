use Rattle.mt_script_read.proofs.Read.{readable_code_is_found}
use Rattle.mt_script_read.proofs.laws.code_is_found_in_its_text.Goals as goal

pub returns : goal.returns
returns c = readable_code_is_found
