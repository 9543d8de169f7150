use Rattle.mt_script_read.proofs.Function.{code_of_text, text_of_code}
use Rattle.mt_script_read.proofs.laws.code_is_found_in_just_its_text.Goals as goal

pub returns-clause-found : goal.returns-clause-found
returns-clause-found c = code_of_text

pub returns-clause-alone : goal.returns-clause-alone
returns-clause-alone c = text_of_code
