use Rattle.mt_script_read.proofs.OneText.{one_text}
use Rattle.mt_script_read.proofs.laws.one_text_for_each_code.Goals as goal

pub returns : goal.returns
returns c = one_text
