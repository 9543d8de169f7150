use Rattle.mt_json.proofs.Arguments.{one_list_text}
use Rattle.mt_json.proofs.laws.one_text_for_each_list.Goals as goal

pub returns : goal.returns
returns c = one_list_text
