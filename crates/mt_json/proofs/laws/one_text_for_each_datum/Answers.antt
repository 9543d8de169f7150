use Rattle.mt_json.proofs.Readings.{one_text}
use Rattle.mt_json.proofs.laws.one_text_for_each_datum.Goals as goal

pub returns : goal.returns
returns c = one_text
