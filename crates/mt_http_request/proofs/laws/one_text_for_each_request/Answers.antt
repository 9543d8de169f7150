use Rattle.mt_http_request.proofs.Requests.{one_text}
use Rattle.mt_http_request.proofs.laws.one_text_for_each_request.Goals as goal

pub returns : goal.returns
returns c = one_text
