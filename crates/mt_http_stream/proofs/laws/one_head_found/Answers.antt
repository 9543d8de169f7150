use Rattle.mt_http_stream.proofs.Heads.{found_once}
use Rattle.mt_http_stream.proofs.laws.one_head_found.Goals as goal

pub returns : goal.returns
returns c = found_once
