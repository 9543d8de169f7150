use Rattle.mt_http_reply.proofs.Replies.{none_behind}
use Rattle.mt_http_reply.proofs.laws.refused_for_good.Goals as goal

pub returns : goal.returns
returns c = none_behind
