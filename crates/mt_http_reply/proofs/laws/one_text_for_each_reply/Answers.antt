use Rattle.mt_http_reply.proofs.Replies.{one_text}
use Rattle.mt_http_reply.proofs.laws.one_text_for_each_reply.Goals as goal

pub returns : goal.returns
returns c = one_text
