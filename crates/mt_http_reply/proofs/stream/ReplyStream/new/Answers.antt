use Rattle.mt_http_reply.proofs.StreamSteps.{no_head_at_first}
use Rattle.mt_http_reply.proofs.stream.ReplyStream.new.Goals as goal

pub returns : goal.returns
returns c = (c.new.ensures, no_head_at_first)
