use Rattle.mt_small.proofs.Replies.{reads_reply_is}
use Rattle.mt_small.proofs.message_laws.replies_are_read_exactly.Goals as goal

pub returns : goal.returns
returns c = reads_reply_is
