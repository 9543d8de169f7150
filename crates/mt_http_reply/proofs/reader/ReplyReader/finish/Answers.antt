use Rattle.mt_http_reply.proofs.StreamSteps.{reader_found}
use Rattle.mt_http_reply.proofs.reader.ReplyReader.finish.Goals as goal

pub returns-clause-found : goal.returns-clause-found
returns-clause-found c = λ fed kept. rw c.from_vec.ensures (reader_found fed c.args.self.body.items c.in_ok-head.head (c.in_ok-head.ensures.found fed kept.0) kept.1)
