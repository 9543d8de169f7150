use Rattle.std.proofs.Common.{length, take}
use Rattle.mt_http_head.proofs.Deciding.{seen_is, within_more}
use Rattle.mt_http_head.proofs.decision.parts_of.Goals as goal

pub returns-clause-parsed : goal.returns-clause-parsed
returns-clause-parsed c =
    within_more c.args.head.len (length c.args.bytes.now) (take c.args.head.headers c.args.spans.now) c.requires.section.len_fits c.requires.section.headers_fit

pub returns-clause-head : goal.returns-clause-head
returns-clause-head c = seen_is c.args.bytes.now c.args.spans.now c.args.head c.of.result.now c.of-2.result.now c.of.ensures c.of-2.ensures
