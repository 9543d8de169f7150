use Rattle.std.proofs.Common.{length, arith}
use Rattle.mt_http_head.proofs.Deciding.{invalid}
use Rattle.mt_http_head.proofs.decision.decide_head.Goals as goal

pub returns : goal.returns
returns c =
    invalid c.args.bytes.now (length c.deref_mut.result.now) c.parse_request.result c.in-Err._refused c.in-Err.is
    (grind (arith, c.deref_mut.ensures.value, c.deref_mut.ensures.len, c.in_ok-spans.ensures)) c.parse_request.ensures.invalid c.parse_request.ensures.too_many
