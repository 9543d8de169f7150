use Rattle.mt_http_reply.proofs.Digits.{parsed, not_parsed, is_text}
use Rattle.mt_http_reply.proofs.reading.number.Goals as goal

pub returns-in-Ok-parse : goal.returns-in-Ok-parse
returns-in-Ok-parse c = λ n small is.
    let parses = rw c.in-Ok.ensures.cases.0 at c.parse.ensures.value.0 in
    parsed c.args.bytes.now c.parse.result c.in-Ok-parse.number n parses c.in-Ok-parse.is small is

pub returns-in-Err-parse : goal.returns-in-Err-parse
returns-in-Err-parse c = λ n small is.
    let parses = rw c.in-Ok.ensures.cases.0 at c.parse.ensures.value.0 in
    absurd (not_parsed c.args.bytes.now c.parse.result c.in-Err-parse._refused n parses c.in-Err-parse.is small is)

pub returns-in-Err : goal.returns-in-Err
returns-in-Err c = λ n small is. absurd (c.in-Err.ensures.cases.0 (is_text c.args.bytes.now n small is))
