use Rattle.mt_parser_marks.proofs.Decoding.{decoded_some, decoded_none}
use Rattle.mt_parser_marks.proofs.literal.decoded.Goals as goal

pub returns-in-Ok : goal.returns-in-Ok
returns-in-Ok c = decoded_some c.args.text.now c.in-Ok.decoded.now c.in-Ok.ensures.cases.0 c.in-Ok.ensures.cases.1

pub returns-in-Err : goal.returns-in-Err
returns-in-Err c = decoded_none c.args.text.now c.in-Err.ensures.cases.0
