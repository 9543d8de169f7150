use Rattle.mt_lines.proofs.Numbers.{parsed-found, parsed-none, decimal-utf8}
use Rattle.mt_lines.proofs.number.parse_digits.Goals as goal

pub returns-in-Ok-parse-clause-found : goal.returns-in-Ok-parse-clause-found
returns-in-Ok-parse-clause-found c =
    let parses = rw c.in-Ok.ensures.cases.0 at c.parse.ensures.value.0 in
    parsed-found c.args.digits.now c.parse.result c.in-Ok-parse.number parses c.in-Ok-parse.is c.requires.first.0

pub returns-in-Err-parse-clause-none : goal.returns-in-Err-parse-clause-none
returns-in-Err-parse-clause-none c =
    let parses = rw c.in-Ok.ensures.cases.0 at c.parse.ensures.value.0 in
    parsed-none c.args.digits.now c.parse.result c.in-Err-parse._refused parses c.in-Err-parse.is

pub returns-in-Err-clause-none : goal.returns-in-Err-clause-none
returns-in-Err-clause-none c = λ number small is. c.in-Err.ensures.cases.0 (decimal-utf8 c.args.digits.now number small is)
