use Rattle.std.specs.Str.{IsUtf8}
use Rattle.mt_page_tokens.proofs.Loops.{text_read, text_refused}
use Rattle.mt_page_tokens.proofs.texts.text.Goals as goal

pub returns-in_ok-from_str-in-Ok : goal.returns-in_ok-from_str-in-Ok
returns-in_ok-from_str-in-Ok c =
    let utf8 : IsUtf8 c.args.bytes.now = c.in-Ok.ensures.cases.1 in
    rw (c.in_ok-from_str-in-Ok.ensures, c.in-Ok.ensures.cases.0) (text_read c.args.bytes.now utf8)

pub returns-in-Err : goal.returns-in-Err
returns-in-Err c = text_refused c.args.bytes.now c.in-Err.ensures.cases.0
