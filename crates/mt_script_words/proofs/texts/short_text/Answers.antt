use Rattle.std.proofs.lemmas.Str.{is_utf8-from_IsUtf8}
use Rattle.mt_script_words.proofs.Pieces.{text_of_none}
use Rattle.mt_script_words.proofs.texts.short_text.Goals as goal

pub returns-in_ok-from_str-in-Ok : goal.returns-in_ok-from_str-in-Ok
returns-in_ok-from_str-in-Ok c = rw (is_utf8-from_IsUtf8 c.args.bytes.now c.in-Ok.ensures.cases.1) (rw (c.in_ok-from_str-in-Ok.ensures, c.in-Ok.ensures.cases.0) at c.short.ensures)

pub returns-in-Err : goal.returns-in-Err
returns-in-Err c = text_of_none c.args.bytes.now c.in-Err.ensures.cases.0
