use Rattle.mt_script_words.proofs.ValueTexts.{datum_found, datum_refused}
use Rattle.mt_script_words.proofs.values.datum.Goals as goal

pub returns-in-Ok : goal.returns-in-Ok
returns-in-Ok c = datum_found c.args.bytes.now c.in-Ok.datum c.in-Ok.ensures.found.0 c.in-Ok.ensures.found.1

pub returns-in-Err-NotData : goal.returns-in-Err-NotData
returns-in-Err-NotData c =
    let read = c.in-Err-NotData.is in
    let field = c.in-Err-NotData.field-0-is in
    datum_refused c.args.bytes.now (c.in-Err-NotData.ensures.refused cc)
