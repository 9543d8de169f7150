use Rattle.mt_http_stream.proofs.Steps.{none_yet}
use Rattle.mt_http_stream.proofs.progress.head_status.Goals as goal

pub returns-else-ends_in_empty_line : goal.returns-else-ends_in_empty_line
returns-else-ends_in_empty_line c = λ before byte none is.
    none_yet c.args.services.now c.args.bytes.now before byte (c.ends_in_empty_line.ensures c.if-ends_in_empty_line.false) none is
