use Rattle.std.proofs.lemmas.Result.{IfOk-weaker}
use Rattle.mt_http_stream.proofs.Steps.{blank_is_head}
use Rattle.mt_http_stream.proofs.progress.after_blank.Goals as goal

pub returns-else-ends_line : goal.returns-else-ends_line
returns-else-ends_line c =
    IfOk-weaker c.after_head.result _ _ (λ next said fed kept. said fed (blank_is_head c.args.services.now fed c.args.bytes kept)) c.after_head.ensures
