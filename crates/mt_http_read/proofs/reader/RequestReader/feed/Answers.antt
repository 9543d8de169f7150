use Rattle.std.proofs.Common.{◌++◌}
use Rattle.std.proofs.lemmas.Result.{IfOk-weaker}
use Rattle.mt_http_read.proofs.Once.{fed_by}
use Rattle.mt_http_read.proofs.reader.RequestReader.feed.Goals as goal

pub returns-clause-decided : goal.returns-clause-decided
returns-clause-decided c =
    IfOk-weaker c.feed.result _ _ (λ feed said services fed kept. fed_by services (fed ++ c.args.piece.now) feed (said services fed kept)) c.feed.ensures.decided
