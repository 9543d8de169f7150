use Rattle.std.proofs.Common.{arith}
use Rattle.mt_http_stream.proofs.Steps.{body_whole}
use Rattle.mt_http_stream.proofs.progress.within_body.Goals as goal

pub returns-else-items-size : goal.returns-else-items-size
returns-else-items-size c = λ services fed head is fits made short.
    body_whole services fed c.args.service c.args.body c.args.size head is fits made (grind (arith, c.items.ensures, c.if-items-size.false)) short
