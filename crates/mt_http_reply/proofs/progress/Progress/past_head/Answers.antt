use Rattle.mt_http_reply.specs.Stream.{PassesHead}
use Rattle.mt_http_reply.specs.declared.progress.Progress.TheVariants.{Body, Past, Lost}
use Rattle.mt_http_reply.proofs.Moves.{past_before, stays}
use Rattle.mt_http_reply.proofs.progress.Progress.past_head.Goals as goal

pub returns-in-Body : goal.returns-in-Body
returns-in-Body c = rw c.in-Body.is (stays (PassesHead (Body c.in-Body.head c.in-Body.missing) c.args.piece.now) (Body c.in-Body.head c.in-Body.missing) _ c.unmoved.ensures.progress c.unmoved.ensures.count (past_before (Body c.in-Body.head c.in-Body.missing) c.args.piece.now (λ rest. tt)))

pub returns-in-Past : goal.returns-in-Past
returns-in-Past c = rw c.in-Past.is (stays (PassesHead (Past c.in-Past.head) c.args.piece.now) (Past c.in-Past.head) _ c.unmoved-in-Past.ensures.progress c.unmoved-in-Past.ensures.count (past_before (Past c.in-Past.head) c.args.piece.now (λ rest. tt)))

pub returns-in-Lost : goal.returns-in-Lost
returns-in-Lost c = rw c.in-Lost.is (stays (PassesHead Lost c.args.piece.now) Lost _ c.unmoved-in-Lost.ensures.progress c.unmoved-in-Lost.ensures.count (past_before Lost c.args.piece.now (λ rest. tt)))
