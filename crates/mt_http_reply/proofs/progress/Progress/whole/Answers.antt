use Rattle.std.proofs.Common.{subst, arith}
use Rattle.mt_http_reply.specs.Stream.{IsMissing}
use Rattle.mt_http_reply.proofs.StreamSteps.{begins_is_none, lost_is_none, missing_is_none, no_head_is_none, past_is_none, whole_is_reply}
use Rattle.mt_http_reply.proofs.progress.Progress.whole.Goals as goal

pub returns-in-Head : goal.returns-in-Head
returns-in-Head c = λ fed kept. let now = rw c.in-Head.is at kept in no_head_is_none fed now.1

pub returns-then-missing-eq0 : goal.returns-then-missing-eq0
returns-then-missing-eq0 c = λ fed kept.
    let now = rw c.in-Body.is at kept in
    whole_is_reply fed c.in-Body.head (subst (λ n. IsMissing c.in-Body.head n fed) c.if-missing-eq0.true now)

pub returns-else-missing-eq0 : goal.returns-else-missing-eq0
returns-else-missing-eq0 c = λ fed kept. missing_is_none fed c.in-Body.head c.in-Body.missing (omega arith) (rw c.in-Body.is at kept)

pub returns-in-Past : goal.returns-in-Past
returns-in-Past c = λ fed kept. begins_is_none fed (past_is_none fed _ (rw c.in-Past.is at kept))

pub returns-in-Lost : goal.returns-in-Lost
returns-in-Lost c = λ fed kept. begins_is_none fed (lost_is_none fed (rw c.in-Lost.is at kept))
