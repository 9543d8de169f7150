use Rattle.mt_http_reply.proofs.StreamSteps.{past_is_none, lost_is_none}
use Rattle.mt_http_reply.proofs.progress.Progress.feed.Goals as goal

pub returns-in-Past : goal.returns-in-Past
returns-in-Past c = λ e fed kept. past_is_none fed _ (rw c.in-Past.is at kept)

pub returns-in-Lost : goal.returns-in-Lost
returns-in-Lost c = λ e fed kept. lost_is_none fed (rw c.in-Lost.is at kept)
