use Rattle.mt_http_stream.proofs.Steps.{body_settles_none, invalid_settles_none}
use Rattle.mt_http_stream.proofs.progress.Progress.feed.Goals as goal

pub returns-in-Invalid : goal.returns-in-Invalid
returns-in-Invalid c = λ services fed kept. invalid_settles_none services fed _ (rw c.in-Invalid.is at kept)

pub returns-in-Body : goal.returns-in-Body
returns-in-Body c = λ services fed kept. body_settles_none services fed _ _ _ (rw c.in-Body.is at kept)
