use Rattle.std.proofs.Common.{Some, None, sym, subst, ◌∙◌}
use Rattle.std.proofs.lemmas.Result.{IfOk-weaker}
use Rattle.mt_http_stream.specs.Settling.{Settles}
use Rattle.mt_http_read.proofs.Once.{read_by}
use Rattle.mt_http_read.proofs.reader.RequestReader.finish.Goals as goal

pub returns-in-Some : goal.returns-in-Some
returns-in-Some c =
    IfOk-weaker c.asked.result _ _
    (λ asked said services fed kept. said ∙ sym (read_by services fed (Some c.in-Some.settled) (subst (Settles services fed) c.in-Some.is (c.finish.ensures services fed kept))))
    c.asked.ensures

pub returns-in-None : goal.returns-in-None
returns-in-None c = λ services fed kept. sym (read_by services fed None (subst (Settles services fed) c.in-None.is (c.finish.ensures services fed kept)))
