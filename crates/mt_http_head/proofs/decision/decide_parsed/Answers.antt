use Rattle.std.proofs.Common.{sym, ap, ◌∙◌}
use Rattle.std.proofs.lemmas.Result.{IfOk-weaker}
use Rattle.mt_http_head.specs.Parsed.{seen}
use Rattle.mt_http_head.specs.Targets.{lent, service_at}
use Rattle.mt_http_head.proofs.Deciding.{early, is_load, is_post_of, no_service}
use Rattle.mt_http_head.proofs.decision.decide_parsed.Goals as goal

pub returns-in-Some : goal.returns-in-Some
returns-in-Some c = early c.args.services.now (seen c.args.parts) c.in-Some.status (sym c.early_refusal.ensures ∙ c.in-Some.is)

pub returns-in-None : goal.returns-in-None
returns-in-None c =
    no_service c.args.services.now (seen c.args.parts) (sym c.early_refusal.ensures ∙ c.in_default.is)
    (ap (service_at c.args.services.now) (sym c.split_target-target.ensures.path) ∙ sym c.in_ok-service_at.ensures ∙ c.in-None.is)

pub returns-then-is_get : goal.returns-then-is_get
returns-then-is_get c =
    IfOk-weaker c.load.result _ _
    (λ made said.
    is_load c.args.services.now (seen c.args.parts) c.in-Some-2.service (lent c.split_target-target.result.query) made (sym c.early_refusal.ensures ∙ c.in_default.is)
    (ap (service_at c.args.services.now) (sym c.split_target-target.ensures.path) ∙ sym c.in_ok-service_at.ensures ∙ c.in-Some-2.is)
    (sym c.is_get.ensures ∙ c.if-is_get.true) c.split_target-target.ensures.query said)
    c.load.ensures

pub returns-else-is_get : goal.returns-else-is_get
returns-else-is_get c =
    is_post_of c.args.services.now (seen c.args.parts) c.in-Some-2.service (lent c.split_target-target.result.query) c.post.result (sym c.early_refusal.ensures ∙ c.in_default.is)
    (ap (service_at c.args.services.now) (sym c.split_target-target.ensures.path) ∙ sym c.in_ok-service_at.ensures ∙ c.in-Some-2.is)
    (sym c.is_get.ensures ∙ c.if-is_get.false) c.split_target-target.ensures.query c.post.ensures
