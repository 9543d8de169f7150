use Rattle.std.proofs.Common.{◌∙◌, subst, sym}
use Rattle.httparse.specs.Grammar.{HasNoRequest}
use Rattle.mt_http_head.specs.Parsed.{IsDecided}
use Rattle.mt_http_stream.proofs.Steps.{head_ends}
use Rattle.mt_http_stream.proofs.progress.after_head.Goals as goal

pub returns-in-Complete : goal.returns-in-Complete
returns-in-Complete c = λ fed kept.
    let same = c.items.ensures ∙ c.in_ok-push.ensures.ok in
    let said = c.in_ok-decision.ensures c.args.bytes c.args.byte (subst HasNoRequest (sym kept.0) kept.1) same in
    head_ends c.args.services.now fed c.args.bytes c.items.result.now c.args.byte c.in-Complete.decision c.behind_head.result
    (subst (IsDecided c.args.services.now c.items.result.now) c.in-Complete.is said) same kept c.behind_head.ensures
