use Rattle.std.proofs.Common.{◌≡◌, ◌<◌, ◌^◌, IfOk, subst, ◌∙◌, arith}
use Rattle.mt_start.proofs.Words.{marshal_text}
use Rattle.mt_start.proofs.startup.marshal_text.Goals as goal

pub returns : goal.returns
returns c =
    let bytes = c.as_str.ensures.value ∙ c.in_ok-text.ensures.ok in
    let small : c.args.rule < 2 ^ 64 = omega (arith, c.ranges.rule) in
    subst (λ t. IfOk c.from_str.result (λ text. text ≡ t)) (marshal_text c.as_str.result.now c.args.rule small bytes) c.from_str.ensures
