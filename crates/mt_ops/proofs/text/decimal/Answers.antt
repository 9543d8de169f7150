use Rattle.std.proofs.Common.{◌≡◌, IfOk, subst, ap, ◌∙◌, w64}
use Rattle.std.specs.Fmt.{signed_decimal}
use Rattle.std.proofs.lemmas.Int.{to_z-of_z}
use Rattle.mt_ops.proofs.Texts.{decimal_chars}
use Rattle.mt_ops.proofs.text.decimal.Goals as goal

pub returns : goal.returns
returns c =
    let digits = c.as_str.ensures.value ∙ c.in_ok-digits.ensures.ok ∙ ap signed_decimal (to_z-of_z w64 c.args.n c.ranges.n) in
    subst (λ text. IfOk c.from_str.result (λ made. made ≡ text)) (decimal_chars c.as_str.result.now c.args.n c.ranges.n.sfits digits) c.from_str.ensures
