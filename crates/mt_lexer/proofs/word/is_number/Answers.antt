use Rattle.std.proofs.Common.{◌∙◌}
use Rattle.mt_lexer.proofs.Numbers.{number-next}
use Rattle.mt_lexer.proofs.word.is_number.Goals as goal

pub loop-digit-preserved : goal.loop-digit-preserved
loop-digit-preserved c = c.more-value.ensures.value ∙ number-next c.loop-digit.value c.args.digits.now c.loop-digit.digit-index 9007199254740992 c.loop-digit-test.true c.loop-digit.invariant
