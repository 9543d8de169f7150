use Rattle.std.proofs.Common.{◌∙◌}
use Rattle.mt_parser.proofs.AnswerPlaces.{placed, past}
use Rattle.mt_parser.proofs.parsing.place_at.Goals as goal

pub returns-then-number-tokens : goal.returns-then-number-tokens
returns-then-number-tokens c = placed c.args.tokens.now c.args.number _ _ c.if-number-tokens.true

pub returns-else-number-tokens : goal.returns-else-number-tokens
returns-else-number-tokens c = c.end_place.ensures ∙ past c.args.tokens.now c.args.number _ c.if-number-tokens.false
