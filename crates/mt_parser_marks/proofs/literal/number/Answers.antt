use Rattle.std.proofs.Common.{ℕ, List, ap, ◌∙◌, arith}
use Rattle.std.specs.Prelude.{min, pos}
use Rattle.std.proofs.lemmas.Int.{to_z_pos}
use Rattle.std.proofs.lemmas.List.{take_all}
use mir.Syntax.{w64}
use Rattle.mt_lexer.specs.Word.{number_from}
use Rattle.mt_lexer.proofs.Numbers.{number-next}
use Rattle.mt_parser_marks.specs.Values.{number_of}
use Rattle.mt_parser_marks.proofs.literal.number.Goals as goal
use Rattle.mt_tree.specs.Limits.{number_limit}

pub loop-digit-preserved : goal.loop-digit-preserved
loop-digit-preserved c = c.more-value.ensures ∙ number-next c.loop-digit.value c.args.digits.now c.loop-digit.digit-index number_limit c.loop-digit-test.true c.loop-digit.invariant

pub returns : goal.returns
unfolding number_of
returns c =
    to_z_pos w64 c.loop-digit.value (omega (arith, c.loop-digit.invariant)) ∙ ap pos c.loop-digit.invariant
    ∙ ap (λ (xs : List ℕ). pos (min (number_from 0 xs) number_limit)) (take_all c.loop-digit.digit-index c.args.digits.now c.loop-digit-test.false)
