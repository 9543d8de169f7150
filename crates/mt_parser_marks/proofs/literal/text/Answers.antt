use Rattle.std.proofs.Common.{◌≡◌, ap, IfOk, length, List, ℕ, subst, ◌∙◌}
use Rattle.mt_parser_marks.specs.Values.{inside, next_in_text, spelled, text_of}
use Rattle.mt_parser_marks.proofs.Units.{text-units, short}
use Rattle.mt_parser_marks.proofs.literal.text.Goals as goal

pub returns-clause-value : goal.returns-clause-value
unfolding text_of
returns-clause-value c = subst (λ (cs : List ℕ). IfOk c.read.result (λ made. made ≡ spelled next_in_text cs)) (c.inside.ensures ∙ ap inside c.decoded.ensures) c.read.ensures

pub returns-clause-short : goal.returns-clause-short
returns-clause-short c = short c.read.result (text_of c.args.text.now) (length c.args.text.now) (text-units c.args.text.now) (returns-clause-value c)
