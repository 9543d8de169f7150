use Rattle.std.proofs.Common.{◌≡◌, IfOk, length, List, ℕ, subst}
use Rattle.mt_parser_marks.specs.Values.{next_in_value, spelled, child_text_of}
use Rattle.mt_parser_marks.proofs.Units.{child_text-units, short}
use Rattle.mt_parser_marks.proofs.literal.child_text.Goals as goal

pub returns-clause-value : goal.returns-clause-value
unfolding child_text_of
returns-clause-value c = subst (λ (cs : List ℕ). IfOk c.read.result (λ made. made ≡ spelled next_in_value cs)) c.decoded.ensures c.read.ensures

pub returns-clause-short : goal.returns-clause-short
returns-clause-short c = short c.read.result (child_text_of c.args.text.now) (length c.args.text.now) (child_text-units c.args.text.now) (returns-clause-value c)
