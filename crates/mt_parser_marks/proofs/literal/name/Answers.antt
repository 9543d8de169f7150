use Rattle.std.proofs.Common.{◌≡◌, IfOk, length, List, ℕ, subst}
use Rattle.mt_parser_marks.specs.Values.{name_of}
use Rattle.mt_parser_marks.proofs.Units.{name-units, short}
use Rattle.mt_parser_marks.proofs.literal.name.Goals as goal

pub returns-clause-value : goal.returns-clause-value
returns-clause-value c = subst (λ (cs : List ℕ). IfOk c.from_str.result (λ made. made ≡ cs)) c.decoded.ensures c.from_str.ensures

pub returns-clause-short : goal.returns-clause-short
returns-clause-short c = short c.from_str.result (name_of c.args.text.now) (length c.args.text.now) (name-units c.args.text.now) (returns-clause-value c)
