use Rattle.std.proofs.Common.{sym, subst}
use Rattle.mt_syntax.specs.Derivation.{IsDerived}
use Rattle.mt_parser.proofs.Whole.{parsed_is_derived}
use Rattle.mt_parser.proofs.laws.parsed_program_is_derived.Goals as goal

pub returns : goal.returns
returns c s end program reading answer = subst IsDerived (sym answer.3) (parsed_is_derived s answer.0 reading answer.1)
