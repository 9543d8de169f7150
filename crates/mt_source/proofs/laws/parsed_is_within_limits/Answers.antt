use Rattle.std.proofs.Math.Nat.{le_trans}
use Rattle.mt_parser_marks.specs.Tokens.{tokens_in}
use Rattle.mt_source.proofs.laws.parsed_is_within_limits.Goals as goal

pub returns : goal.returns
returns c s end program small reads answers = record {
  derived = c.parsed_program_is_derived.ensures s end program reads answers;
  depth = c.parsed_program_is_not_too_deep.ensures (tokens_in s) end program answers;
  texts = le_trans (c.texts_are_no_longer_than_source.ensures s end program answers) small;
}
