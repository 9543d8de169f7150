use Rattle.mt_script_read.proofs.Tildes.{codes_differ_in_one_place, codes_differ_in_values}
use Rattle.mt_script_read.proofs.laws.only_values_differ.Goals as goal

pub returns-clause-given : goal.returns-clause-given
returns-clause-given c = codes_differ_in_values

pub returns-clause-one_place : goal.returns-clause-one_place
returns-clause-one_place c i tilde = codes_differ_in_one_place tilde i
