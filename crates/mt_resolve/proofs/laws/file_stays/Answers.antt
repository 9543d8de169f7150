use Rattle.mt_resolve.proofs.FurtherStatements.{file_unit_stays}
use Rattle.mt_resolve.proofs.laws.file_stays.Goals as goal

pub returns : goal.returns
returns c around functions more table longer extends u items h = file_unit_stays around functions more table longer extends u items h
