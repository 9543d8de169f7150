use Rattle.mt_resolve.proofs.FurtherStatements.{client_unit_stays}
use Rattle.mt_resolve.proofs.laws.client_code_stays.Goals as goal

pub returns : goal.returns
returns c around functions more table longer extends u items h = client_unit_stays around functions more table longer extends u items h
