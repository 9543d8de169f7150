use Rattle.mt_http_laws.proofs.Loads.{load_settles}
use Rattle.mt_http_laws.proofs.laws.written_loads_are_decided.Goals as goal

pub returns : goal.returns
returns c = load_settles
