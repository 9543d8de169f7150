use Rattle.mt_http_laws.proofs.Frames.{service_found}
use Rattle.mt_http_laws.proofs.laws.paths_name_services.Goals as goal

pub returns : goal.returns
returns c = service_found
