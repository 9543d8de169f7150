use Rattle.mt_http_laws.proofs.Requests.{frame_calls}
use Rattle.mt_http_laws.proofs.laws.frames_call_services.Goals as goal

pub returns : goal.returns
returns c = frame_calls
