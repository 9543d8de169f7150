use Rattle.mt_syntax.specs.DataText.{arguments_text}
use Rattle.mt_http_laws.proofs.Posts.{call_settles}
use Rattle.mt_http_laws.proofs.laws.written_calls_are_decided.Goals as goal

pub returns : goal.returns
returns c = λ services service arguments small. call_settles services service (arguments_text arguments) small
