use Rattle.mt_http_laws.proofs.Requests.{read_more, read_so}
use Rattle.mt_http_laws.proofs.laws.written_requests_are_understood.Goals as goal

pub returns-clause-read : goal.returns-clause-read
returns-clause-read c = read_so

pub returns-clause-more : goal.returns-clause-more
returns-clause-more c = read_more
