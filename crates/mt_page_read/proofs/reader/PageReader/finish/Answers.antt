use Rattle.mt_page_read.proofs.Finish.{finish_found, finish_only, nothing_finished}
use Rattle.mt_page_read.proofs.reader.PageReader.finish.Goals as goal

pub returns-in-Some-clause-found : goal.returns-in-Some-clause-found
returns-in-Some-clause-found c = finish_found c.finish.result c.args.self c.in-Some.machine c.in-Some.is c.finish.ensures.found

pub returns-in-Some-clause-refused : goal.returns-in-Some-clause-refused
returns-in-Some-clause-refused c = finish_only c.finish.result c.args.self c.in-Some.machine c.in-Some.is c.finish.ensures.found

pub returns-in-None-clause-refused : goal.returns-in-None-clause-refused
returns-in-None-clause-refused c e whole fed page h p t = nothing_finished whole fed page c.args.self c.in-None.is h p t
