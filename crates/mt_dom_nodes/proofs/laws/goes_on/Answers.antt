use Rattle.mt_dom_nodes.proofs.Standing.{chain-Stands}
use Rattle.mt_dom_nodes.proofs.laws.goes_on.Goals as goal

pub returns : goal.returns
returns c = chain-Stands
