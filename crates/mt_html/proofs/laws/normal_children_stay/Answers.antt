use Rattle.mt_html.proofs.NormalForm.{normal_stays}
use Rattle.mt_html.proofs.laws.normal_children_stay.Goals as goal
use Rattle.mt_tree.specs.declared.closure.Closure.{Closure}

pub returns : goal.returns
returns c = normal_stays Closure
