use Rattle.mt_html.proofs.NormalForm.{normal_is_normal}
use Rattle.mt_html.proofs.laws.joined_children_are_normal.Goals as goal
use Rattle.mt_tree.specs.declared.closure.Closure.{Closure}

pub returns : goal.returns
returns c = normal_is_normal Closure
