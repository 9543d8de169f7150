use Rattle.std.proofs.Common.{arith, subst}
use Rattle.mt_eval_meaning.specs.Runs.{Evals}
use Rattle.mt_evaluator.proofs.Counting.{spent}
use Rattle.mt_evaluator.proofs.data.spend_nodes.Goals as goal
use Rattle.mt_syntax.specs.DataLimits.{nodes_of_data}

pub returns : goal.returns
returns c =
    let same = spent c.args.state.now (nodes_of_data c.args.datum.now) c.«nodes-more».result (omega arith) c.«nodes-more».ensures in
    subst (λ ran. Evals ran c.spend.result c.spend.new.state) same c.spend.ensures
