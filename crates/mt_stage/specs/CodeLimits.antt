-- Which client code is within the limits: what a reader of code accepts.
use Rattle.std.specs.Prelude.{◌≡◌, ◌≤◌, ℕ, List, []}
use Rattle.mt_syntax.specs.Codes.{IsCode}
use Rattle.mt_syntax.specs.DataLimits.{AreWithinLimits}
use Rattle.mt_syntax.specs.Depth.{depth_of}
use Rattle.mt_syntax.specs.Numbering.{values_of}
use Rattle.mt_syntax.specs.declared.tree.Stmt.{Stmt}
use Rattle.mt_stage_placement.specs.Placement.{misplaced_jumps}
use Rattle.mt_stage_declared.specs.Twice.{twice_in_client}
use Rattle.mt_syntax.specs.Texts.{longest_in}
use Rattle.mt_tree.specs.Limits.{depth_limit, text_limit}

pub record IsCodeWithinLimits (body : List Stmt) : Type 0 where
  pub code : IsCode body
  pub depth : depth_of body ≤ depth_limit
  pub texts : longest_in body ≤ text_limit
  pub values : AreWithinLimits (values_of body)
  pub jumps : misplaced_jumps body ≡ []
  pub names : twice_in_client body ≡ []
