-- Which programs are within the limits: what the parser gives of a source of which no name and no text is too long.
use Rattle.std.specs.Prelude.{◌≤◌}
use Rattle.mt_syntax.specs.Depth.{depth_of_program}
use Rattle.mt_syntax.specs.Derivation.{IsDerived}
use Rattle.mt_syntax.specs.Texts.{longest_text}
use Rattle.mt_syntax.specs.declared.program.Program.{Program}
use Rattle.mt_tree.specs.Limits.{depth_limit, text_limit}

pub record IsWithinLimits (p : Program) : Type 0 where
  pub derived : IsDerived p
  pub depth : depth_of_program p ≤ depth_limit
  pub texts : longest_text p ≤ text_limit
