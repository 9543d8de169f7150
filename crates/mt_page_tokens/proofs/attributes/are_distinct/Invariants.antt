use Rattle.std.proofs.Common.{◌≡◌, drop}
use Rattle.mt_page_tokens.specs.Limits.{are_distinct}
use Rattle.mt_page_tokens.proofs.attributes.are_distinct.Given as goal

abbrev pub invariant-loop-i : goal.invariant-loop-i
invariant-loop-i l = are_distinct (drop l.i l.attributes) ≡ are_distinct l.attributes
