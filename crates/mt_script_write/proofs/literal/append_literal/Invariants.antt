use Rattle.std.proofs.Common.{◌≡◌, ◌++◌, ◌∷◌, []}
use Rattle.std.specs.List.{flat_map}
use Rattle.mt_syntax.specs.CodeText.{code_escaped}
use Rattle.mt_script_write.proofs.literal.append_literal.Given as goal

abbrev pub invariant-loop-c : goal.invariant-loop-c
invariant-loop-c l = l.into.items ≡ (l.fn.into.items ++ 34 ∷ []) ++ flat_map code_escaped l.yielded
