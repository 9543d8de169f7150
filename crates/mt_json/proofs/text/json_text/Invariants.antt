use Rattle.std.proofs.Common.{◌≡◌, ◌++◌, ◌∷◌, []}
use Rattle.std.specs.List.{flat_map}
use Rattle.mt_syntax.specs.DataText.{escaped}
use Rattle.mt_json.proofs.text.json_text.Given as goal

abbrev pub invariant-loop-c : goal.invariant-loop-c
invariant-loop-c l = l.into.items ≡ (l.fn.into.items ++ 34 ∷ []) ++ flat_map escaped l.yielded
