use Rattle.std.proofs.Common.{◌≡◌, ◌++◌, map, take, ltb}
use Rattle.mt_syntax.specs.CodeText.{name_text}
use Rattle.mt_syntax.specs.DataText.{separated}
use Rattle.mt_script_write.proofs.functions.append_names.Given as goal

abbrev pub invariant-loop-name : goal.invariant-loop-name
invariant-loop-name l = (l.later ≡ ltb 0 l.name-index) × (l.into.items ≡ l.fn.into.items ++ separated (map name_text (take l.name-index l.names)))
