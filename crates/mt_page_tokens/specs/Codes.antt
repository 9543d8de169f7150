-- Client code in a page, as one value.
use Rattle.std.specs.Prelude.{ℕ, Bool, List, Option, option_map}
use Rattle.mt_script_read.specs.CodeAt.{code_at, is_code_within_limits}
use Rattle.mt_syntax.specs.declared.program.Code.{Code}
use Rattle.mt_syntax.specs.declared.tree.Stmt.{Stmt}

-- it is within the limits
unfoldable pub is_code : Code → Bool
is_code code = is_code_within_limits code.body

abbrev pub code_with : List Stmt → Code
code_with body = record { body = body }

-- the code within the limits whose text the bytes are
unfoldable pub code_spelled : List ℕ → Option Code
code_spelled bytes = option_map code_with (code_at bytes)
