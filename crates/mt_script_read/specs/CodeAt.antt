-- The code whose text bytes are, where there is one.
use Rattle.std.specs.Prelude.{ℕ, ◌&&◌, nat_le, if◌then◌else◌, List, [], ◌∷◌, Bool, true, false, Option, Some, None}
use Rattle.std.specs.Str.{bytes_eq}
use Rattle.mt_tree.specs.Limits.{depth_limit, text_limit}
use Rattle.mt_syntax.specs.CodeText.{code_text}
use Rattle.mt_syntax.specs.Codes.{is_filled, is_plain, stands_nowhere}
use Rattle.mt_syntax.specs.Depth.{depth_of}
use Rattle.mt_syntax.specs.Numbering.{values_of}
use Rattle.mt_syntax.specs.Shape.{is_shaped}
use Rattle.mt_syntax.specs.Texts.{longest_in}
use Rattle.mt_syntax.specs.declared.tree.Stmt.{Stmt}
use Rattle.mt_stage_placement.specs.Placement.{misplaced_jumps}
use Rattle.mt_stage_declared.specs.Twice.{twice_in_client}
use Rattle.mt_json.specs.DataAt.{are_within}
use Rattle.mt_json.specs.Reading.{◌>>=◌}
use Rattle.mt_script_tree.specs.Reading.{stmts_at}

abbrev pub is_empty : {A : Type 0} → List A → Bool
is_empty [] = true
is_empty (x ∷ xs) = false

-- whether a list of statements is code
abbrev pub is_code : List Stmt → Bool
is_code body = is_shaped body && (is_plain body && (is_filled body && stands_nowhere body))

-- whether a list of statements is code within the limits
abbrev pub is_code_within_limits : List Stmt → Bool
is_code_within_limits body =
    is_code body
    && (nat_le (depth_of body) depth_limit
    && (nat_le (longest_in body) text_limit
    && (are_within (values_of body) && (is_empty (misplaced_jumps body) && is_empty (twice_in_client body)))))

abbrev pub spelled_by : List ℕ → List Stmt → Option (List Stmt)
spelled_by bytes body = if is_code_within_limits body && bytes_eq (code_text body) bytes then Some body else None

-- what a lenient reader finds, if it is within the limits and the bytes are its text
unfoldable pub code_at : List ℕ → Option (List Stmt)
code_at bytes = stmts_at depth_limit bytes >>= spelled_by bytes
