-- What reading finds is the code of the text, where there is one.
use Rattle.std.proofs.Common.{◌≡◌, ℕ, List, Some, None, sym, ap, ◌∙◌}
use Rattle.mt_syntax.specs.CodeText.{code_text}
use Rattle.mt_syntax.specs.declared.tree.Stmt.{Stmt}
use Rattle.mt_stage.specs.CodeLimits.{IsCodeWithinLimits}
use Rattle.mt_script_tree.specs.Reading.{stmts_at}
use Rattle.mt_script_read.proofs.Limits.{limits_are_readable}
use Rattle.mt_script_read.proofs.Read.{readable_code_is_found}

pub found_is : (bytes : List ℕ) (body : List Stmt) → IsCodeWithinLimits body → code_text body ≡ bytes → stmts_at 60 bytes ≡ Some body
found_is bytes body w text = ap (stmts_at 60) (sym text) ∙ readable_code_is_found 60 body (limits_are_readable body w) w.depth

pub none_found : (bytes : List ℕ) (body : List Stmt) → stmts_at 60 bytes ≡ None → IsCodeWithinLimits body → code_text body ≡ bytes → ⊥
none_found bytes body none w text = let e : None ≡ Some body = sym none ∙ found_is bytes body w text in cc

pub only_found : (bytes : List ℕ) (body found : List Stmt) → stmts_at 60 bytes ≡ Some found → IsCodeWithinLimits body → code_text body ≡ bytes → body ≡ found
only_found bytes body found read w text = let e : Some body ≡ Some found = sym (found_is bytes body w text) ∙ read in cc
