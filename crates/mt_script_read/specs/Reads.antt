-- Which code is read from bytes.
use Rattle.std.specs.Prelude.{◌≡◌, ℕ, List}
use Rattle.mt_syntax.specs.CodeText.{code_text}
use Rattle.mt_syntax.specs.declared.tree.Stmt.{Stmt}
use Rattle.mt_stage.specs.CodeLimits.{IsCodeWithinLimits}

-- The body is code within the limits, and the bytes are its text.
pub record Reads (bytes : List ℕ) (body : List Stmt) : Type 0 where
  pub within : IsCodeWithinLimits body
  pub text : code_text body ≡ bytes
