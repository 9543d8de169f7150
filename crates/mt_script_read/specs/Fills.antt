-- Tildes of accepted programs, the data that fill their dollars, and the code that is read from what they then are as a text.
use Rattle.std.specs.Prelude.{◌≡◌, ℕ, List, length, slice_get, Some}
use Rattle.mt_tree.specs.declared.data.Data.{Data}
use Rattle.mt_syntax.specs.CodeText.{code_text}
use Rattle.mt_syntax.specs.DataLimits.{AreWithinLimits}
use Rattle.mt_syntax.specs.Substitution.{subst}
use Rattle.mt_syntax.specs.declared.program.Program.{Program}
use Rattle.mt_syntax.specs.declared.program.Tilde.{Tilde}
use Rattle.mt_syntax.specs.declared.tree.Stmt.{Stmt}
use Rattle.mt_stage.specs.Accepted.{IsAccepted}
use Rattle.mt_script_read.specs.Reads.{Reads}

-- The tilde stands in an accepted program.
pub record IsAcceptedTilde (tilde : Tilde) : Type 0 where
  pub program : Program
  pub number : ℕ
  pub accepted : IsAccepted program
  pub stands : slice_get program.tildes number ≡ Some tilde

-- The data are one for each dollar of a tilde of an accepted program, and within the limits.
pub record Fills (tilde : Tilde) (values : List Data) : Type 0 where
  pub accepted : IsAcceptedTilde tilde
  pub enough : length values ≡ length tilde.dollars
  pub small : AreWithinLimits values

-- The code is read from the text of a tilde of an accepted program whose dollars the data fill.
pub record IsReadWith (tilde : Tilde) (values : List Data) (code : List Stmt) : Type 0 where
  pub filled : Fills tilde values
  pub reads : Reads (code_text (subst values tilde.body)) code
