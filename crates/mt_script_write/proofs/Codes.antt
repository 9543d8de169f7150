-- Code is written as a tilde without values.
use Rattle.std.proofs.Common.{◌≡◌, List, [], sym, ◌∙◌}
use Rattle.std.specs.List.{flat_map}
use Rattle.mt_syntax.specs.CodeText.{code_text}
use Rattle.mt_syntax.specs.declared.tree.Stmt.{Stmt}
use Rattle.mt_syntax_laws.proofs.Texts.{text_by_steps, text_without_values}
use Rattle.mt_script_write.specs.Written.{stmt_written}

pub text_of_itself : (body : List Stmt) → flat_map (stmt_written []) body ≡ code_text body
text_of_itself body = sym (text_by_steps [] body) ∙ text_without_values body
