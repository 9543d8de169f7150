use Rattle.mt_syntax_laws.proofs.CodeOpenings.{code_opens_nothing}
use Rattle.mt_syntax_laws.proofs.code_text_opens_nothing.Goals as goal

pub returns : goal.returns
returns c body shaped = code_opens_nothing body shaped
