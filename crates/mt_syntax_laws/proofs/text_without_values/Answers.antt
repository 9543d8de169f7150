use Rattle.mt_syntax_laws.proofs.Texts.{text_without_values}
use Rattle.mt_syntax_laws.proofs.text_without_values.Goals as goal

pub returns : goal.returns
returns c body = text_without_values body
