use Rattle.mt_syntax_laws.proofs.Texts.{text_by_steps}
use Rattle.mt_syntax_laws.proofs.text_of_substituted_body.Goals as goal

pub returns : goal.returns
returns c values body = text_by_steps values body
