use Rattle.mt_syntax_laws.proofs.Utf8.{data_utf8}
use Rattle.mt_syntax_laws.proofs.data_text_is_utf8.Goals as goal

pub returns : goal.returns
returns c d is = data_utf8 d is
