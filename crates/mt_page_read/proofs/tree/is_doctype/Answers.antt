use Rattle.mt_page_tokens.specs.Tokens.{doctype}
use Rattle.mt_page_read.proofs.tree.is_doctype.Goals as goal

pub returns : goal.returns
unfolding doctype
returns c = c.is_same.ensures
