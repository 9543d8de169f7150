use Rattle.std.proofs.Common.{sym, ◌∙◌}
use Rattle.mt_resolve_free.proofs.Words.{same_tables}
use Rattle.mt_resolve_free.proofs.free.are_same.Goals as goal

pub returns : goal.returns
returns c = λ h. same_tables c.args.names.now c.args.others.now (sym c.eq.ensures ∙ h)
