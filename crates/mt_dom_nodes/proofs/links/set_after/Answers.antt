use Rattle.std.proofs.Common.{refl}
use Rattle.mt_dom_nodes.proofs.links.set_after.Goals as goal

pub returns-in_default : goal.returns-in_default
returns-in_default c = λ m. rw (c.in-None.is, c.in_default.is) refl
