-- The empty program is within the limits.
use Rattle.std.proofs.Common.{◌≡◌, List, [], sym, subst}
use Rattle.mt_resolve.specs.Within.{AreWithin}
use Rattle.mt_syntax.specs.declared.program.Tilde.{Tilde}
use Rattle.mt_syntax.specs.declared.tree.Stmt.{Stmt}

pub within_empty : (tildes : List Tilde) (items : List Stmt) → items ≡ [] → AreWithin tildes items
unfolding AreWithin
within_empty tildes items e = subst (λ ts. AreWithin tildes ts) (sym e) tt
