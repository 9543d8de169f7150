use Rattle.std.proofs.Common.{◌≡◌, ◌++◌, filter, take}
use Rattle.mt_stage_scopes.specs.Sites.{is_lexical}
use Rattle.mt_stage_scopes.proofs.sites.scopes.lexical.Given as goal

abbrev pub invariant-loop-declaration : goal.invariant-loop-declaration
invariant-loop-declaration l = l.into.items ≡ l.fn.into.items ++ filter is_lexical (take l.declaration-index l.from)
