use Rattle.std.proofs.Common.{◌≡◌, ◌++◌, map, take}
use Rattle.mt_eval_meaning.specs.Hoisting.{name_of_decl}
use Rattle.mt_resolve_free.proofs.hoisting.of_decls.Given as goal

abbrev pub invariant-loop-item : goal.invariant-loop-item
invariant-loop-item l = l.into.items ≡ l.fn.into.items ++ map name_of_decl (take l.item-index l.item-items)
