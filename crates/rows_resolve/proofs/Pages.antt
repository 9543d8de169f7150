-- The unit of a code that was added is there.
use Rattle.std.proofs.Common.{ℕ, ◌<◌, [], ◌∷◌, length, List, ap, arith}
use Rattle.std.proofs.lemmas.List.{length-append}
use Rattle.mt_eval_meaning.specs.States.{Numbered}
use Rattle.mt_resolve.specs.Resolved.{ClientStands}
use Rattle.mt_resolve.specs.Services.{Contents}
use Rattle.mt_syntax.specs.declared.tree.Stmt.{Stmt}

pub unit_there : (body : List Stmt) (before after : Contents) (table : List Numbered) (id : ℕ) → ClientStands body before after table id → id < length after.units
unit_there body before after table id h = omega (arith, h.number, ap length h.units, length-append before.units (h.unit ∷ []))
