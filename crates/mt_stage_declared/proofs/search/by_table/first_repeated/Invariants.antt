use Rattle.std.proofs.Common.{◌≡◌, take}
use Rattle.mt_syntax.specs.First.{first_of}
use Rattle.mt_stage_declared.specs.Repeated.{repeated}
use Rattle.mt_stage_declared.specs.Scopes.{Tells}
use Rattle.mt_stage_declared.proofs.search.by_table.first_repeated.Given as goal

abbrev pub invariant-loop-declaration : goal.invariant-loop-declaration
invariant-loop-declaration l = record {
  first : l.found ≡ first_of (repeated (take l.declaration-index l.declared));
  table : Tells l.table (take l.declaration-index l.declared);
}
