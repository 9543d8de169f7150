use Rattle.std.proofs.Common.{◌≡◌, ◌≤◌, ◌-◌, ◌+◌, List, ℕ}
use Rattle.std.specs.Vec.{vec_len}
use Rattle.std.specs.Str.{chars}
use Rattle.mt_tree.specs.Limits.{source_limit}
use Rattle.mt_outside.proofs.Pieces.{Begins}
use Rattle.mt_outside.proofs.reading.read_file.Given as goal

abbrev pub invariant-pieces : goal.invariant-pieces
invariant-pieces g l = record {
  fits : vec_len l.bytes ≤ source_limit + 1;
  begins : Begins (g.F.Files.contents l.initial.files (chars l.fn.name)) l.bytes.items;
  missing : g.F.Files.is_missing l.initial.files (chars l.fn.name) → (l.files ≡ l.initial.files) × (vec_len l.bytes ≡ 0);
  kept : g.F.Files.contents l.files ≡ g.F.Files.contents l.initial.files;
  still_missing : (other : List ℕ) → g.F.Files.is_missing l.initial.files other → g.F.Files.is_missing l.files other;
  later : (other : List ℕ) → g.F.Files.faults l.initial.files other ≤ g.F.Files.faults l.files other;
}

abbrev pub decreases-pieces : goal.decreases-pieces
decreases-pieces g l = (source_limit + 1) - vec_len l.bytes
