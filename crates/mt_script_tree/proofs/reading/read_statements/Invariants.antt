use Rattle.std.proofs.Common.{◌-◌, ◌+◌, length}
use Rattle.mt_json.proofs.Many.{SoFar}
use Rattle.mt_script_tree.specs.Reading.{stmt_at, stmt_step, stmts_by}
use Rattle.mt_script_tree.proofs.reading.read_statements.Given as goal

abbrev pub invariant-loop : goal.invariant-loop
invariant-loop l = SoFar (stmt_step (stmt_at l.depth)) (length l.bytes + 1 - l.counter) l.found.items l.rest (stmts_by (stmt_at l.depth) l.bytes)
