use Rattle.std.proofs.Common.{◌≡◌, map, drop}
use Rattle.mt_grammar.specs.Token.{listed}
use Rattle.mt_parser_marks.specs.Rows.{row_of}
use Rattle.mt_parser_marks.proofs.table.listed.Given as goal

abbrev pub invariant-loop-row : goal.invariant-loop-row
invariant-loop-row l = listed (map row_of (drop l.row-index l.rows)) l.other l.text ≡ listed (map row_of l.rows) l.other l.text
