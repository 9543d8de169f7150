use Rattle.mt_parser_marks.proofs.escape.+code_point.Given as goal

abbrev pub decreases-code_point : goal.decreases-code_point
decreases-code_point l = l.count
