use Rattle.mt_parser_marks.proofs.escape.+digits.Given as goal

abbrev pub decreases-digits : goal.decreases-digits
decreases-digits l = l.count
