use Rattle.mt_parser_machine.proofs.machine.Machine.close.Goals as goal

pub returns-in-Comma : goal.returns-in-Comma
returns-in-Comma c = rw c.in-Comma.is (c.comma.ensures c.args.target)

pub returns-in-Semicolon : goal.returns-in-Semicolon
returns-in-Semicolon c = rw c.in-Semicolon.is (c.semicolon.ensures c.args.target)
