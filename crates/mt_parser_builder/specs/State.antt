-- What the code has found.
use Rattle.mt_parser_builder.specs.declared.found.Found.{Found as CodeFound}
use Rattle.mt_parser_builder.specs.Found.{Found}

abbrev pub found_of : CodeFound → Found
found_of f = record { before = f.before; tildes = f.tildes.items; dollars = f.dollars.items }
