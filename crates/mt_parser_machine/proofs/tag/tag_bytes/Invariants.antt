use Rattle.std.proofs.Common.{◌≡◌, ◌++◌, take, drop}
use Rattle.mt_grammar.specs.Token.{tag_bytes}
use Rattle.mt_parser_machine.proofs.tag.tag_bytes.Given as goal

abbrev pub invariant-loop-end : goal.invariant-loop-end
invariant-loop-end l = tag_bytes l.bytes ≡ take l.end l.bytes ++ tag_bytes (drop l.end l.bytes)
