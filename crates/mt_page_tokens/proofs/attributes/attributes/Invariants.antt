use Rattle.std.proofs.Common.{◌-◌}
use Rattle.mt_page_tokens.specs.Reading.{attributes_by}
use Rattle.mt_page_tokens.proofs.AttributeTurns.{SoFar}
use Rattle.mt_page_tokens.proofs.attributes.attributes.Given as goal

abbrev pub invariant-loop : goal.invariant-loop
invariant-loop l = SoFar (l.turns - l.counter) l.out.items l.rest (attributes_by l.turns l.bytes)
