use Rattle.std.proofs.Common.{◌≡◌, ◌++◌, drop}
use Rattle.mt_page_tokens.specs.Reading.{unescaped, unescaped_by}
use Rattle.mt_page_tokens.proofs.texts.unescape.Given as goal

abbrev pub invariant-loop-b : goal.invariant-loop-b
invariant-loop-b l = l.out.items ++ unescaped_by l.at (drop l.b-index l.bytes) ≡ unescaped l.bytes
