use Rattle.std.proofs.Common.{◌≡◌, ◌+◌, length}
use Rattle.json.specs.Lex.{tokens}
use Rattle.mt_json.proofs.size.has_few_tokens.Given as goal

abbrev pub invariant-loop : goal.invariant-loop
invariant-loop l = length l.reader + l.counter ≡ length (tokens l.text)
