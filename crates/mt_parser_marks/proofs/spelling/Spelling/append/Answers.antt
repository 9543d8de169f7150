use Rattle.std.proofs.Common.{rules, length, ap, ◌∙◌, arith}
use Rattle.std.specs.Str.{chars}
use Rattle.std.specs.String.{string_bytes}
use Rattle.std.proofs.lemmas.Str.{IsUtf8-string_bytes}
use Rattle.mt_parser_marks.specs.Reading.{next_by}
use Rattle.mt_parser_marks.proofs.Decoding.{pushed}
use Rattle.mt_parser_marks.proofs.Lengths.{next-shrinks}
use Rattle.mt_parser_marks.proofs.Spelled.{spelled-turn}
use Rattle.mt_parser_marks.proofs.spelling.Spelling.append.Goals as goal

pub loop-c-smaller : goal.loop-c-smaller
loop-c-smaller c =
    let k = next-shrinks c.args.self c.in-Some.c (chars c.in-Some.behind.now) in
    let rest = ap length c.in-Some.ensures in
    let after = ap length c.next-character.ensures.rest in
    omega arith

pub loop-c-preserved : goal.loop-c-preserved
loop-c-preserved c = (
  search rules,
  spelled-turn (next_by c.args.self) (next-shrinks c.args.self) c.in-Some.c c.next-character.result.0 (chars c.in-Some.behind.now) (chars c.loop-c.rest.now) (chars c.next-character.result.1.now)
      (chars (string_bytes c.loop-c.into)) (chars (string_bytes c.push.new.self)) c.in-Some.ensures c.next-character.ensures.character c.next-character.ensures.rest
      (pushed (string_bytes c.loop-c.into) (string_bytes c.push.new.self) c.next-character.result.0 (IsUtf8-string_bytes c.loop-c.into) (IsUtf8-string_bytes c.push.new.self) c.in_ok-push.ensures.bytes)
      ∙ c.loop-c.invariant.1,
)
