use Rattle.std.proofs.Common.{◌≡◌, ◌+◌, ◌≤◌, length, drop}
use Rattle.std.specs.Str.{chars, encode_utf8_all}
use Rattle.mt_lexer.specs.declared.part.Part.TheVariants as p
use Rattle.mt_lexer.specs.Character.{characters_from}
use Rattle.mt_lexer.specs.Ending.{front}
use Rattle.mt_lexer.specs.Machine.{lexed}
use Rattle.mt_lexer.proofs.lexer.Lexer.read.Given as goal

abbrev pub invariant-loop-c : goal.invariant-loop-c
invariant-loop-c l = record {
  so_far : front l.self.tokens.marks (lexed l.text (characters_from l.at (drop (length l.yielded) (chars l.text))) l.self.modes l.self.before l.part)
      ≡ front l.initial.self.tokens.marks (lexed l.text (characters_from 0 (chars l.text)) l.initial.self.modes l.initial.self.before p.Fresh);
  left : l.at + length (encode_utf8_all (drop (length l.yielded) (chars l.text))) ≡ length l.text;
  source : l.self.tokens.source ≡ l.text;
  few : length l.self.tokens.marks ≤ 200000;
}
