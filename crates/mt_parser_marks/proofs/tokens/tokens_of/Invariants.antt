use Rattle.std.proofs.Common.{◌≡◌, ◌≤◌, length, map, take}
use Rattle.std.specs.List.{All}
use Rattle.mt_tree.specs.Place.{place_of}
use Rattle.mt_lexer.specs.Tokens.{marks_of}
use Rattle.mt_parser_marks.specs.Views.{token_of}
use Rattle.mt_parser_marks.specs.Tokens.{token_in, HasTerminal}
use Rattle.mt_parser_marks.proofs.tokens.tokens_of.Given as goal

abbrev pub invariant-loop-token : goal.invariant-loop-token
invariant-loop-token l = record {
  within : l.cursor.at ≤ length l.source;
  stands : l.cursor.place ≡ place_of l.source l.cursor.at;
  tokens : map token_of l.list.items ≡ map (token_in l.source) (marks_of (take l.token-index l.token-items));
  terminals : All HasTerminal l.list.items;
}
