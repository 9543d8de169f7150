use Rattle.std.proofs.Common.{ℕ, List, Option, Bor, sym, ap, ◌∙◌}
use Rattle.std.specs.Prelude.{option_map, unwrap_or}
use Rattle.std.specs.Str.{chars}
use Rattle.mt_lexer.specs.Character.{Chars}
use Rattle.mt_parser_marks.specs.Values.{values, next_in_text}
use Rattle.mt_parser_marks.proofs.Spelled.{rest_read}
use Rattle.mt_parser_marks.proofs.spelling.next_in_text.Goals as goal

pub returns-then-c-eq92-clause-rest : goal.returns-then-c-eq92-clause-rest
returns-then-c-eq92-clause-rest c =
    let cs = chars c.args.behind.now in
    ap (λ (p : ℕ × Bor (List ℕ)). chars p.1.now) c.unwrap_or.ensures ∙ rest_read c.escape.result (c.args.c, c.args.behind) 92
    ∙ ap (λ (o : Option (ℕ × Chars)). (unwrap_or {T = ℕ × List ℕ} (option_map (λ (p : ℕ × Chars). (p.0, values p.1)) o) (92, cs)).1) c.escape.ensures
    ∙ ap (λ (k : ℕ). (next_in_text k cs).1) (sym c.if-c-eq92.true)
