use Rattle.std.proofs.Common.{ℕ, List, ◌-◌, length, take, drop, ap, ◌∙◌, sym, subst}
use Rattle.std.specs.Str.{chars, IsUtf8}
use Rattle.mt_parser_marks.proofs.Decoding.{next_drops, next_back_takes}
use Rattle.mt_parser_marks.proofs.literal.inside.Goals as goal

pub returns : goal.returns
returns c =
    let first = next_drops c.chars-characters.result c.next.new.self c.next.result (subst IsUtf8 (sym c.chars-characters.ensures.rest) c.utf8.text) c.next.ensures.steps in
    ap chars c.as_str.ensures
    ∙ next_back_takes c.next.new.self c.next_back.new.self c.next_back.result first.1 (subst IsUtf8 c.as_str.ensures c.as_str.utf8) c.next_back.ensures.steps
    ∙ ap (λ (cs : List ℕ). take (length cs - 1) cs) (first.0 ∙ ap (λ (bs : List ℕ). drop 1 (chars bs)) c.chars-characters.ensures.rest)
