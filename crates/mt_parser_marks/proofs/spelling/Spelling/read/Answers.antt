use Rattle.std.proofs.Common.{◌≡◌, ◌++◌, ap, IfOk, List, ℕ, subst, ◌∙◌}
use Rattle.std.specs.Str.{chars}
use Rattle.std.proofs.lemmas.Str.{chars-nil}
use Rattle.mt_parser_marks.specs.Values.{spelled}
use Rattle.mt_parser_marks.specs.Reading.{next_by}
use Rattle.mt_parser_marks.proofs.spelling.Spelling.read.Goals as goal

pub returns-in-Ok : goal.returns-in-Ok
returns-in-Ok c =
    let read = spelled (next_by c.args.self) (chars c.args.text.now) in
    subst (λ (cs : List ℕ). IfOk c.from_str.result (λ made. made ≡ cs))
    (ap chars c.as_str.ensures.value ∙ c.in-Ok.ensures ∙ ap (λ (bs : List ℕ). chars bs ++ read) c.new-characters.ensures.bytes ∙ ap (λ (cs : List ℕ). cs ++ read) chars-nil)
    c.from_str.ensures
