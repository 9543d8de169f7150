use Rattle.std.proofs.Common.{ℕ, List, ◌++◌, sym, ap, ◌∙◌}
use Rattle.std.proofs.lemmas.Str.{chars_past_char}
use lib.Utf8.{encode}
use Rattle.mt_parser_marks.proofs.character.first.Goals as goal

pub returns : goal.returns
returns c =
    chars_past_char c.args.text.now c.as_str.result.now c.in_ok-character.character c.utf8.text
    (sym c.chars-characters.ensures.rest ∙ c.in_ok-character.ensures.steps.0 ∙ ap (λ (r : List ℕ). encode c.in_ok-character.character ++ r) (sym c.as_str.ensures))
