use Rattle.std.proofs.Common.{Some, ap, ◌∙◌}
use Rattle.std.specs.Str.{chars}
use Rattle.std.proofs.lemmas.Str.{IsUtf8-take}
use Rattle.mt_tree.specs.Text.{units_of}
use Rattle.mt_tree.specs.Units.{find}
use Rattle.mt_tree.proofs.Finding.{stands_nowhere, stands_first}
use Rattle.mt_tree.proofs.first_place.find.Goals as goal

pub returns-in_err-at-clause-place : goal.returns-in_err-at-clause-place
returns-in_err-at-clause-place c =
    let sought = c.as_str.result.now in
    let text = c.as_str-whole.result.now in
    c.from_residual.ensures ∙ stands_nowhere sought text c.as_str.utf8 c.as_str-whole.utf8 c.in_err-at.ensures.cases
    ∙ ap (λ s. find s (chars text)) c.as_str.ensures.value ∙ ap (find c.args.sought.now) c.as_str-whole.ensures.value

pub returns-clause-place : goal.returns-clause-place
returns-clause-place c =
    let sought = c.as_str.result.now in
    let text = c.as_str-whole.result.now in
    let at = c.in_ok-at.at in
    let found = c.in_ok-at.ensures.cases in
    ap Some (c.units.ensures.value ∙ ap (λ front. units_of (chars front)) c.split_at.ensures.front)
    ∙ stands_first sought text c.as_str.utf8 c.as_str-whole.utf8 at found.0 found.1.0 found.1.1 found.3.0 (IsUtf8-take text at c.as_str-whole.utf8 found.3)
    ∙ ap (λ s. find s (chars text)) c.as_str.ensures.value ∙ ap (find c.args.sought.now) c.as_str-whole.ensures.value
