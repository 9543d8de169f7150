use Rattle.std.proofs.Common.{◌≡◌, [], ◌∷◌, ◌++◌, sym, ap, ◌∙◌}
use Rattle.std.proofs.lemmas.List.{append-nil}
use Rattle.std.specs.Str.{chars}
use Rattle.std.specs.String.{string_bytes}
use Rattle.mt_html.proofs.Before.{a_text, alone}
use Rattle.mt_html.proofs.Characters.{no_characters, none, some}
use Rattle.mt_html.proofs.joining.end_run.Goals as goal
use Rattle.mt_html.specs.Normal.{with_text}
use Rattle.mt_tree.specs.declared.closure.Closure.{Closure}

pub returns-in_ok-push-clause-made : goal.returns-in_ok-push-clause-made
returns-in_ok-push-clause-made c =
    let made = c.args.made.now.items in
    let gathered = chars (string_bytes c.args.run.now) in
    let text : c.in_ok-text.text ≡ gathered = c.in_ok-text.ensures ∙ ap chars c.as_str-then-not-is_empty.ensures.value in
    c.in_ok-push.ensures.ok ∙ ap (λ t. made ++ a_text Closure t ∷ []) text
    ∙ ap (λ xs. made ++ xs) (sym (alone Closure gathered (some c.args.run.now c.as_str.result.now c.as_str.ensures.value (sym c.is_empty.ensures ∙ c.if-not-is_empty.true))))

pub returns-in_ok-push-clause-run : goal.returns-in_ok-push-clause-run
returns-in_ok-push-clause-run c = ap chars c.clear.ensures.bytes ∙ no_characters

nothing : (c : goal.Else-not-is_empty) → chars (string_bytes c.args.run.now) ≡ []
nothing c = ap chars (sym c.as_str.ensures.value) ∙ none c.as_str.result.now (sym c.is_empty.ensures ∙ c.if-not-is_empty.false)

pub returns-else-not-is_empty-clause-made : goal.returns-else-not-is_empty-clause-made
returns-else-not-is_empty-clause-made c =
    let made = c.args.made.now.items in
    sym (ap (λ t. made ++ with_text {C = Closure} t []) (nothing c) ∙ append-nil made)

pub returns-else-not-is_empty-clause-run : goal.returns-else-not-is_empty-clause-run
returns-else-not-is_empty-clause-run c = nothing c
