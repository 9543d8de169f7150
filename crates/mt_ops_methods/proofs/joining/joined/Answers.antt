use Rattle.std.proofs.Common.{◌≡◌, ◌++◌, IfOk, take, ap, subst, ◌∙◌}
use Rattle.std.specs.Str.{chars}
use Rattle.std.specs.String.{string_bytes}
use Rattle.mt_ops.proofs.Texts.{no_characters}
use Rattle.mt_ops_methods.specs.Joining.{shown, joined}
use Rattle.mt_ops_methods.proofs.Joins.{rest_shown, text_more, all_shown, none_shown}
use Rattle.mt_ops_methods.proofs.joining.joined.Goals as goal
use Rattle.mt_ops_methods.proofs.joining.joined.Goals.{in-Some+in_ok-put-in-Some+else-loop-item-test, in-None}

pub loop-item-preserved : goal.loop-item-preserved
loop-item-preserved c =
    let v = c.item-item.result in
    let start = chars (string_bytes c.put.new.into) in
    c.in_ok-put-in-Some-2.ensures ∙ ap (λ t. t ++ shown v) (c.in_ok-push_text-in-Some.ensures ∙ ap (λ t. t ++ chars c.as_str-between.result.now) c.loop-item.invariant)
    ∙ ap (λ t. ((start ++ rest_shown c.args.separator.now (take c.loop-item.item-index c.in-Some.rest.now)) ++ t) ++ shown v) c.as_str-between.ensures.value
    ∙ text_more c.args.separator.now start c.in-Some.rest.now c.loop-item.item-index v c.loop-item-test.true c.item-item.is

made_is : (c : goal.After-drop-made-2) → chars (string_bytes c.match-split_first.made) ≡ joined c.args.separator.now c.args.items.now
made_is c = elim c.match-split_first.branch [
  | in-Some+in_ok-put-in-Some+else-loop-item-test w ↦
      ap (λ made. chars (string_bytes made)) w.made-is ∙ w.loop-item.invariant
      ∙ ap (λ t. t ++ rest_shown c.args.separator.now (take w.loop-item.item-index w.in-Some.rest.now)) (w.in_ok-put-in-Some.ensures ∙ ap (λ t. t ++ shown w.in-Some.first.now) (ap chars c.new-made.ensures.bytes ∙ no_characters))
      ∙ all_shown c.args.separator.now w.in-Some.first.now w.in-Some.rest.now c.args.items.now w.loop-item.item-index w.in-Some.ensures.cases.0 w.loop-item-test.false
  | in-None w ↦ ap (λ made. chars (string_bytes made)) w.made-is ∙ ap chars c.new-made.ensures.bytes ∙ no_characters ∙ none_shown c.args.separator.now c.args.items.now w.in-None.ensures.cases
]

pub returns : goal.returns
returns c =
    subst (λ t. IfOk c.from_str.result (λ text. text ≡ t)) (ap chars c.as_str.ensures.value ∙ made_is c) c.from_str.ensures
