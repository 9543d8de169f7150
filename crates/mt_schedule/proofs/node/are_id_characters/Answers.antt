use Rattle.std.proofs.Common.{refl, sym, ◌∙◌}
use Rattle.std.specs.Str.Iter.{chars_rest}
use Rattle.mt_tree.proofs.Texts.{rest_is_utf8}
use Rattle.mt_schedule.proofs.Ids.{first_fits, none_fits}
use Rattle.mt_schedule.proofs.node.are_id_characters.Goals as goal

pub loop-c-init : goal.loop-c-init
loop-c-init c = rw (c.into_iter-c-iterator.ensures.into_iter_gives, c.chars-c-items.ensures.rest) (tt, tt, c.utf8.text, refl)

pub loop-c-preserved : goal.loop-c-preserved
loop-c-preserved c =
    let before = chars_rest c.loop-c.c-iterator in
    let after = chars_rest c.next.new.self in
    let utf8 = c.loop-c.invariant.2 in
    let step = c.in-Some.ensures.steps.0 in (
      tt,
      tt,
      rest_is_utf8 before after c.in-Some.c utf8 step,
      rw (sym c.is_id_character.ensures ∙ c.if-not-is_id_character.false) at (sym (first_fits before after c.in-Some.c utf8 step) ∙ c.loop-c.invariant.3),
    )

pub returns-then-not-is_id_character : goal.returns-then-not-is_id_character
returns-then-not-is_id_character c =
    let before = chars_rest c.loop-c.c-iterator in
    let after = chars_rest c.next.new.self in
    let step = c.in-Some.ensures.steps.0 in
    rw (sym c.is_id_character.ensures ∙ c.if-not-is_id_character.true) at (sym (first_fits before after c.in-Some.c c.loop-c.invariant.2 step) ∙ c.loop-c.invariant.3)

pub returns : goal.returns
returns c = sym (none_fits (chars_rest c.loop-c.c-iterator) c.in-None.ensures.steps.0.0) ∙ c.loop-c.invariant.3
