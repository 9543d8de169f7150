use Rattle.std.proofs.Common.{refl, sym, ◌∙◌}
use Rattle.std.specs.Str.Iter.{chars_rest}
use Rattle.mt_tree.proofs.Texts.{rest_is_utf8}
use Rattle.mt_ops_properties.proofs.Names.{digits_first, digits_none}
use Rattle.mt_ops_properties.proofs.object.are_digits.Goals as goal

pub loop-c-init : goal.loop-c-init
loop-c-init c = rw (c.into_iter-c-iterator.ensures.into_iter_gives, c.chars-c-items.ensures.rest) (tt, tt, c.utf8.text, refl)

pub loop-c-preserved : goal.loop-c-preserved
loop-c-preserved c =
    let before = chars_rest c.loop-c.c-iterator in
    let after = chars_rest c.next.new.self in
    let utf8 = c.loop-c.invariant.2 in
    let step = c.in-Some.ensures.steps.0 in (
      tt,
      tt,
      rest_is_utf8 before after c.in-Some.c utf8 step,
      rw (sym c.is_digit.ensures ∙ c.if-not-is_digit.false) at (sym (digits_first before after c.in-Some.c utf8 step) ∙ c.loop-c.invariant.3),
    )

pub returns-then-not-is_digit : goal.returns-then-not-is_digit
returns-then-not-is_digit c =
    let before = chars_rest c.loop-c.c-iterator in
    let after = chars_rest c.next.new.self in
    rw (sym c.is_digit.ensures ∙ c.if-not-is_digit.true) at (sym (digits_first before after c.in-Some.c c.loop-c.invariant.2 c.in-Some.ensures.steps.0) ∙ c.loop-c.invariant.3)

pub returns : goal.returns
returns c = sym (digits_none (chars_rest c.loop-c.c-iterator) c.in-None.ensures.steps.0.0) ∙ c.loop-c.invariant.3
