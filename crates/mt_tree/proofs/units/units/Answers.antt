use Rattle.std.proofs.Common.{arith}
use Rattle.std.specs.Str.Iter.{chars_rest}
use Rattle.mt_tree.proofs.Texts.{rest_is_utf8, units_of-first, units_of-chars_le, units_of-none}
use Rattle.mt_tree.proofs.Cuts.{units_in-is}
use Rattle.mt_tree.proofs.units.units.Goals as goal

pub loop-c-init : goal.loop-c-init
loop-c-init c = rw (c.into_iter-c-iterator.ensures.into_iter_gives, c.chars-c-items.ensures.rest) (tt, tt, c.utf8.text, omega arith)

pub overflow_add-units : goal.overflow_add-units
overflow_add-units c =
    let before = chars_rest c.loop-c.c-iterator in
    let first = units_of-first before (chars_rest c.next.new.self) c.in-Some.c c.loop-c.invariant.2 c.in-Some.ensures.steps.0 in
    let taken = units_in-is c.in-Some.c c.len_utf16-taken.result c.len_utf16-taken.ensures.bmp c.len_utf16-taken.ensures.surrogate_pair in
    omega (arith, c.loop-c.invariant.3, taken, first, units_of-chars_le c.args.text.now c.utf8.text)

pub loop-c-preserved : goal.loop-c-preserved
loop-c-preserved c =
    let before = chars_rest c.loop-c.c-iterator in
    let after = chars_rest c.next.new.self in
    let taken = units_in-is c.in-Some.c c.len_utf16-taken.result c.len_utf16-taken.ensures.bmp c.len_utf16-taken.ensures.surrogate_pair in
    let utf8 = c.loop-c.invariant.2 in (
      tt,
      tt,
      rest_is_utf8 before after c.in-Some.c utf8 c.in-Some.ensures.steps.0,
      omega (arith, c.loop-c.invariant.3, taken, units_of-first before after c.in-Some.c utf8 c.in-Some.ensures.steps.0),
    )

pub returns-clause-value : goal.returns-clause-value
returns-clause-value c = omega (arith, c.loop-c.invariant.3, units_of-none (chars_rest c.loop-c.c-iterator) c.in-None.ensures.steps.0.0)

pub returns-clause-small : goal.returns-clause-small
returns-clause-small c =
    omega (arith, c.loop-c.invariant.3, units_of-none (chars_rest c.loop-c.c-iterator) c.in-None.ensures.steps.0.0, units_of-chars_le c.args.text.now c.utf8.text)
