use Rattle.std.proofs.Common.{◌++◌, ap, sym, ◌∙◌}
use Rattle.std.specs.Char.{encode_utf8}
use Rattle.std.specs.Str.Iter.{chars_rest}
use Rattle.mt_tree.proofs.Texts.{rest_is_utf8}
use Rattle.mt_ops.proofs.Units.{further, decided, second_ends, first_ends, both_end}
use Rattle.mt_ops.proofs.order.comes_before.Goals as goal

pub returns-in-None-next : goal.returns-in-None-next
returns-in-None-next c =
    second_ends (chars_rest c.loop-c.c-iterator) (chars_rest c.loop-c.others) (chars_rest c.next.new.self) c.in-Some.c c.loop-c.invariant.2 c.in-Some.ensures.steps.0 c.in-None-next.ensures.steps.0.0
    ∙ c.loop-c.invariant.4

pub returns-then-c-d : goal.returns-then-c-d
returns-then-c-d c =
    decided (chars_rest c.loop-c.c-iterator) (chars_rest c.loop-c.others) (chars_rest c.next.new.self) (chars_rest c.next-in-loop-c.new.self) c.in-Some.c c.in-Some-next.d c.is_below.result
    c.loop-c.invariant.2 c.loop-c.invariant.3 c.in-Some.ensures.steps.0 c.in-Some-next.ensures.steps.0 c.if-c-d.true c.is_below.ensures
    ∙ c.loop-c.invariant.4

pub loop-c-preserved : goal.loop-c-preserved
loop-c-preserved c =
    let first = chars_rest c.loop-c.c-iterator in
    let second = chars_rest c.loop-c.others in
    let second_step = c.in-Some-next.ensures.steps.0 ∙ ap (λ d. encode_utf8 d ++ chars_rest c.next-in-loop-c.new.self) (sym c.if-c-d.false) in (
      tt,
      tt,
      rest_is_utf8 first (chars_rest c.next.new.self) c.in-Some.c c.loop-c.invariant.2 c.in-Some.ensures.steps.0,
      rest_is_utf8 second (chars_rest c.next-in-loop-c.new.self) c.in-Some-next.d c.loop-c.invariant.3 c.in-Some-next.ensures.steps.0,
      further first second (chars_rest c.next.new.self) (chars_rest c.next-in-loop-c.new.self) c.in-Some.c c.loop-c.invariant.2 c.loop-c.invariant.3 c.in-Some.ensures.steps.0 second_step
          ∙ c.loop-c.invariant.4,
    )

pub returns-in-None-next-2 : goal.returns-in-None-next-2
returns-in-None-next-2 c =
    both_end (chars_rest c.loop-c.c-iterator) (chars_rest c.loop-c.others) c.in-None.ensures.steps.0.0 c.in-None-next-2.ensures.steps.0.0 ∙ c.loop-c.invariant.4

pub returns-in-Some-next-2 : goal.returns-in-Some-next-2
returns-in-Some-next-2 c =
    first_ends (chars_rest c.loop-c.c-iterator) (chars_rest c.loop-c.others) (chars_rest c.next-2.new.self) c.in-Some-next-2.field-0 c.loop-c.invariant.3 c.in-None.ensures.steps.0.0
    c.in-Some-next-2.ensures.steps.0
    ∙ c.loop-c.invariant.4
