use Rattle.std.proofs.Common.{take, ap, refl, ◌∙◌, arith}
use Rattle.std.specs.Str.{chars}
use Rattle.std.specs.Str.Iter.{chars_rest}
use Rattle.mt_tree.proofs.Texts.{rest_is_utf8}
use Rattle.mt_ops.proofs.Texts.{no_characters, taken_further, first_is_utf8, one_is_utf8, nothing_taken, taken_all}
use Rattle.std.specs.String.{string_bytes}
use Rattle.mt_ops.proofs.text.shortened.Goals as goal
use Rattle.mt_ops.proofs.text.shortened.Goals.{in-None, in-Some+then-room-eq0}

pub loop-c-init : goal.loop-c-init
loop-c-init c = rw (c.into_iter-c-iterator.ensures.into_iter_gives, c.chars-c-items.ensures.rest, c.new-made.ensures.bytes, no_characters) (tt, tt, c.utf8.name, refl)

pub loop-c-preserved : goal.loop-c-preserved
loop-c-preserved c =
    let before = chars_rest c.loop-c.c-iterator in
    let after = chars_rest c.next.new.self in
    let utf8 = c.loop-c.invariant.2 in
    let step = c.in-Some.ensures.steps.0 in
    let one = one_is_utf8 c.in-Some.c (first_is_utf8 before after c.in-Some.c utf8 step) in (
      tt,
      tt,
      rest_is_utf8 before after c.in-Some.c utf8 step,
      rw c.in_ok-push.ensures.bytes (taken_further c.loop-c.made c.loop-c.room c.in-Some.c before after one utf8 step (omega arith) ∙ c.loop-c.invariant.3),
    )

pub returns : goal.returns
returns c =
    let made = chars (string_bytes c.loop-c.made) in
    let left = chars (chars_rest c.loop-c.c-iterator) in
    let whole = take 64 (chars c.args.name.now) in
    elim c.match-next.branch [
      | in-None w ↦ taken_all made (take c.loop-c.room left) whole (nothing_taken c.loop-c.room (chars_rest c.loop-c.c-iterator) w.in-None.ensures.steps.0.0) c.loop-c.invariant.3
      | in-Some+then-room-eq0 w ↦ taken_all made (take c.loop-c.room left) whole (ap (λ n. take n left) w.if-room-eq0.true) c.loop-c.invariant.3
    ]
