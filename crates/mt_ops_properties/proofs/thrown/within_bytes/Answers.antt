use Rattle.std.proofs.Common.{refl, ◌∙◌, arith}
use Rattle.std.specs.Str.{chars}
use Rattle.std.specs.Str.Iter.{chars_rest}
use Rattle.std.specs.String.{string_bytes}
use Rattle.mt_tree.proofs.Texts.{rest_is_utf8}
use Rattle.mt_ops.proofs.Texts.{no_characters, first_is_utf8, one_is_utf8, taken_all}
use Rattle.mt_ops_properties.specs.ErrorText.{within_bytes}
use Rattle.mt_ops_properties.proofs.Room.{room_further, room_over, nothing_within}
use Rattle.mt_ops_properties.proofs.thrown.within_bytes.Goals as goal
use Rattle.mt_ops_properties.proofs.thrown.within_bytes.Goals.{in-None, in-Some+then-len_utf8-room}

pub loop-c-init : goal.loop-c-init
loop-c-init c = rw (c.into_iter-c-iterator.ensures.into_iter_gives, c.chars-c-items.ensures.rest, c.new-made.ensures.bytes, no_characters) (tt, tt, c.utf8.text, refl)

pub loop-c-preserved : goal.loop-c-preserved
loop-c-preserved c =
    let before = chars_rest c.loop-c.c-iterator in
    let after = chars_rest c.next.new.self in
    let utf8 = c.loop-c.invariant.2 in
    let step = c.in-Some.ensures.steps.0 in
    let one = one_is_utf8 c.in-Some.c (first_is_utf8 before after c.in-Some.c utf8 step) in (
      tt,
      tt,
      rest_is_utf8 before after c.in-Some.c utf8 step,
      rw (c.in_ok-push.ensures.bytes, c.len_utf8-room.ensures.value)
          (room_further c.loop-c.made c.loop-c.room c.in-Some.c before after one utf8 step (omega (arith, c.len_utf8.ensures.value, c.if-len_utf8-room.false)) ∙ c.loop-c.invariant.3),
    )

pub returns : goal.returns
returns c =
    let made = chars (string_bytes c.loop-c.made) in
    let rest = chars_rest c.loop-c.c-iterator in
    let left = within_bytes c.loop-c.room (chars rest) in
    let whole = within_bytes 4096 (chars c.args.text.now) in
    elim c.match-next.branch [
      | in-None w ↦ taken_all made left whole (nothing_within c.loop-c.room rest w.in-None.ensures.steps.0.0) c.loop-c.invariant.3
      | in-Some+then-len_utf8-room w ↦
          taken_all made left whole
          (room_over c.loop-c.room w.in-Some.c rest (chars_rest c.next.new.self) c.loop-c.invariant.2 w.in-Some.ensures.steps.0 (omega (arith, w.len_utf8.ensures.value, w.if-len_utf8-room.true)))
          c.loop-c.invariant.3
    ]
