use Rattle.std.proofs.Common.{refl, sym, ◌∙◌}
use Rattle.std.specs.Str.Iter.{chars_rest}
use Rattle.mt_tree.proofs.Texts.{rest_is_utf8}
use Rattle.mt_script_words.proofs.NameBytes.{first_continues, none_continues}
use Rattle.mt_script_words.proofs.names.continues_name.Goals as goal

pub loop-c-init : goal.loop-c-init
loop-c-init c = rw (c.into_iter-c-iterator.ensures.into_iter_gives, c.chars-c-items.ensures.rest) (tt, tt, c.utf8.word, refl)

pub loop-c-preserved : goal.loop-c-preserved
loop-c-preserved c =
    let before = chars_rest c.loop-c.c-iterator in
    let after = chars_rest c.next.new.self in
    let utf8 = c.loop-c.invariant.2 in
    let step = c.in-Some.ensures.steps.0 in (
      tt,
      tt,
      rest_is_utf8 before after c.in-Some.c utf8 step,
      rw (sym c.is_xid_continue.ensures.value ∙ c.if-not-is_xid_continue.false) at (sym (first_continues before after c.in-Some.c utf8 step) ∙ c.loop-c.invariant.3),
    )

pub returns-then-not-is_xid_continue : goal.returns-then-not-is_xid_continue
returns-then-not-is_xid_continue c =
    let before = chars_rest c.loop-c.c-iterator in
    let after = chars_rest c.next.new.self in
    rw (sym c.is_xid_continue.ensures.value ∙ c.if-not-is_xid_continue.true) at (sym (first_continues before after c.in-Some.c c.loop-c.invariant.2 c.in-Some.ensures.steps.0) ∙ c.loop-c.invariant.3)

pub returns : goal.returns
returns c = sym (none_continues (chars_rest c.loop-c.c-iterator) c.in-None.ensures.steps.0.0) ∙ c.loop-c.invariant.3
