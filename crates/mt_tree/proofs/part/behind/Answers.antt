use Rattle.std.proofs.Common.{◌≡◌, ◌<◌, ◌≤◌, Some, ap, sym, ◌∙◌, arith}
use Rattle.std.specs.Option.{option_map}
use Rattle.std.specs.Str.{chars}
use Rattle.std.specs.Str.Iter.{chars_rest}
use Rattle.mt_tree.proofs.Texts.{rest_is_utf8}
use Rattle.mt_tree.specs.Text.{units_in}
use Rattle.mt_tree.proofs.Cuts.{units_in-is, behind-zero, behind-past, behind-across, behind-end}
use Rattle.mt_tree.specs.Units.{behind}
use Rattle.mt_tree.proofs.part.behind.Goals as goal

pub returns-in_err-c-clause-rest : goal.returns-in_err-c-clause-rest
returns-in_err-c-clause-rest c =
    ap (option_map (λ rest. chars rest.now)) c.from_residual.ensures
    ∙ sym (behind-end (chars_rest c.loop-left.rest) c.loop-left.left c.in_err-c.ensures.steps.0.0 c.loop-left-test.true) ∙ c.loop-left.invariant.so_far

pub returns-then-left-taken-clause-rest : goal.returns-then-left-taken-clause-rest
returns-then-left-taken-clause-rest c =
    let taken = units_in-is c.in_ok-c.c c.len_utf16-taken.result c.len_utf16-taken.ensures.bmp c.len_utf16-taken.ensures.surrogate_pair in
    let inside : c.loop-left.left < units_in c.in_ok-c.c = omega (arith, taken, c.if-left-taken.true) in
    sym (behind-across (chars_rest c.loop-left.rest) (chars_rest c.next.new.self) c.in_ok-c.c c.loop-left.left c.loop-left.invariant.utf8 c.in_ok-c.ensures.steps.0 c.loop-left-test.true inside)
    ∙ c.loop-left.invariant.so_far

pub loop-left-preserved : goal.loop-left-preserved
loop-left-preserved c =
    let taken = units_in-is c.in_ok-c.c c.len_utf16-taken.result c.len_utf16-taken.ensures.bmp c.len_utf16-taken.ensures.surrogate_pair in
    let within : units_in c.in_ok-c.c ≤ c.loop-left.left = omega (arith, taken, c.if-left-taken.false) in
    let before = chars_rest c.loop-left.rest in
    let after = chars_rest c.next.new.self in
    let step = c.in_ok-c.ensures.steps.0 in
    record {
      utf8 = rest_is_utf8 before after c.in_ok-c.c c.loop-left.invariant.utf8 step;
      so_far = rw taken (sym (behind-past before after c.in_ok-c.c c.loop-left.left c.loop-left.invariant.utf8 step within) ∙ c.loop-left.invariant.so_far);
    }

pub returns-clause-rest : goal.returns-clause-rest
returns-clause-rest c =
    let none : c.loop-left.left ≡ 0 = omega (arith, c.loop-left-test.false) in
    ap (λ bs. Some (chars bs)) c.as_str.ensures ∙ sym (ap (behind (chars (chars_rest c.loop-left.rest))) none ∙ behind-zero (chars (chars_rest c.loop-left.rest)))
    ∙ c.loop-left.invariant.so_far
