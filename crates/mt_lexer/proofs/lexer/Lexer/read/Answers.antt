use Rattle.std.proofs.Common.{◌≡◌, ◌≤◌, ◌+◌, ℕ, List, length, drop, drop_of_length-le, refl, ap, ◌∙◌, arith}
use Rattle.std.proofs.lemmas.Iterator.{YieldsList-from_chars}
use Rattle.std.proofs.lemmas.Iterator.Consumers.{YieldsList-turn, YieldsList-end}
use Rattle.std.proofs.lemmas.List.{length_push}
use Rattle.std.proofs.lemmas.Result.{IfOk-weaker}
use Rattle.std.proofs.lemmas.Str.{encodes-chars}
use Rattle.std.specs.Char.{encode_utf8}
use Rattle.std.specs.Str.{chars, encode_utf8_all}
use Rattle.mt_lexer.specs.declared.character.SourceChar.{SourceChar}
use Rattle.mt_lexer.specs.Character.{characters_from}
use Rattle.mt_lexer.specs.Machine.{follows, lexed}
use Rattle.mt_lexer.specs.Steps.{flow_of}
use Rattle.mt_lexer.specs.Tokens.{Spelled}
use Rattle.mt_lexer.proofs.Turn.{room, one_turn, after_last}
use Rattle.mt_lexer.proofs.lexer.Lexer.read.Goals as goal

pub loop-c-init : goal.loop-c-init
loop-c-init c = record {
  so_far = refl;
  left = let e = ap length (encodes-chars c.args.text.now c.utf8.text) in omega (arith, e);
  source = c.requires.source;
  few = c.requires.few;
}

pub new-here-requires : goal.new-here-requires
new-here-requires c =
    let t = YieldsList-turn (YieldsList-from_chars c.args.text.now c.utf8.text cc) c.loop-c.yielded _ c.loop-c.yielded_by _ _ c.in-Some.c c.in-Some.is c.next.ensures.steps in
    let r = room (chars c.args.text.now) c.loop-c.at (length c.loop-c.yielded) c.in-Some.c (length c.args.text.now) t c.loop-c.invariant.left in omega (arith, r, c.requires.small)

pub returns-then-len-gt-TOKEN_LIMIT-clause-ends : goal.returns-then-len-gt-TOKEN_LIMIT-clause-ends
returns-then-len-gt-TOKEN_LIMIT-clause-ends c =
    let t = YieldsList-turn (YieldsList-from_chars c.args.text.now c.utf8.text cc) c.loop-c.yielded _ c.loop-c.yielded_by _ _ c.in-Some.c c.in-Some.is c.next.ensures.steps in (
      follows (lexed c.args.text.now (characters_from (c.loop-c.at + length (encode_utf8 c.in-Some.c)) (drop (length c.loop-c.yielded + 1) (chars c.args.text.now)))) (flow_of c.in_ok-flow.flow c.step.new.self.modes c.step.new.self.before),
      one_turn c.args.text.now _ _ c.loop-c.invariant.source _ _ _ _ _ (chars c.args.text.now) c.loop-c.at (length c.loop-c.yielded) c.in-Some.c _ _ t c.new-here.ensures c.class_of.ensures c.in_ok-flow.ensures c.loop-c.invariant.so_far,
      omega (arith, c.len.ensures, c.if-len-gt-TOKEN_LIMIT.true),
    )

pub returns-in-Refuse-clause-ends : goal.returns-in-Refuse-clause-ends
returns-in-Refuse-clause-ends c =
    let t = YieldsList-turn (YieldsList-from_chars c.args.text.now c.utf8.text cc) c.loop-c.yielded _ c.loop-c.yielded_by _ _ c.in-Some.c c.in-Some.is c.next.ensures.steps in
    (one_turn c.args.text.now _ _ c.loop-c.invariant.source _ _ _ _ _ (chars c.args.text.now) c.loop-c.at (length c.loop-c.yielded) c.in-Some.c _ _ t c.new-here.ensures c.class_of.ensures (rw c.in-Refuse.is at c.in_ok-flow.ensures) c.loop-c.invariant.so_far, omega (arith, c.len.ensures, c.if-len-gt-TOKEN_LIMIT.false))

pub returns-in-End-clause-ends : goal.returns-in-End-clause-ends
returns-in-End-clause-ends c =
    let t = YieldsList-turn (YieldsList-from_chars c.args.text.now c.utf8.text cc) c.loop-c.yielded _ c.loop-c.yielded_by _ _ c.in-Some.c c.in-Some.is c.next.ensures.steps in
    (one_turn c.args.text.now _ _ c.loop-c.invariant.source _ _ _ _ _ (chars c.args.text.now) c.loop-c.at (length c.loop-c.yielded) c.in-Some.c _ _ t c.new-here.ensures c.class_of.ensures (rw c.in-End.is at c.in_ok-flow.ensures) c.loop-c.invariant.so_far, omega (arith, c.len.ensures, c.if-len-gt-TOKEN_LIMIT.false))

pub loop-c-preserved : goal.loop-c-preserved
loop-c-preserved c =
    let t = YieldsList-turn (YieldsList-from_chars c.args.text.now c.utf8.text cc) c.loop-c.yielded _ c.loop-c.yielded_by _ _ c.in-Some.c c.in-Some.is c.next.ensures.steps in
    let one = one_turn c.args.text.now _ _ c.loop-c.invariant.source _ _ _ _ _ (chars c.args.text.now) c.loop-c.at (length c.loop-c.yielded) c.in-Some.c _ _ t c.new-here.ensures c.class_of.ensures (rw c.in-Continue.is at c.in_ok-flow.ensures) c.loop-c.invariant.so_far in
    let n = length_push c.loop-c.yielded c.in-Some.c in
    let e : c.new-here.result.span.end ≡ c.loop-c.at + length (encode_utf8 c.in-Some.c) = ap (λ (g : SourceChar). g.span.end) c.new-here.ensures in
    record {
      so_far = rw (e, n) one;
      left = rw (e, n) (room (chars c.args.text.now) c.loop-c.at (length c.loop-c.yielded) c.in-Some.c (length c.args.text.now) t c.loop-c.invariant.left);
      source = ap (λ (s : Spelled). s.source) c.in_ok-flow.ensures.1 ∙ c.loop-c.invariant.source;
      few = omega (arith, c.len.ensures, c.if-len-gt-TOKEN_LIMIT.false);
    }

pub finish-requires : goal.finish-requires
finish-requires c =
    let t = YieldsList-end (YieldsList-from_chars c.args.text.now c.utf8.text cc) c.loop-c.yielded _ c.loop-c.yielded_by _ _ c.in-None.is c.next.ensures.steps in
    let l : length (chars c.args.text.now) ≤ length c.loop-c.yielded = omega (arith, t.1) in
    let none : length (encode_utf8_all (drop (length c.loop-c.yielded) (chars c.args.text.now))) ≡ 0 = ap (λ (xs : List ℕ). length (encode_utf8_all xs)) (drop_of_length-le (chars c.args.text.now) l) in
    let e : length c.loop-c.self.tokens.source ≡ length c.args.text.now = ap length c.loop-c.invariant.source in
    omega (arith, none, e, c.loop-c.invariant.left)

pub returns-clause-ends : goal.returns-clause-ends
returns-clause-ends c =
    let t = YieldsList-end (YieldsList-from_chars c.args.text.now c.utf8.text cc) c.loop-c.yielded _ c.loop-c.yielded_by _ _ c.in-None.is c.next.ensures.steps in
    IfOk-weaker c.finish.result _ _
    (λ e h. after_last e _ c.args.text.now c.loop-c.self.tokens (chars c.args.text.now) c.loop-c.at (length c.loop-c.yielded) _ _ _ _ c.loop-c.invariant.source (omega (arith, t.1)) h c.loop-c.invariant.so_far) c.finish.ensures.ends
