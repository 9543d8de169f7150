use Rattle.std.proofs.Common.{◌≡◌, ◌+◌, ◌≤◌, ◌<◌, List, ℕ, Err, sym, ap, subst, arith}
use Rattle.mt_lines.specs.Lines.{IsFirstLine}
use Rattle.mt_schedule.specs.declared.refusal.ScheduleRefusal.TheVariants.{BadLine}
use Rattle.mt_schedule.specs.Command.{IsGoodLine}
use Rattle.mt_schedule.specs.Schedule.{version_of, line_limit, IsFirstBad, HasTooMany, IsTaken}
use Rattle.mt_schedule.proofs.Schedules.{progress-more, progress-bad, progress-many}
use Rattle.mt_schedule.proofs.schedule_reader.read_schedule.Goals as goal

pub returns-then-number-limit-clause-many : goal.returns-then-number-limit-clause-many
returns-then-number-limit-clause-many c = λ number e.
    let text : List ℕ = c.args.bytes.now in
    let same : c.lines.number + 1 ≡ number = cc in
    let next : IsFirstLine c.lines.rest.now c.in-Some.line.now c.in-Some.after.now = c.in-Some.ensures in
    let above : line_limit (version_of text) < c.lines.number + 1 = omega (arith, c.lines.invariant.limit, c.if-number-limit.true) in
    subst (HasTooMany text) same
    (progress-many text c.lines.rest.now c.in-Some.line.now c.in-Some.after.now c.lines.number c.lines.commands.items c.lines.invariant.progress next above)

pub lines-preserved : goal.lines-preserved
lines-preserved c =
    let text : List ℕ = c.args.bytes.now in
    let next : IsFirstLine c.lines.rest.now c.in-Some.line.now c.in-Some.after.now = c.in-Some.ensures in
    let within : c.lines.number + 1 ≤ line_limit (version_of text) = omega (arith, c.lines.invariant.limit, c.if-number-limit.false) in
    let taken : IsTaken (version_of text) c.in-Some.line.now c.lines.commands.items c.take_line.new.commands.items =
    subst (λ version. IsTaken version c.in-Some.line.now c.lines.commands.items c.take_line.new.commands.items) c.lines.invariant.version c.in-Ok.ensures.taken in
    record {
      version = c.lines.invariant.version;
      limit = c.lines.invariant.limit;
      progress = progress-more text c.lines.rest.now c.in-Some.line.now c.in-Some.after.now c.lines.number c.lines.commands.items c.take_line.new.commands.items
          c.lines.invariant.progress next within taken;
    }

pub returns-in-Err-clause-refused : goal.returns-in-Err-clause-refused
returns-in-Err-clause-refused c = λ number e.
    let text : List ℕ = c.args.bytes.now in
    let next : IsFirstLine c.lines.rest.now c.in-Some.line.now c.in-Some.after.now = c.in-Some.ensures in
    let within : c.lines.number + 1 ≤ line_limit (version_of text) = omega (arith, c.lines.invariant.limit, c.if-number-limit.false) in
    let refusal : c.in-Err.refusal ≡ BadLine number = cc in
    let refused = c.in-Err.ensures.refused number (ap Err refusal) in
    let bad : IsGoodLine (version_of text) c.in-Some.line.now → ⊥ =
    subst (λ version. IsGoodLine version c.in-Some.line.now → ⊥) c.lines.invariant.version refused.1 in
    subst (IsFirstBad text) (sym refused.0)
    (progress-bad text c.lines.rest.now c.in-Some.line.now c.in-Some.after.now c.lines.number c.lines.commands.items c.lines.invariant.progress next within bad)
