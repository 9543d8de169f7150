use Rattle.std.proofs.Common.{◌≡◌, ◌+◌, ◌≤◌, Err, sym, ap, subst, arith}
use Rattle.mt_small.specs.declared.schedule_reader.SmallLineRefusal.TheVariants.{BadLine}
use Rattle.mt_small.specs.Schedule.{SpellsSchedule, IsFirstBad}
use Rattle.mt_small.proofs.Schedules.{progress-more, progress-all, progress-bad, bad-line-refuses}
use Rattle.mt_small.proofs.ScheduleTargets.{schedule_asks}
use Rattle.mt_small.proofs.schedule_reader.read_small_schedule.Goals as goal
use Rattle.mt_tree.specs.Limits.{line_limit}

pub returns-then-number-gt-LINE_LIMIT-clause-refused : goal.returns-then-number-gt-LINE_LIMIT-clause-refused
returns-then-number-gt-LINE_LIMIT-clause-refused c = λ number e.
    let same : c.lines.number + 1 ≡ number = cc in
    subst (IsFirstBad c.args.bytes.now) same
    (progress-bad c.args.bytes.now c.lines.rest.now c.in-Some.line.now c.in-Some.after.now c.lines.number c.lines.commands.items c.lines.invariant c.in-Some.ensures
    (λ within good. omega (arith, within, c.if-number-gt-LINE_LIMIT.true)))

pub lines-preserved : goal.lines-preserved
lines-preserved c =
    let within : c.lines.number + 1 ≤ line_limit = omega arith in
    progress-more c.args.bytes.now c.lines.rest.now c.in-Some.line.now c.in-Some.after.now c.lines.number c.lines.commands.items c.take_line.new.commands.items
    c.lines.invariant c.in-Some.ensures within c.in-Ok.ensures.taken

pub returns-in-Err-clause-refused : goal.returns-in-Err-clause-refused
returns-in-Err-clause-refused c = λ number e.
    let same : c.in-Err.refusal ≡ BadLine number = cc in
    let told = c.in-Err.ensures.refused number (ap Err same) in
    subst (IsFirstBad c.args.bytes.now) (sym told.0)
    (progress-bad c.args.bytes.now c.lines.rest.now c.in-Some.line.now c.in-Some.after.now c.lines.number c.lines.commands.items c.lines.invariant c.in-Some.ensures (λ within. told.1))

pub returns-in-Ok-from_vec-clause-read : goal.returns-in-Ok-from_vec-clause-read
returns-in-Ok-from_vec-clause-read c =
    subst (SpellsSchedule c.args.bytes.now) (sym c.in-Ok-from_vec.ensures)
    (progress-all c.args.bytes.now c.lines.rest.now c.lines.number c.lines.commands.items c.lines.invariant c.in_default.ensures)

pub returns-then-number-gt-LINE_LIMIT-clause-none : goal.returns-then-number-gt-LINE_LIMIT-clause-none
returns-then-number-gt-LINE_LIMIT-clause-none c = λ number e commands.
    bad-line-refuses c.args.bytes.now number commands (returns-then-number-gt-LINE_LIMIT-clause-refused c number e)

pub returns-in-Err-clause-none : goal.returns-in-Err-clause-none
returns-in-Err-clause-none c = λ number e commands. bad-line-refuses c.args.bytes.now number commands (returns-in-Err-clause-refused c number e)

pub returns-in-Ok-from_vec-clause-targets : goal.returns-in-Ok-from_vec-clause-targets
returns-in-Ok-from_vec-clause-targets c = schedule_asks c.args.bytes.now _ (returns-in-Ok-from_vec-clause-read c)
