use Rattle.std.proofs.Common.{sym, ◌∙◌}
use Rattle.mt_syntax.specs.First.{earlier_of}
use Rattle.mt_stage_declared.specs.Declarations.{declared}
use Rattle.mt_stage_declared.specs.Scopes.{scope_of}
use Rattle.mt_stage_declared.proofs.Repeats.{first_behind}
use Rattle.mt_stage_declared.proofs.search.by_comparison.repeated_behind.Goals as goal

pub returns : goal.returns
returns c =
    let before = c.args.before.now in
    c.earlier.ensures ∙ (λ i. earlier_of (c.in_statement.ensures i) (c.repeated_in_statement.ensures i))
    ∙ sym (first_behind (scope_of before.kind before.names.now before.items.now) (declared c.args.from.now).here)
