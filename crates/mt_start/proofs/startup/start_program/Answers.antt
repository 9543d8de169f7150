use Rattle.std.proofs.Common.{◌≡◌, refl, ap₂}
use Rattle.mt_eval_meaning.specs.declared.state.State.{State}
use Rattle.mt_start.proofs.Endings.{reported_of_start}
use Rattle.mt_start.specs.Starts.{empty_state}
use Rattle.mt_start.proofs.startup.start_program.Goals as goal
use Rattle.mt_tree.specs.Limits.{step_limit}

pub returns : goal.returns
returns c =
    let begin : State = record { store = c.new-store.result; globals = c.new-globals.result; budget = 1000000 } in
    let empty : begin ≡ empty_state = ap₂ (λ cells variables. record { store = cells; globals = variables; budget = step_limit }) c.new-store.ensures c.new-globals.ensures in
    let s : State = record { store = c.evaluate.new.store; globals = c.evaluate.new.globals; budget = c.evaluate.new.budget.left } in
    reported_of_start c.args.program.now c.in_ok-units.units c.functions.result.now c.top.result c.unit.result.now c.in_ok-units.ensures c.functions.ensures c.top.ensures c.unit.ensures
    begin c.new-host.result empty c.new-host.ensures
    c.in_ok-done.done s c.evaluate.new.host c.in_ok-done.ensures.on_slots c.reported.result (c.reported.ensures s refl)
