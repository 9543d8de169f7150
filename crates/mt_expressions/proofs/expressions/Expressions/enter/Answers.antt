use Rattle.std.proofs.Common.{◌≡◌, ◌-◌, arith, Some, slice_get, subst}
use Rattle.std.specs.Option.{option_copied}
use Rattle.mt_eval_meaning.specs.Runs.{Evals}
use Rattle.mt_eval_meaning.specs.Slots.{function_in, function_body, parts}
use Rattle.mt_expressions.proofs.Enters.{no_call, one_call}
use Rattle.mt_expressions.proofs.expressions.Expressions.enter.Goals as goal
use Rattle.mt_tree.specs.Limits.{depth_limit}

pub returns-then-self-eq0 : goal.returns-then-self-eq0
returns-then-self-eq0 g c =
    let l = c.args.self.now.level in
    let is : function_in (slice_get c.args.state.now.store c.args.at) ≡ Some c.in-Some.found = cc (c.in_ok-found.ensures) in
    λ _. no_call l.functions.now g.H.Host.meaning l.depth c.args.at c.args.arguments.now (c.args.state.now, c.args.host.now) l.calls c.in-Some.found is (omega arith)

pub returns : goal.returns
returns g c =
    let l = c.args.self.now.level in
    let is : function_in (slice_get c.args.state.now.store c.args.at) ≡ Some c.in-Some.found = cc (c.in_ok-found.ensures) in
    let code : option_copied c.numbered-function.result ≡ slice_get l.functions.now c.in-Some.found.function = c.numbered-function.ensures in
    let ran = subst (λ o. Evals (function_body l.functions.now (parts l.functions.now g.H.Host.meaning (l.calls - 1) depth_limit) o c.items.result.now c.args.at c.args.arguments.now (c.args.state.now, c.args.host.now)) c.run.result (c.run.new.state, c.run.new.host)) code c.run.ensures in
    let found = subst (λ addresses. Evals (function_body l.functions.now (parts l.functions.now g.H.Host.meaning (l.calls - 1) depth_limit) (slice_get l.functions.now c.in-Some.found.function) addresses c.args.at c.args.arguments.now (c.args.state.now, c.args.host.now)) c.run.result (c.run.new.state, c.run.new.host)) c.items.ensures ran in
    rw (one_call l.functions.now g.H.Host.meaning l.depth c.args.at c.args.arguments.now (c.args.state.now, c.args.host.now) l.calls c.in-Some.found is (omega arith)) found
