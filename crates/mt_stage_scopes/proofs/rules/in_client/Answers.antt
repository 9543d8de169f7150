use Rattle.std.proofs.Common.{◌++◌, ap, ◌∙◌, sym}
use Rattle.mt_syntax.specs.First.{earlier_of, first_of}
use Rattle.mt_syntax.proofs.Order.{first_of_lists}
use Rattle.mt_syntax.specs.declared.rule.Rule.TheVariants as rule
use Rattle.mt_stage_declared.specs.Builtins.{is_server_builtin}
use Rattle.mt_stage_scopes.specs.Rules.{breaks_s5, broken_where, is_client_name, is_foreign, is_server_name, is_unknown}
use Rattle.mt_stage_scopes.specs.Bound.{is_bound}
use Rattle.mt_stage_scopes.proofs.rules.in_client.Goals as goal

pub returns : goal.returns
returns c =
    let m = c.args.name.now in
    let around = c.args.around.now in
    let client = is_client_name m.name c.args.globals.now around in
    let own = c.is_client_name-own.ensures in
    let s5 = c.breaks_s5-of_server.ensures ∙ ap (λ b. breaks_s5 b c.bound.result) own ∙ ap (breaks_s5 client) c.bound.ensures in
    let s6 = c.is_unknown-unknown.ensures ∙ ap (λ b. is_unknown b c.is_client_name-own.result) c.is_server_name.ensures ∙ ap (is_unknown (is_server_name m.name around)) own in
    let s8 = c.is_foreign-foreign.ensures ∙ ap (λ b. is_foreign b c.is_client_name-own.result) c.server_builtin.ensures ∙ ap (is_foreign (is_server_builtin m.name)) own in
    let first = c.broken_where-first.ensures ∙ ap (λ b. first_of (broken_where b rule.S5 m.place)) s5 in
    let second = c.broken_where-second.ensures ∙ ap (λ b. first_of (broken_where b rule.S6 m.place)) s6 in
    let third = c.broken_where-third.ensures ∙ ap (λ b. first_of (broken_where b rule.S8 m.place)) s8 in
    let at_s5 = broken_where (breaks_s5 client (is_bound m.name around.server)) rule.S5 m.place in
    let at_s6 = broken_where (is_unknown (is_server_name m.name around) client) rule.S6 m.place in
    let at_s8 = broken_where (is_foreign (is_server_builtin m.name) client) rule.S8 m.place in
    c.earlier-2.ensures ∙ ap (λ r. earlier_of r c.earlier.result) first
    ∙ ap (earlier_of (first_of at_s5)) (c.earlier.ensures ∙ ap (λ r. earlier_of r c.broken_where-third.result) second ∙ ap (earlier_of (first_of at_s6)) third ∙ sym (first_of_lists at_s6 at_s8))
    ∙ sym (first_of_lists at_s5 (at_s6 ++ at_s8))
