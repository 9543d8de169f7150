use Rattle.std.proofs.Common.{ap, ◌∙◌, sym}
use Rattle.mt_syntax.specs.First.{earlier_of, first_of}
use Rattle.mt_syntax.proofs.Order.{first_of_lists}
use Rattle.mt_syntax.specs.declared.rule.Rule.TheVariants as rule
use Rattle.mt_stage_declared.specs.Builtins.{is_client_builtin}
use Rattle.mt_stage_scopes.specs.Rules.{breaks_s6, broken_where, is_client_name, is_foreign, is_of_client, is_server_name}
use Rattle.mt_stage_scopes.proofs.rules.in_server.Goals as goal

pub returns : goal.returns
returns c =
    let m = c.args.name.now in
    let globals = c.args.globals.now in
    let around = c.args.around.now in
    let own = c.is_server_name-own.ensures in
    let s6 = c.breaks_s6-unknown.ensures
    ∙ ap (λ b. breaks_s6 b c.is_client_name-other.result c.is_of_client.result) own
    ∙ ap (λ b. breaks_s6 (is_server_name m.name around) b c.is_of_client.result) c.is_client_name-other.ensures
    ∙ ap (breaks_s6 (is_server_name m.name around) (is_client_name m.name globals around)) c.is_of_client.ensures in
    let s7 = c.is_foreign-foreign.ensures ∙ ap (λ b. is_foreign b c.is_server_name-own.result) c.client_builtin.ensures ∙ ap (is_foreign (is_client_builtin m.name)) own in
    let first = c.broken_where-first.ensures ∙ ap (λ b. first_of (broken_where b rule.S6 m.place)) s6 in
    let second = c.broken_where-second.ensures ∙ ap (λ b. first_of (broken_where b rule.S7 m.place)) s7 in
    c.earlier.ensures ∙ ap (λ r. earlier_of r c.broken_where-second.result) first
    ∙ ap (earlier_of (first_of (broken_where (breaks_s6 (is_server_name m.name around) (is_client_name m.name globals around) (is_of_client m.name globals around)) rule.S6 m.place))) second
    ∙ sym (first_of_lists (broken_where (breaks_s6 (is_server_name m.name around) (is_client_name m.name globals around) (is_of_client m.name globals around)) rule.S6 m.place)
    (broken_where (is_foreign (is_client_builtin m.name) (is_server_name m.name around)) rule.S7 m.place))
