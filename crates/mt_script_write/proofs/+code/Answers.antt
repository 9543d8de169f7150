use Rattle.std.proofs.Common.{◌≡◌, ◌++◌, codes, refl, subst, append_assoc}
use Rattle.std.specs.List.{flat_map}
use Rattle.std.specs.Prelude.{OnOk}
use Rattle.mt_json.proofs.Separated.{grown}
use Rattle.mt_script_write.proofs.Nodes.{of_block, of_for, of_function, of_try}
use Rattle.mt_script_write.specs.Written.{decl_written, expr_written, function_written, prop_written, stmt_kind_written, stmt_written}
use Rattle.mt_script_write.proofs.+code.Goals as goal

pub expressions::append_exprs-loop-item-preserved : goal.expressions::append_exprs-loop-item-preserved
expressions::append_exprs-loop-item-preserved t c =
    grown (expr_written c.args.values.now) c.args.items.now c.loop-item.item-index c.item-item.result c.loop-item.later _ _ _ _ c.item-item.is c.loop-item-test.true c.loop-item.invariant c.in_ok-append_separator.ensures.text c.in_ok-append_expr.ensures.text

pub expressions::append_props-loop-item-preserved : goal.expressions::append_props-loop-item-preserved
expressions::append_props-loop-item-preserved t c =
    grown (prop_written c.args.values.now) c.args.items.now c.loop-item.item-index c.item-item.result c.loop-item.later _ _ _ _ c.item-item.is c.loop-item-test.true c.loop-item.invariant c.in_ok-append_separator.ensures.text c.in_ok-append_prop.ensures.text

pub statements::append_decls-loop-item-preserved : goal.statements::append_decls-loop-item-preserved
statements::append_decls-loop-item-preserved t c =
    grown (decl_written c.args.values.now) c.args.items.now c.loop-item.item-index c.item-item.result c.loop-item.later _ _ _ _ c.item-item.is c.loop-item-test.true c.loop-item.invariant c.in_ok-append_separator.ensures.text c.in_ok-append_decl.ensures.text

pub functions::append_function-returns-clause-text : goal.functions::append_function-returns-clause-text
functions::append_function-returns-clause-text t c =
    let whole : c.append_parameters.new.into.items ++ (codes "{" ++ (flat_map (stmt_written c.args.values.now) c.items-2.result.now ++ codes "}")) ≡ c.args.into.now.items ++ function_written c.args.values.now c.args.from.now =
    rw (c.items-2.ensures, c.in_ok-append_parameters.ensures.text, c.items.ensures, c.in_ok-append_own_name.ensures.text, of_function c.args.values.now c.args.from.now) (simp append_assoc) in
    subst (λ s. OnOk c.append_block.result (c.append_block.new.into.items ≡ s)) whole c.append_block.ensures.text

pub statements::append_stmt_kind-returns-in-Block-clause-text : goal.statements::append_stmt_kind-returns-in-Block-clause-text
statements::append_stmt_kind-returns-in-Block-clause-text t c =
    let whole : c.args.into.now.items ++ (codes "{" ++ (flat_map (stmt_written c.args.values.now) c.items-in-Block.result.now ++ codes "}")) ≡ c.args.into.now.items ++ stmt_kind_written c.args.values.now c.args.from.now =
    rw (c.items-in-Block.ensures, c.in-Block.is, of_block c.args.values.now c.in-Block.items) refl in
    subst (λ s. OnOk c.append_block.result (c.append_block.new.into.items ≡ s)) whole c.append_block.ensures.text

pub statements::append_stmt_kind-returns-in_ok-append_catch-in-Try-clause-text : goal.statements::append_stmt_kind-returns-in_ok-append_catch-in-Try-clause-text
statements::append_stmt_kind-returns-in_ok-append_catch-in-Try-clause-text t c =
    let whole : c.append_catch.new.into.items ++ stmt_written c.args.values.now c.get-in-Try-2.result.now ≡ c.args.into.now.items ++ stmt_kind_written c.args.values.now c.args.from.now =
    rw (c.get-in-Try-2.ensures, c.in_ok-append_catch-in-Try.ensures.text, c.in_ok-append_stmt-in-Try.ensures.text, c.get-in-Try.ensures, c.in_ok-append-in-Try.ensures.text, c.in-Try.is, of_try c.args.values.now c.in-Try.body c.in-Try.name c.in-Try.handler) (simp append_assoc) in
    subst (λ s. OnOk c.append_stmt-in-Try-2.result (c.append_stmt-in-Try-2.new.into.items ≡ s)) whole c.append_stmt-in-Try-2.ensures.text

pub statements::append_stmt_kind-returns-in_ok-append_part-in-For-2-clause-text : goal.statements::append_stmt_kind-returns-in_ok-append_part-in-For-2-clause-text
statements::append_stmt_kind-returns-in_ok-append_part-in-For-2-clause-text t c =
    let whole : c.append_part-in-For.new.into.items ++ stmt_written c.args.values.now c.get-in-For.result.now ≡ c.args.into.now.items ++ stmt_kind_written c.args.values.now c.args.from.now =
    rw (c.get-in-For.ensures, c.in_ok-append_part-in-For-2.ensures.text, c.in_ok-append_part-in-For.ensures.text, c.in_ok-append_start-in-For.ensures.text, c.in-For.is, of_for c.args.values.now c.in-For.start c.in-For.test c.in-For.step c.in-For.body) (simp append_assoc) in
    subst (λ s. OnOk c.append_stmt-in-For.result (c.append_stmt-in-For.new.into.items ≡ s)) whole c.append_stmt-in-For.ensures.text
