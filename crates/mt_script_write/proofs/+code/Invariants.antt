use Rattle.std.proofs.Common.{◌≡◌, ◌++◌, map, take, ltb}
use Rattle.std.specs.List.{flat_map}
use Rattle.mt_syntax.specs.DataText.{separated}
use Rattle.mt_script_write.specs.Written.{decl_written, expr_written, prop_written, stmt_written}
use Rattle.mt_script_write.proofs.+code.Given as goal

abbrev pub invariant-expressions::append_exprs-loop-item : goal.invariant-expressions::append_exprs-loop-item
invariant-expressions::append_exprs-loop-item l = (l.later ≡ ltb 0 l.item-index) × (l.into.items ≡ l.fn.into.items ++ separated (map (expr_written l.values) (take l.item-index l.items)))

abbrev pub invariant-expressions::append_props-loop-item : goal.invariant-expressions::append_props-loop-item
invariant-expressions::append_props-loop-item l = (l.later ≡ ltb 0 l.item-index) × (l.into.items ≡ l.fn.into.items ++ separated (map (prop_written l.values) (take l.item-index l.items)))

abbrev pub invariant-statements::append_decls-loop-item : goal.invariant-statements::append_decls-loop-item
invariant-statements::append_decls-loop-item l = (l.later ≡ ltb 0 l.item-index) × (l.into.items ≡ (l.fn.into.items ++ l.word) ++ separated (map (decl_written l.values) (take l.item-index l.items)))

abbrev pub invariant-functions::append_stmts-loop-item : goal.invariant-functions::append_stmts-loop-item
invariant-functions::append_stmts-loop-item l = l.into.items ≡ l.fn.into.items ++ flat_map (stmt_written l.values) (take l.item-index l.items)
