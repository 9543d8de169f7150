use Rattle.std.proofs.Common.{◌≡◌, map, drop}
use Rattle.mt_syntax.specs.Fold.{on_decl, on_expr, on_markup_attribute, on_markup_child, on_prop, on_stmt}
use Rattle.mt_script_read.specs.Walking.{all_walks, walking}
use Rattle.mt_script_read.proofs.walk.+walk.Given as goal

abbrev pub invariant-exprs-loop-item : goal.invariant-exprs-loop-item
invariant-exprs-loop-item l = all_walks (map (on_expr walking) (drop l.item-index l.items)) l.levels l.met.items ≡ all_walks (map (on_expr walking) l.items) l.levels l.fn.met.items

abbrev pub invariant-props-loop-item : goal.invariant-props-loop-item
invariant-props-loop-item l = all_walks (map (on_prop walking) (drop l.item-index l.items)) l.levels l.met.items ≡ all_walks (map (on_prop walking) l.items) l.levels l.fn.met.items

abbrev pub invariant-attributes-loop-item : goal.invariant-attributes-loop-item
invariant-attributes-loop-item l = all_walks (map (on_markup_attribute walking) (drop l.item-index l.items)) l.levels l.met.items ≡ all_walks (map (on_markup_attribute walking) l.items) l.levels l.fn.met.items

abbrev pub invariant-children-loop-item : goal.invariant-children-loop-item
invariant-children-loop-item l = all_walks (map (on_markup_child walking) (drop l.item-index l.items)) l.levels l.met.items ≡ all_walks (map (on_markup_child walking) l.items) l.levels l.fn.met.items

abbrev pub invariant-decls-loop-item : goal.invariant-decls-loop-item
invariant-decls-loop-item l = all_walks (map (on_decl walking) (drop l.item-index l.items)) l.levels l.met.items ≡ all_walks (map (on_decl walking) l.items) l.levels l.fn.met.items

abbrev pub invariant-stmts-loop-item : goal.invariant-stmts-loop-item
invariant-stmts-loop-item l = all_walks (map (on_stmt walking) (drop l.item-index l.items)) l.levels l.met.items ≡ all_walks (map (on_stmt walking) l.items) l.levels l.fn.met.items
