use Rattle.std.proofs.Common.{◌≡◌, ◌++◌, map, take}
use Rattle.mt_syntax.specs.Fold.{on_expr, on_prop, on_markup_attribute, on_markup_child, on_decl, on_stmt}
use Rattle.mt_stage_scopes.specs.Sites.{sites, sites_in}
use Rattle.mt_stage_scopes.proofs.sites.+sites.Given as goal

abbrev pub invariant-expressions::exprs-loop-item : goal.invariant-expressions::exprs-loop-item
invariant-expressions::exprs-loop-item l = l.into.items ≡ l.fn.into.items ++ sites_in (map (on_expr sites) (take l.item-index l.item-items)) l.around

abbrev pub invariant-expressions::props-loop-item : goal.invariant-expressions::props-loop-item
invariant-expressions::props-loop-item l = l.into.items ≡ l.fn.into.items ++ sites_in (map (on_prop sites) (take l.item-index l.item-items)) l.around

abbrev pub invariant-markup::attributes-loop-item : goal.invariant-markup::attributes-loop-item
invariant-markup::attributes-loop-item l = l.into.items ≡ l.fn.into.items ++ sites_in (map (on_markup_attribute sites) (take l.item-index l.item-items)) l.around

abbrev pub invariant-markup::children-loop-item : goal.invariant-markup::children-loop-item
invariant-markup::children-loop-item l = l.into.items ≡ l.fn.into.items ++ sites_in (map (on_markup_child sites) (take l.item-index l.item-items)) l.around

abbrev pub invariant-statements::decls-loop-item : goal.invariant-statements::decls-loop-item
invariant-statements::decls-loop-item l = l.into.items ≡ l.fn.into.items ++ sites_in (map (on_decl sites) (take l.item-index l.item-items)) l.around

abbrev pub invariant-statements::stmts-loop-item : goal.invariant-statements::stmts-loop-item
invariant-statements::stmts-loop-item l = l.into.items ≡ l.fn.into.items ++ sites_in (map (on_stmt sites) (take l.item-index l.item-items)) l.around
