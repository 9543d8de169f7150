-- Where dollars and values stand: a `Dollar` in client code alone, a `Stray` in server code alone, and a `Val` in no source.
use Rattle.std.specs.Prelude.{Bool, true, false, ◌&&◌, List}
use Rattle.std.specs.List.{list_all}
use Rattle.mt_syntax.specs.Fold.{Every, ExprKindLayer, MarkupChildLayer, MarkupValueLayer, Steps, on_expr, on_stmt}
use Rattle.mt_syntax.specs.Gathering.{gathering}
use Rattle.mt_syntax.specs.declared.tree.Expr.{Expr}
use Rattle.mt_syntax.specs.declared.tree.Stmt.{Stmt}
use Rattle.mt_syntax.specs.declared.tree.ExprKind.TheOpen.{ExprKind-F, MarkupChild-F, MarkupValue-F}

-- whether a part may stand in server code, and whether it may stand in client code
pub record Tiers : Type 0 where
  pub server : Bool
  pub client : Bool

abbrev pub tiers : Bool → Bool → Tiers
tiers server client = record { server = server; client = client }

abbrev pub both : Tiers → Tiers → Tiers
both a b = tiers (a.server && b.server) (a.client && b.client)

abbrev pub placing : Steps (Every Tiers)
placing = gathering (tiers true true) both

-- the expression of a dollar is server code on both tiers
abbrev pub expr_kind_tiers : ExprKindLayer (Every Tiers) → Tiers
expr_kind_tiers (ExprKind-F.ExprKind::Dollar at) = tiers false true
expr_kind_tiers (ExprKind-F.Stray a) = tiers a.server false
expr_kind_tiers (ExprKind-F.Val d) = tiers false false
expr_kind_tiers layer = placing.expr_kind layer

abbrev pub markup_child_tiers : MarkupChildLayer (Every Tiers) → Tiers
markup_child_tiers (MarkupChild-F.MarkupChild::Dollar a) = tiers a.server a.server
markup_child_tiers layer = placing.markup_child layer

abbrev pub markup_value_tiers : MarkupValueLayer (Every Tiers) → Tiers
markup_value_tiers (MarkupValue-F.MarkupValue::Dollar a) = tiers a.server a.server
markup_value_tiers layer = placing.markup_value layer

abbrev pub by_tier : Steps (Every Tiers)
by_tier = record placing { expr_kind = expr_kind_tiers; markup_child = markup_child_tiers; markup_value = markup_value_tiers }

abbrev pub is_server_expr : Expr → Bool
is_server_expr e = (on_expr by_tier e).server

abbrev pub is_server_code : List Stmt → Bool
is_server_code = list_all (λ s. (on_stmt by_tier s).server)

abbrev pub is_client_code : List Stmt → Bool
is_client_code = list_all (λ s. (on_stmt by_tier s).client)
