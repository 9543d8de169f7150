-- What the builder makes of code of a tier may stand in code of that tier.
use Rattle.std.proofs.Common.{◌≡◌, true, ◌&&◌, List, [], ◌∷◌, map, refl, ap, ◌∙◌}
use Rattle.std.proofs.lemmas.Bool.{and_from}
use Rattle.mt_syntax.specs.Fold.{Every, ExprKindLayer, MarkupChildLayer, MarkupValueLayer, on_stmt}
use Rattle.mt_syntax.specs.Gathering.{all_of, of_expr_kind, of_markup_child, of_markup_value}
use Rattle.mt_syntax.specs.Tiers.{Tiers, both, by_tier, expr_kind_tiers, is_client_code, is_server_code, is_server_expr, markup_child_tiers, markup_value_tiers, tiers}
use Rattle.mt_syntax.specs.declared.tree.Stmt.{Stmt}
use Rattle.mt_syntax.specs.declared.tree.ExprKind.TheOpen.{ExprKind-F, MarkupChild-F, MarkupValue-F}
use Rattle.mt_grammar.specs.ParseTree.{ParseTree, ParseTrees}
use Rattle.mt_grammar.specs.Tree.{Expr, Stmts}
use Rattle.mt_parser_builder.specs.declared.tier.Tier.{Tier}
use Rattle.mt_parser_builder.specs.declared.tier.Tier.TheVariants as tier
use Rattle.mt_parser_builder.specs.Found.{Found}
use Rattle.mt_parser_builder.specs.Program.{expr_of, stmts_of}
use Rattle.mt_parser.proofs.Gathering.{Gathering, IsPlain, IsPlainChild, IsPlainValue}
use Rattle.mt_parser.proofs.Gathers.{Rules, body_gathers, one_gathers}
use Rattle.mt_parser.proofs.Joins.{Joins, and_joins}

abbrev anywhere : Tiers
anywhere = tiers true true

abbrev Allowed : Tier → Tiers → Type 0
Allowed tier.Server x = x.server ≡ true
Allowed tier.Client x = x.client ≡ true

abbrev Placed : {R : Type 0} → R → Tier → Found → (Unit {0} → Tiers) → Found → Type 0
Placed r k s x t = Allowed k (x tt)

anywhere_is : (k : Tier) → Allowed k anywhere
anywhere_is tier.Server = refl
anywhere_is tier.Client = refl

both_are : (k : Tier) (x y : Tiers) → Allowed k x → Allowed k y → Allowed k (both x y)
both_are tier.Server x y h g = and_from x.server y.server h g
both_are tier.Client x y h g = and_from x.client y.client h g

in_dollar : (k : Tier) (x : Tiers) → x.server ≡ true → Allowed k (tiers x.server x.server)
in_dollar tier.Server x h = h
in_dollar tier.Client x h = h

tiers_join : Joins anywhere both
tiers_join = record {
  left = λ x. refl;
  right = λ x i. tiers (and_joins.right x.server i) (and_joins.right x.client i);
  along = λ x y z i. tiers (and_joins.along x.server y.server z.server i) (and_joins.along x.client y.client z.client i);
}

plain_kinds : (x : ExprKindLayer (Every Tiers)) → IsPlain x → expr_kind_tiers x ≡ of_expr_kind anywhere both x
plain_kinds (ExprKind-F.ExprKind::Dollar at) plain = absurd plain
plain_kinds (ExprKind-F.Stray a) plain = absurd plain
plain_kinds (ExprKind-F.Val d) plain = absurd plain
plain_kinds _ plain = refl

plain_children : (x : MarkupChildLayer (Every Tiers)) → IsPlainChild x → markup_child_tiers x ≡ of_markup_child anywhere both x
plain_children (MarkupChild-F.MarkupChild::Dollar a) plain = absurd plain
plain_children _ plain = refl

plain_values : (x : MarkupValueLayer (Every Tiers)) → IsPlainValue x → markup_value_tiers x ≡ of_markup_value anywhere both x
plain_values (MarkupValue-F.MarkupValue::Dollar a) plain = absurd plain
plain_values _ plain = refl

abbrev placing : Gathering (Unit {0}) Tiers
placing = record {
  none = anywhere;
  join = both;
  wrap = λ x. x;
  kind = λ v. expr_kind_tiers;
  child = λ v. markup_child_tiers;
  value = λ v. markup_value_tiers;
  joins = tiers_join;
  kinds = λ v x plain. plain_kinds x plain;
  children = λ v x plain. plain_children x plain;
  values = λ v x plain. plain_values x plain;
}

rules : Rules placing (Placed {R = ParseTree}) (Placed {R = ParseTrees})
rules = record {
  nothing = λ k s. anywhere_is k;
  behind = λ rs r k s x t y u h g. both_are k (x tt) (y tt) h g;
  counted = λ z rs k s x t c h. h;
  passed = λ z rs k s x t c h. h;
  at_tilde = λ p i rs k s body t h. anywhere_is k;
  at_dollar = λ p rs s e t h. refl;
  at_stray = λ p rs s x t h. h;
  at_child = λ rs k s x t h. in_dollar k (x tt) h;
  at_value = λ rs k s x t h. in_dollar k (x tt) h;
}

all_server : (body : List Stmt) → is_server_code body ≡ (all_of anywhere both (map (on_stmt by_tier) body)).server
all_server [] = refl
all_server (s ∷ body) = ap (λ b. (on_stmt by_tier s).server && b) (all_server body)

all_client : (body : List Stmt) → is_client_code body ≡ (all_of anywhere both (map (on_stmt by_tier) body)).client
all_client [] = refl
all_client (s ∷ body) = ap (λ b. (on_stmt by_tier s).client && b) (all_client body)

placed : (ss : Stmts) (k : Tier) (s : Found) → Allowed k (all_of anywhere both (map (on_stmt by_tier) (stmts_of k ss s).0))
placed ss k s = body_gathers placing (Placed {R = ParseTree}) (Placed {R = ParseTrees}) rules ss k s

pub server_code : (ss : Stmts) (s : Found) → is_server_code (stmts_of tier.Server ss s).0 ≡ true
server_code ss s = all_server (stmts_of tier.Server ss s).0 ∙ placed ss tier.Server s

pub client_code : (ss : Stmts) (s : Found) → is_client_code (stmts_of tier.Client ss s).0 ≡ true
client_code ss s = all_client (stmts_of tier.Client ss s).0 ∙ placed ss tier.Client s

pub server_expr : (e : Expr) (s : Found) → is_server_expr (expr_of tier.Server e s).0 ≡ true
server_expr e s = one_gathers placing (Placed {R = ParseTree}) (Placed {R = ParseTrees}) rules e tier.Server s
