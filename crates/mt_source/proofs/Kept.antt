-- What is found while a program is built, within a limit.
use Rattle.std.proofs.Common.{ℕ, ◌≤◌, List, [], map}
use Rattle.std.proofs.Math.Nat.{max-le}
use Rattle.mt_tree.specs.declared.place.Place.{Place}
use Rattle.mt_syntax.specs.Depth.{greatest}
use Rattle.mt_syntax.specs.declared.tree.Expr.{Expr}
use Rattle.mt_syntax.specs.declared.tree.Stmt.{Stmt}
use Rattle.mt_parser_builder.specs.Found.{Found, tilde_made, dollar_made}
use Rattle.mt_parser_builder.specs.declared.tier.Tier.{Tier}
use Rattle.mt_parser_builder.specs.declared.tier.Tier.TheVariants as tier
use Rattle.mt_syntax.specs.Texts.{longest_in_tilde}
use Rattle.mt_source.proofs.Bounds.{least, and_last, both_rows}
use Rattle.mt_source.proofs.Nodes.{in_expr, in_exprs, in_stmts, expr_node}

module _ (limit : ℕ) where
  -- no text of the tildes and dollars that were found is longer
  pub record Kept (s : Found) : Type 0 where
    pub tildes : greatest (map longest_in_tilde s.tildes) ≤ limit
    pub dollars : in_exprs s.dollars ≤ limit

  -- what was made, and what was found up to its end
  abbrev pub Fits : {X : Type 0} → (X → ℕ) → X × Found → Type 0
  Fits size r = (size r.0 ≤ limit) × Kept r.1

  pub nothing_kept : (before : ℕ) → Kept (record { before = before; tildes = []; dollars = [] })
  nothing_kept before = record { tildes = least limit; dollars = least limit }

  pub tilde_fits : (p : Place) (s : Found) (r : List Stmt × Found) → Kept s → Fits in_stmts r → Fits in_expr (tilde_made p s r)
  tilde_fits p s r h f = (
    expr_node limit p _ (least limit),
    record {
      tildes = both_rows longest_in_tilde limit s.tildes _ h.tildes (max-le (max-le f.0 f.1.dollars) f.1.tildes);
      dollars = h.dollars;
    },
  )

  pub dollar_fits : (k : Tier) (p : Place) (r : Expr × Found) → Fits in_expr r → Fits in_expr (dollar_made k p r)
  dollar_fits tier.Client p r f = (expr_node limit p _ (least limit), record { tildes = f.1.tildes; dollars = and_last in_expr limit r.1.dollars r.0 f.1.dollars f.0 })
  dollar_fits tier.Server p r f = (expr_node limit p _ f.0, f.1)
