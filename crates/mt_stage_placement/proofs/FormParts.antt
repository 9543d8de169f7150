-- The first form that stands where it may not in a list of parts, part by part, in the parts of a `for`, and in an element.
use Rattle.std.proofs.Common.{◌≡◌, ℕ, ◌+◌, ◌<◌, List, [], map, not, Option, None, Some, length, get_or, take, refl, ap}
use Rattle.std.specs.Str.{encode_utf8_all}
use Rattle.mt_tree.specs.Tables.{is_tag}
use Rattle.mt_syntax.specs.First.{earlier_of}
use Rattle.mt_syntax.specs.Joining.{first}
use Rattle.mt_syntax.specs.declared.broken.Broken.{Broken}
use Rattle.mt_syntax.specs.declared.rule.Rule.TheVariants as rule
use Rattle.mt_syntax.specs.Fold.{MarkupLayer, Tree, on_expr, on_for_start, on_markup, on_markup_attribute, on_markup_child, on_stmt, on_stmt_kind}
use Rattle.mt_syntax_laws.proofs.Related.{at_markup, at_stmt_kind}
use Rattle.mt_syntax.specs.declared.tree.Expr.{Expr}
use Rattle.mt_syntax.specs.declared.tree.ForStart.{ForStart}
use Rattle.mt_syntax.specs.declared.tree.Markup.{roll-Markup}
use Rattle.mt_syntax.specs.declared.tree.Stmt.{Stmt}
use Rattle.mt_syntax.specs.declared.tree.StmtKind.{roll-StmtKind}
use Rattle.mt_syntax.specs.declared.tree.ExprKind.TheOpen.{StmtKind-F}
use Rattle.mt_stage_placement.specs.Forms.{Part, below, broken_if, finding_forms, in_each, in_optional, join, names_of, none, repeated_behind}
use Rattle.mt_stage_placement.specs.declared.forms.site.Site.{Site}
use Rattle.mt_stage_placement.proofs.Rows as rows

pub with_next : {T : Type 0} (f : T → Part (Option Broken)) (site : Site) (xs : List T) (i : ℕ) (x : T) (so_far : Option Broken) → x ≡ get_or xs i x → i < length xs
    → so_far ≡ in_each first f (take i xs) site → earlier_of so_far ((f x).found site) ≡ in_each first f (take (i + 1) xs) site
with_next f site = rows.with_next (λ p. p.found site) (none first) (join first) refl (λ a b. refl) f

pub in_for : (start : ForStart) (test step : Option Expr) (body : Stmt) (site : Site)
    → (on_stmt_kind (finding_forms first) (roll-StmtKind (StmtKind-F.For start test step body))).found site
    ≡ earlier_of ((on_for_start (finding_forms first) start).found (below site)) (earlier_of (in_optional first (on_expr (finding_forms first)) test (below site))
    (earlier_of (in_optional first (on_expr (finding_forms first)) step (below site)) ((on_stmt (finding_forms first) body).found (below site))))
in_for start None None body site = ap (λ p. p.found site) (at_stmt_kind (finding_forms first) (StmtKind-F.For start None None body))
in_for start None (Some step) body site = ap (λ p. p.found site) (at_stmt_kind (finding_forms first) (StmtKind-F.For start None (Some step) body))
in_for start (Some test) None body site = ap (λ p. p.found site) (at_stmt_kind (finding_forms first) (StmtKind-F.For start (Some test) None body))
in_for start (Some test) (Some step) body site = ap (λ p. p.found site) (at_stmt_kind (finding_forms first) (StmtKind-F.For start (Some test) (Some step) body))

pub in_markup : (m : MarkupLayer Tree) (site : Site)
    → (on_markup (finding_forms first) (roll-Markup m)).found site
    ≡ earlier_of (broken_if first (not (is_tag (encode_utf8_all m.tag))) rule.S12 site.place) (earlier_of (in_each first (on_markup_attribute (finding_forms first)) m.attributes site)
    (earlier_of (repeated_behind first [] (names_of first (map (on_markup_attribute (finding_forms first)) m.attributes))) (in_each first (on_markup_child (finding_forms first)) m.children site)))
in_markup m site = ap (λ p. p.found site) (at_markup (finding_forms first) m)
