-- The names that code uses, and its tildes and dollars, with what is around each.
use Rattle.std.specs.Prelude.{ℕ, Bool, List, [], ◌∷◌, ◌++◌, filter, map, Option, None, Some}
use Rattle.mt_tree.specs.declared.place.Place.{Place}
use Rattle.mt_syntax.specs.Fold.{Every, ExprKindLayer, ExprLayer, MarkupChildLayer, MarkupValueLayer, StmtKindLayer, FunctionLayer, Steps, on_stmt}
use Rattle.mt_syntax.specs.declared.tree.Mark.{Mark}
use Rattle.mt_syntax.specs.declared.tree.Stmt.{Stmt}
use Rattle.mt_syntax.specs.declared.tree.ExprKind.TheOpen.{ExprKind-F, MarkupChild-F, MarkupValue-F, StmtKind-F}
use Rattle.mt_stage_declared.specs.Declarations.{Declared, declaration, declarations, here_in}
use Rattle.mt_stage_declared.specs.Parts.{Part, finding_only, found_in, gathering_found, with_declared}
use Rattle.mt_stage_declared.specs.Repeated.{is_kind}
use Rattle.mt_stage_declared.specs.declared.declaration.Declaration.{Declaration}
use Rattle.mt_stage_declared.specs.declared.declaration.DeclarationKind.TheVariants as kind
use Rattle.mt_stage_scopes.specs.Bound.{in_dollar, in_tilde, within}
use Rattle.mt_stage_scopes.specs.declared.around.Around.{Around}
use Rattle.mt_stage_scopes.specs.declared.site.Site.{Site}
use Rattle.mt_stage_scopes.specs.declared.site.Site.TheVariants as site

pub record Found : Type 0 where
  -- of what an expression is: its name, where it is one
  pub name : Option (List ℕ)
  pub sites : Around → List Site

abbrev pub finding : (Around → List Site) → Found
finding sites = record { name = None; sites = sites }

abbrev pub nowhere : Found
nowhere = finding (λ around. [])

abbrev pub joined : Found → Found → Found
joined a b = finding (λ around. a.sites around ++ b.sites around)

abbrev pub Sited : Type 0
Sited = Part Found

abbrev pub sites_in : List Sited → Around → List Site
sites_in ps = (found_in nowhere joined ps).sites

abbrev pub gathering_sites : Steps (Every Sited)
gathering_sites = gathering_found nowhere joined

-- ---- scopes

abbrev pub is_lexical : Declaration → Bool
is_lexical d = is_kind kind.Lexical d.kind

-- a block has its `let` and `const`
abbrev pub block_scope : List Sited → List Declaration
block_scope items = filter is_lexical (here_in (λ p. p.declared) items)

-- a function or service has its parameters, its variables, and what is declared at its top
abbrev pub body_scope : List Mark → List Sited → List Declaration
body_scope parameters body = declarations kind.Parameter parameters ++ here_in (λ p. p.declared) body

abbrev pub catch_scope : Mark → List Declaration
catch_scope name = declaration kind.Catch name ∷ []

-- a named function expression has its own name inside
abbrev pub own_scope : Declared → List Declaration
own_scope function = declarations kind.Function function.names

-- ---- sites

abbrev pub name_of_kind : ExprKindLayer (Every Sited) → Option (List ℕ)
name_of_kind (ExprKind-F.Name cs) = Some cs
name_of_kind _ = None

abbrev pub sites_of_kind : ExprKindLayer (Every Sited) → Around → List Site
sites_of_kind (ExprKind-F.ExprKind::Tilde id) = λ around. site.Tilde id around ∷ []
sites_of_kind (ExprKind-F.ExprKind::Dollar at) = λ around. site.Dollar at around ∷ []
sites_of_kind (ExprKind-F.Fun function) = λ around. function.found.sites (within (own_scope function.declared) around)
sites_of_kind (ExprKind-F.Stray a) = λ around. a.found.sites (in_dollar around)
sites_of_kind x = (gathering_sites.expr_kind x).found.sites

abbrev pub site_of_name : Place → Option (List ℕ) → Around → List Site
site_of_name place None around = []
site_of_name place (Some cs) around = site.Name (record { place = place; name = cs }) around ∷ []

abbrev pub sites_of_expr : ExprLayer (Every Sited) → Around → List Site
sites_of_expr e around = site_of_name e.place e.kind.found.name around ++ e.kind.found.sites around

abbrev pub sites_of_stmt_kind : StmtKindLayer (Every Sited) → Around → List Site
sites_of_stmt_kind (StmtKind-F.Block items) = λ around. sites_in items (within (block_scope items) around)
sites_of_stmt_kind (StmtKind-F.Try body name handler) = λ around. body.found.sites around ++ handler.found.sites (within (catch_scope name) around)
sites_of_stmt_kind x = (gathering_sites.stmt_kind x).found.sites

abbrev pub sites_of_function : FunctionLayer (Every Sited) → Around → List Site
sites_of_function f around = sites_in f.body (within (body_scope f.parameters f.body) around)

abbrev pub sites_of_markup_child : MarkupChildLayer (Every Sited) → Around → List Site
sites_of_markup_child (MarkupChild-F.MarkupChild::Dollar a) = λ around. a.found.sites (in_dollar around)
sites_of_markup_child x = (gathering_sites.markup_child x).found.sites

abbrev pub sites_of_markup_value : MarkupValueLayer (Every Sited) → Around → List Site
sites_of_markup_value (MarkupValue-F.MarkupValue::Dollar a) = λ around. a.found.sites (in_dollar around)
sites_of_markup_value x = (gathering_sites.markup_value x).found.sites

abbrev pub siting : Steps (Every Sited)
siting = record gathering_sites {
  expr_kind = λ x. finding_only (record { name = name_of_kind x; sites = sites_of_kind x });
  markup_child = λ x. finding_only (finding (sites_of_markup_child x));
  markup_value = λ x. finding_only (finding (sites_of_markup_value x));
  expr = λ e. finding_only (finding (sites_of_expr e));
  stmt_kind = λ x. finding_only (finding (sites_of_stmt_kind x));
  function = λ f. finding_only (finding (sites_of_function f));
}

abbrev pub sites : Steps (Every Sited)
sites = with_declared siting

-- in statements with this around them
abbrev pub sites_of_stmts : List Stmt → Around → List Site
sites_of_stmts items = sites_in (map (on_stmt sites) items)

-- in the body of a tilde, whose variables and functions are client globals
abbrev pub sites_of_tilde : List Stmt → Around → List Site
sites_of_tilde body around = sites_of_stmts body (in_tilde (block_scope (map (on_stmt sites) body)) around)
