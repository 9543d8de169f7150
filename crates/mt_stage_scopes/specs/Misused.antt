-- The places at which a program uses a name that it may not use there.
use Rattle.std.specs.Prelude.{ℕ, zero, suc, Bool, not, List, [], filter, flat_map, length, slice_get, Option, None, Some}
use Rattle.mt_syntax.specs.declared.broken.Broken.{Broken}
use Rattle.mt_syntax.specs.Fold.{on_expr}
use Rattle.mt_syntax.specs.declared.program.Program.{Program}
use Rattle.mt_syntax.specs.declared.program.Tilde.{Tilde}
use Rattle.mt_syntax.specs.declared.tree.Expr.{Expr}
use Rattle.mt_stage_declared.specs.Declarations.{declared_in_file, declared_in_tilde}
use Rattle.mt_stage_declared.specs.declared.declaration.Declaration.{Declaration}
use Rattle.mt_stage_scopes.specs.Bound.{at_top, in_dollar}
use Rattle.mt_stage_scopes.specs.Rules.{broken_by_name}
use Rattle.mt_stage_scopes.specs.Sites.{is_lexical, sites, sites_of_stmts, sites_of_tilde}
use Rattle.mt_stage_scopes.specs.declared.around.Around.{Around}
use Rattle.mt_stage_scopes.specs.declared.site.Site.{Site}
use Rattle.mt_stage_scopes.specs.declared.site.Site.TheVariants as site

-- what a tilde declares for all tildes: its variables at any depth outside inner functions, and its top functions
abbrev pub is_global : Declaration → Bool
is_global d = not (is_lexical d)

abbrev pub globals_of_tilde : Tilde → List Declaration
globals_of_tilde t = filter is_global (declared_in_tilde t.body)

abbrev pub client_globals : List Tilde → List Declaration
client_globals = flat_map globals_of_tilde

-- ---- one site, where what stands in a tilde is given

module _ (globals : List Declaration) (broken_in : ℕ → Around → List Broken) where
  -- A dollar stands directly in a tilde alone.
  abbrev pub broken_at_site : Site → List Broken
  broken_at_site (site.Name m around) = broken_by_name globals around m
  broken_at_site (site.Tilde id around) = broken_in id around
  broken_at_site (site.Dollar at around) = []

  abbrev pub broken_in_dollar : Option Expr → Around → List Broken
  broken_in_dollar None around = []
  broken_in_dollar (Some e) around = flat_map broken_at_site ((on_expr sites e).found.sites (in_dollar around))

  -- directly in a tilde that has these dollars
  abbrev pub broken_at_client_site : List Expr → Site → List Broken
  broken_at_client_site dollars (site.Dollar at around) = broken_in_dollar (slice_get dollars at) around
  broken_at_client_site dollars s = broken_at_site s

  abbrev pub broken_in_body : Option Tilde → Around → List Broken
  broken_in_body None around = []
  broken_in_body (Some t) around = flat_map (broken_at_client_site t.dollars) (sites_of_tilde t.body around)

-- tildes that nest in one another at most so deep
abbrev pub broken_in_tilde : List Declaration → List Tilde → ℕ → ℕ → Around → List Broken
broken_in_tilde globals tildes zero id around = []
broken_in_tilde globals tildes (suc n) id around = broken_in_body globals (broken_in_tilde globals tildes n) (slice_get tildes id) around

-- in a program: no nest is deeper than all its tildes
abbrev pub misused_names : Program → List Broken
misused_names p =
    flat_map (broken_at_site (client_globals p.tildes) (broken_in_tilde (client_globals p.tildes) p.tildes (suc (length p.tildes))))
    (sites_of_stmts p.items (at_top (declared_in_file p.items)))
