-- What is around a place: the tier of the code that stands there, and the scopes of each tier.
use Rattle.std.specs.Prelude.{ℕ, Bool, List, [], ◌∷◌, ◌++◌}
use Rattle.std.specs.List.{list_any}
use Rattle.mt_stage_declared.specs.Scopes.{declares}
use Rattle.mt_stage_declared.specs.declared.declaration.Declaration.{Declaration}
use Rattle.mt_stage_scopes.specs.declared.around.Around.{Around}
use Rattle.mt_stage_scopes.specs.declared.around.Tier.{Tier}
use Rattle.mt_stage_scopes.specs.declared.around.Tier.TheVariants as tier

-- scopes, the innermost first
abbrev pub Scopes : Type 0
Scopes = List (List Declaration)

abbrev pub is_bound : List ℕ → Scopes → Bool
is_bound name scopes = list_any (declares name) scopes

-- at the top of the file, which declares these
abbrev pub at_top : List Declaration → Around
at_top ds = record { tier = tier.Server; server = ds ∷ []; client = []; outer = [] }

abbrev pub within_by : Tier → List Declaration → Around → Around
within_by tier.Server ds around = record around { server = ds ∷ around.server }
within_by tier.Client ds around = record around { client = ds ∷ around.client }

-- inside a scope of the code that stands there
abbrev pub within : List Declaration → Around → Around
within ds around = within_by around.tier ds around

-- the expression of a dollar is server code
abbrev pub in_dollar : Around → Around
in_dollar around = record around { tier = tier.Server }

-- The body of a tilde is client code with a scope of its own.
abbrev pub in_tilde : List Declaration → Around → Around
in_tilde ds around = record { tier = tier.Client; server = around.server; client = ds ∷ []; outer = around.client ++ around.outer }
