-- The rules on one name, by the tier of the code that uses it.
use Rattle.std.specs.Prelude.{ℕ, Bool, not, ◌&&◌, ◌||◌, if◌then◌else◌, List, [], ◌∷◌, ◌++◌}
use Rattle.mt_tree.specs.declared.place.Place.{Place}
use Rattle.mt_syntax.specs.declared.broken.Broken.{Broken}
use Rattle.mt_syntax.specs.declared.rule.Rule.{Rule}
use Rattle.mt_syntax.specs.declared.rule.Rule.TheVariants as rule
use Rattle.mt_syntax.specs.declared.tree.Mark.{Mark}
use Rattle.mt_stage_declared.specs.Builtins.{is_builtin_of_both, is_client_builtin, is_server_builtin}
use Rattle.mt_stage_declared.specs.Scopes.{declares}
use Rattle.mt_stage_declared.specs.declared.declaration.Declaration.{Declaration}
use Rattle.mt_stage_scopes.specs.Bound.{is_bound}
use Rattle.mt_stage_scopes.specs.declared.around.Around.{Around}
use Rattle.mt_stage_scopes.specs.declared.around.Tier.{Tier}
use Rattle.mt_stage_scopes.specs.declared.around.Tier.TheVariants as tier

-- bound around in server code, where the file's top names and services are, or a builtin
abbrev pub is_server_name : List ℕ → Around → Bool
is_server_name name around = is_bound name around.server || is_builtin_of_both name || is_server_builtin name

-- bound around inside the tilde, a client global, or a builtin
abbrev pub is_client_name : List ℕ → List Declaration → Around → Bool
is_client_name name globals around = is_bound name around.client || declares name globals || is_builtin_of_both name || is_client_builtin name

-- a client global, or a name that client code binds around the place
abbrev pub is_of_client : List ℕ → List Declaration → Around → Bool
is_of_client name globals around = is_bound name around.client || is_bound name around.outer || declares name globals

abbrev pub broken_where : Bool → Rule → Place → List Broken
broken_where holds r place = if holds then record { place = place; rule = r } ∷ [] else []

-- a binding of the server, and no client name
abbrev pub breaks_s5 : Bool → Bool → Bool
breaks_s5 client bound = not client && bound

-- unknown to both tiers
abbrev pub is_unknown : Bool → Bool → Bool
is_unknown server client = not server && not client

-- unknown to both tiers, or no server name and of client code
abbrev pub breaks_s6 : Bool → Bool → Bool → Bool
breaks_s6 server client hidden = is_unknown server client || (not server && hidden)

-- a builtin of the other tier, and no name of this one
abbrev pub is_foreign : Bool → Bool → Bool
is_foreign builtin own = builtin && not own

abbrev pub broken_in_client : List Declaration → Around → Mark → List Broken
broken_in_client globals around m =
    broken_where (breaks_s5 (is_client_name m.name globals around) (is_bound m.name around.server)) rule.S5 m.place
    ++ (broken_where (is_unknown (is_server_name m.name around) (is_client_name m.name globals around)) rule.S6 m.place
    ++ broken_where (is_foreign (is_server_builtin m.name) (is_client_name m.name globals around)) rule.S8 m.place)

abbrev pub broken_in_server : List Declaration → Around → Mark → List Broken
broken_in_server globals around m =
    broken_where (breaks_s6 (is_server_name m.name around) (is_client_name m.name globals around) (is_of_client m.name globals around)) rule.S6 m.place
    ++ broken_where (is_foreign (is_client_builtin m.name) (is_server_name m.name around)) rule.S7 m.place

abbrev pub broken_by : Tier → List Declaration → Around → Mark → List Broken
broken_by tier.Server = broken_in_server
broken_by tier.Client = broken_in_client

-- by a name in code of the tier that stands there, where client code has these globals
abbrev pub broken_by_name : List Declaration → Around → Mark → List Broken
broken_by_name globals around m = broken_by around.tier globals around m
