-- What stands around code: its tier, the services of its file, and the tildes.
use Rattle.std.specs.Prelude.{ℕ, List}
use Rattle.mt_resolve_names.specs.declared.builtins.Tier.{Tier}
use Rattle.mt_resolve_names.specs.declared.builtins.Tier.TheVariants as tier
use Rattle.mt_eval_meaning.specs.Names as names
use Rattle.mt_syntax.specs.declared.program.Tilde.{Tilde}

abbrev pub tier_of : Tier → names.Tier
tier_of tier.Server = names.server
tier_of tier.Client = names.client

pub record Around : Type 0 where
  pub tier : names.Tier
  -- the names of the services
  pub services : List (List ℕ)
  pub tildes : List Tilde

-- the surroundings of the definition, in which a function keeps its whole environment
abbrev pub surroundings_of : Around → names.Surroundings
surroundings_of a = record { tier = a.tier; services = a.services; tildes = a.tildes; kept = names.whole }
