use Rattle.std.proofs.Common.{◌≡◌, ◌+◌, ◌*◌, flat_map, take}
use Rattle.mt_syntax.specs.First.{first_of}
use Rattle.mt_stage_scopes.specs.Misused.{broken_at_client_site, broken_at_site, broken_in_tilde}
use Rattle.mt_stage_scopes.proofs.check.Client.+misused.Given as goal

abbrev pub decreases-at_sites : goal.decreases-at_sites
decreases-at_sites l = 8 * l.levels + 2

abbrev pub decreases-at_site : goal.decreases-at_site
decreases-at_site l = 8 * l.levels + 1

abbrev pub decreases-tilde : goal.decreases-tilde
decreases-tilde l = 8 * l.levels + 0

abbrev pub decreases-body : goal.decreases-body
decreases-body l = 8 * l.levels + 6

abbrev pub decreases-at_client_sites : goal.decreases-at_client_sites
decreases-at_client_sites l = 8 * l.levels + 5

abbrev pub decreases-at_client_site : goal.decreases-at_client_site
decreases-at_client_site l = 8 * l.levels + 4

abbrev pub decreases-dollar : goal.decreases-dollar
decreases-dollar l = 8 * l.levels + 3

abbrev pub invariant-at_sites-loop-site : goal.invariant-at_sites-loop-site
invariant-at_sites-loop-site l =
    l.found ≡ first_of (flat_map (broken_at_site l.self.globals.now (broken_in_tilde l.self.globals.now l.self.tildes.now l.levels)) (take l.site-index l.list))

abbrev pub invariant-at_client_sites-loop-site : goal.invariant-at_client_sites-loop-site
invariant-at_client_sites-loop-site l =
    l.found ≡ first_of (flat_map (broken_at_client_site l.self.globals.now (broken_in_tilde l.self.globals.now l.self.tildes.now l.levels) l.dollars) (take l.site-index l.list))
