use Rattle.std.proofs.Common.{◌≡◌, drop}
use Rattle.mt_session.specs.First.{first_where}
use Rattle.mt_session.specs.Parties.{has_number}
use Rattle.mt_session.proofs.parties.party_of.Given as goal

abbrev pub invariant-loop-party : goal.invariant-loop-party
invariant-loop-party l =
    first_where (has_number l.number) l.parties ≡ first_where (has_number l.number) (drop l.party-index l.parties)
