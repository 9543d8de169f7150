use Rattle.std.proofs.Common.{◌≡◌, ◌+◌, drop}
use Rattle.mt_session.specs.First.{place_where}
use Rattle.mt_session.specs.Parties.{has_number}
use Rattle.mt_session.proofs.parties.place_of.Given as goal

abbrev pub invariant-loop-i : goal.invariant-loop-i
invariant-loop-i l = place_where (has_number l.number) l.parties ≡ l.i + place_where (has_number l.number) (drop l.i l.parties)
