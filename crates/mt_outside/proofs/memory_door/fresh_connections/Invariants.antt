use Rattle.std.proofs.Common.{◌≡◌, ◌++◌, map, reverse}
use Rattle.std.specs.Vec.{vec_len}
use Rattle.mt_outside.specs.Connections.{connection_of, fresh_of, incoming_of}
use Rattle.mt_outside.proofs.memory_door.fresh_connections.Given as goal

abbrev pub invariant-connections : goal.invariant-connections
invariant-connections l = record {
  incoming : incoming_of l.made.items ++ reverse l.incoming.items ≡ l.fn.incoming.items;
  fresh : map connection_of l.made.items ≡ map fresh_of l.made.items;
}

abbrev pub decreases-connections : goal.decreases-connections
decreases-connections l = vec_len l.incoming
