-- What a door in memory tells of the connections that it was made with.
use Rattle.std.specs.Prelude.{ℕ, List, [], take, map, slice_get, Option, None, Some}
use Rattle.mt_outside.specs.declared.stored_connection.StoredConnection.{StoredConnection}
use Rattle.mt_outside.specs.Connection.{Connection, fresh}

abbrev pub connection_of : StoredConnection → Connection
connection_of k = record { incoming = k.incoming; given = k.given; ended = k.ended; outgoing = k.outgoing.items }

-- as it is before it is accepted
abbrev pub fresh_of : StoredConnection → Connection
fresh_of k = fresh k.incoming

-- the bytes that come in on each
abbrev pub incoming_of : List StoredConnection → List (List ℕ)
incoming_of ks = map (λ k. k.incoming) ks

-- the connections that were accepted
abbrev pub accepted_of : ℕ → List StoredConnection → List Connection
accepted_of n ks = take n (map connection_of ks)

abbrev pub outgoing_in : Option Connection → List ℕ
outgoing_in None = []
outgoing_in (Some t) = t.outgoing

-- the bytes that went out on a connection, none before it was accepted
abbrev pub outgoing_at : ℕ → List Connection → List ℕ
outgoing_at i ts = outgoing_in (slice_get ts i)
