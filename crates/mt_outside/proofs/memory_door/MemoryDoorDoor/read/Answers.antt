use Rattle.std.proofs.Common.{◌≡◌, ◌<◌, ◌-◌, ◌∙◌, suc, Some, ap, subst, refl, arith, length, min}
use Rattle.mt_outside.specs.Connection.{read_more}
use Rattle.mt_outside.specs.Connections.{connection_of}
use Rattle.mt_outside.specs.Files.{ReadsPart}
use Rattle.mt_outside.specs.Message.{is_end}
use Rattle.mt_outside.proofs.Doors.{awaiting_still, accepted_last, of_accepted, map-set_same}
use Rattle.mt_outside.proofs.memory_door.MemoryDoorDoor.read.Goals as goal

pub invariant_of-self-2 : goal.invariant_of-self-2
invariant_of-self-2 c =
    let now = c.args.self.now in
    let some : 0 < now.accepted = now.some c.requires in
    let size : now.accepted ≡ suc (now.accepted - 1) = omega arith in
    record {
      positive = now.positive;
      within = now.within;
      some = now.some;
      awaiting = awaiting_still now.accepted (now.accepted - 1) now.connections.items c.read.new.self size now.awaiting;
    }

pub returns-clause-bytes : goal.returns-clause-bytes
returns-clause-bytes c =
    let now = c.args.self.now in
    let ks = now.connections.items in
    let some : 0 < now.accepted = now.some c.requires in
    let size : now.accepted ≡ suc (now.accepted - 1) = omega arith in
    let inside : now.accepted - 1 < length ks = omega (arith, some, now.within, now.connections.ok.0) in
    of_accepted (λ t. ReadsPart t.incoming t.given c.read.result c.read.new.into) now.accepted (now.accepted - 1) ks c.index_mut-connection.result.now size inside
    (subst (λ k. ReadsPart k.incoming k.given c.read.result c.read.new.into) c.index_mut-connection.ensures.value c.read.ensures.part)

pub returns-clause-count : goal.returns-clause-count
returns-clause-count c =
    let now = c.args.self.now in
    let ks = now.connections.items in
    let some : 0 < now.accepted = now.some c.requires in
    let size : now.accepted ≡ suc (now.accepted - 1) = omega arith in
    let inside : now.accepted - 1 < length ks = omega (arith, some, now.within, now.connections.ok.0) in
    of_accepted (λ t. c.read.result ≡ min (min now.piece (length c.read.new.into)) (length t.incoming - t.given)) now.accepted (now.accepted - 1) ks c.index_mut-connection.result.now
    size inside
    (subst (λ k. c.read.result ≡ min (min now.piece (length c.read.new.into)) (length k.incoming - k.given)) c.index_mut-connection.ensures.value c.read.ensures.count)

pub returns-clause-ok : goal.returns-clause-ok
returns-clause-ok c =
    let now = c.args.self.now in
    let ks = now.connections.items in
    let stored = c.index_mut-connection.result.now in
    let some : 0 < now.accepted = now.some c.requires in
    let size : now.accepted ≡ suc (now.accepted - 1) = omega arith in
    let inside : now.accepted - 1 < length ks = omega (arith, some, now.within, now.connections.ok.0) in
    let ended = is_end c.read.result c.read.new.into in
    let more : connection_of c.read.new.self ≡ read_more c.read.result ended (connection_of stored) =
    rw (c.read.ensures.incoming, c.read.ensures.given, c.read.ensures.ended, c.read.ensures.outgoing) refl in
    ap Some
    (accepted_last (read_more c.read.result ended) now.accepted (now.accepted - 1) ks c.read.new.self stored size inside
    (more ∙ ap (λ k. read_more c.read.result ended (connection_of k)) c.index_mut-connection.ensures.value))

pub returns-clause-awaited : goal.returns-clause-awaited
returns-clause-awaited c =
    let now = c.args.self.now in
    let ks = now.connections.items in
    let some : 0 < now.accepted = now.some c.requires in
    let inside : now.accepted - 1 < length ks = omega (arith, some, now.within, now.connections.ok.0) in
    map-set_same (λ k. k.incoming) (now.accepted - 1) ks c.read.new.self c.index_mut-connection.result.now inside
    (c.read.ensures.incoming ∙ ap (λ k. k.incoming) c.index_mut-connection.ensures.value)
