use Rattle.std.proofs.Common.{◌≡◌, ◌<◌, ◌-◌, ◌∙◌, suc, Some, ap, refl, arith, length, take}
use Rattle.mt_outside.specs.Connection.{written_more}
use Rattle.mt_outside.specs.Connections.{connection_of}
use Rattle.mt_outside.proofs.Doors.{awaiting_still, accepted_last, map-set_same}
use Rattle.mt_outside.proofs.memory_door.MemoryDoorDoor.write.Goals as goal

pub invariant_of-self-2 : goal.invariant_of-self-2
invariant_of-self-2 c =
    let now = c.args.self.now in
    let some : 0 < now.accepted = now.some c.requires in
    let size : now.accepted ≡ suc (now.accepted - 1) = omega arith in
    record {
      positive = now.positive;
      within = now.within;
      some = now.some;
      awaiting = awaiting_still now.accepted (now.accepted - 1) now.connections.items c.write.new.self size now.awaiting;
    }

pub returns-in-Ok-clause-ok : goal.returns-in-Ok-clause-ok
returns-in-Ok-clause-ok c =
    let now = c.args.self.now in
    let ks = now.connections.items in
    let stored = c.index_mut-connection.result.now in
    let some : 0 < now.accepted = now.some c.requires in
    let size : now.accepted ≡ suc (now.accepted - 1) = omega arith in
    let inside : now.accepted - 1 < length ks = omega (arith, some, now.within, now.connections.ok.0) in
    let bytes = take c.min-count.result c.args.piece.now in
    let more : connection_of c.write.new.self ≡ written_more bytes (connection_of stored) =
    rw (c.in-Ok.ensures.incoming, c.in-Ok.ensures.given, c.in-Ok.ensures.ended, c.in-Ok.ensures.ok) refl in
    ap Some
    (accepted_last (written_more bytes) now.accepted (now.accepted - 1) ks c.write.new.self stored size inside
    (more ∙ ap (λ k. written_more bytes (connection_of k)) c.index_mut-connection.ensures.value))

pub returns-in-Err-clause-err : goal.returns-in-Err-clause-err
returns-in-Err-clause-err c =
    let now = c.args.self.now in
    let ks = now.connections.items in
    let stored = c.index_mut-connection.result.now in
    let some : 0 < now.accepted = now.some c.requires in
    let inside : now.accepted - 1 < length ks = omega (arith, some, now.within, now.connections.ok.0) in
    let same : connection_of c.write.new.self ≡ connection_of stored =
    rw (c.in-Err.ensures.incoming, c.in-Err.ensures.given, c.in-Err.ensures.ended, c.in-Err.ensures.err) refl in
    ap (λ ts. Some (take now.accepted ts))
    (map-set_same connection_of (now.accepted - 1) ks c.write.new.self stored inside (same ∙ ap connection_of c.index_mut-connection.ensures.value))

pub returns-in-Ok-clause-awaited : goal.returns-in-Ok-clause-awaited
returns-in-Ok-clause-awaited c =
    let now = c.args.self.now in
    let ks = now.connections.items in
    let some : 0 < now.accepted = now.some c.requires in
    let inside : now.accepted - 1 < length ks = omega (arith, some, now.within, now.connections.ok.0) in
    map-set_same (λ k. k.incoming) (now.accepted - 1) ks c.write.new.self c.index_mut-connection.result.now inside
    (c.in-Ok.ensures.incoming ∙ ap (λ k. k.incoming) c.index_mut-connection.ensures.value)

pub returns-in-Err-clause-awaited : goal.returns-in-Err-clause-awaited
returns-in-Err-clause-awaited c =
    let now = c.args.self.now in
    let ks = now.connections.items in
    let some : 0 < now.accepted = now.some c.requires in
    let inside : now.accepted - 1 < length ks = omega (arith, some, now.within, now.connections.ok.0) in
    map-set_same (λ k. k.incoming) (now.accepted - 1) ks c.write.new.self c.index_mut-connection.result.now inside
    (c.in-Err.ensures.incoming ∙ ap (λ k. k.incoming) c.index_mut-connection.ensures.value)
