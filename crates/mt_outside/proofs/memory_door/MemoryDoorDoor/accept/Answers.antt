use Rattle.std.proofs.Common.{◌<◌, [], Some, ap, arith, length, get_or}
use Rattle.mt_outside.specs.Connections.{incoming_of}
use Rattle.mt_outside.proofs.Doors.{accepted_more}
use Rattle.mt_outside.proofs.memory_door.MemoryDoorDoor.accept.Goals as goal

pub returns-clause-next : goal.returns-clause-next
returns-clause-next c =
    let now = c.args.self.now in
    let inside : now.accepted < length now.connections.items = omega (arith, c.if-self-len.false, c.len.ensures, now.connections.ok.0) in
    ap Some (accepted_more now.accepted now.connections.items inside now.awaiting)

pub returns-clause-ok : goal.returns-clause-ok
returns-clause-ok c =
    let now = c.args.self.now in
    record { incoming = get_or (incoming_of now.connections.items) now.accepted []; grew = returns-clause-next c }
