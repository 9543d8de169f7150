use Rattle.std.proofs.Common.{◌<◌, ◌∙◌, ap, arith, length}
use Rattle.mt_outside.proofs.Doors.{outgoing_accepted, length-incoming}
use Rattle.mt_outside.proofs.memory_door.MemoryDoor.outgoing.Goals as goal

pub returns : goal.returns
returns c =
    let now = c.args.self.now in
    let ks = now.connections.items in
    let inside : c.args.connection < length ks = omega (arith, c.requires, length-incoming ks) in
    c.as_slice.ensures.value ∙ ap (λ k. k.outgoing.items) c.index.ensures ∙ outgoing_accepted now.accepted c.args.connection ks c.index.result.now inside now.awaiting
