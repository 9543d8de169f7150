use Rattle.std.proofs.Common.{length, ap, arith}
use Rattle.mt_outside.proofs.Storage.{length-messages}
use Rattle.mt_outside.proofs.memory_wire.MemoryWire.replace.Goals as goal

pub invariant_of-self : goal.invariant_of-self
invariant_of-self c = record {
  positive = c.args.self.now.positive;
  idle = λ none.
      let new = c.replace.new.self.messages in
      let old = c.args.self.now.store.messages in
      omega (arith, ap length c.replace.ensures.messages, length-messages new.items, length-messages old.items, new.ok.0, old.ok.0, c.args.self.now.idle none);
}
