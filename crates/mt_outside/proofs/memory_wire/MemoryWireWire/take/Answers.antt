use Rattle.mt_outside.proofs.Storage.{gives_all}
use Rattle.mt_outside.proofs.memory_wire.MemoryWireWire.take.Goals as goal

pub returns-then-next_fails-clause-arriving : goal.returns-then-next_fails-clause-arriving
returns-then-next_fails-clause-arriving c = gives_all _ c.args.self.now.store.messages.items c.args.self.now.store.gives

pub returns-clause-arriving : goal.returns-clause-arriving
returns-clause-arriving c = gives_all _ c.give.new.self.messages.items c.give.new.self.gives
