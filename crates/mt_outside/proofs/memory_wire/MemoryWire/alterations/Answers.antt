use Rattle.std.proofs.Common.{subst}
use Rattle.mt_outside.specs.Arriving.{arriving}
use Rattle.mt_outside.specs.Message.{GivesAll}
use Rattle.mt_outside.specs.Stored.{messages_of}
use Rattle.mt_outside.proofs.Given.{faithful_on}
use Rattle.mt_outside.proofs.Storage.{gives_all}
use Rattle.mt_outside.proofs.memory_wire.MemoryWire.alterations.Goals as goal

pub returns-clause-arriving : goal.returns-clause-arriving
returns-clause-arriving c = gives_all _ c.args.self.now.store.messages.items c.args.self.now.store.gives

pub returns-clause-faithful : goal.returns-clause-faithful
returns-clause-faithful c = λ none.
    subst (λ changes. GivesAll (arriving changes) (messages_of c.args.self.now.store.messages.items)) none (returns-clause-arriving c)

pub returns-clause-every_slot : goal.returns-clause-every_slot
returns-clause-every_slot c = λ none slot. faithful_on slot (messages_of c.args.self.now.store.messages.items) (returns-clause-faithful c none)
