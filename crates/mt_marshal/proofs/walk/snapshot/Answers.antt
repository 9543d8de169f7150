use Rattle.mt_marshal.proofs.Measures.{fits_hold, limits_hold}
use Rattle.mt_marshal.proofs.walk.snapshot.Goals as goal

pub returns-clause-limits : goal.returns-clause-limits
returns-clause-limits c = limits_hold c.args.store.now c.args.values.now c.new-path.result.items c.items.result c.items.new.counts c.new-path.ensures.items c.items.ensures.meant c.items.ensures.characters

pub returns-clause-fits : goal.returns-clause-fits
returns-clause-fits c = fits_hold c.args.store.now c.args.values.now c.new-path.result.items c.items.result c.items.new.counts c.new-path.ensures.items c.items.ensures.meant
