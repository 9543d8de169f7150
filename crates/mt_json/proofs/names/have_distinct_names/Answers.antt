use Rattle.mt_json.proofs.Distinct.{distinct_next}
use Rattle.mt_json.proofs.names.have_distinct_names.Goals as goal

pub loop-entry-preserved : goal.loop-entry-preserved
loop-entry-preserved c =
    distinct_next c.args.entries.now c.loop-entry.entry-index c.entry-item.result c.loop-entry.distinct c.in-Ok.new c.loop-entry.names.keys c.insert.new.self.keys c.as_str.result
    c.entry-item.is c.loop-entry-test.true c.as_str.ensures.scalars c.as_str.ensures.bytes c.loop-entry.invariant c.in-Ok.ensures.added c.in-Ok.ensures.updates.0
