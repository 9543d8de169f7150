use Rattle.mt_resolve_names.proofs.Rows.{lexicals_step}
use Rattle.mt_resolve_names.proofs.entry.Entry.bind_lexicals.Goals as goal

pub loop-left-preserved : goal.loop-left-preserved
loop-left-preserved c =
    lexicals_step c.args.self.now.0 _ c.loop-left.left.now c.item-item.result c.loop-left.self c.bind_statement.new.self c.in-len1-up.len_at_least c.item-item.is c.loop-left.invariant c.in_ok-bind_statement.ensures
