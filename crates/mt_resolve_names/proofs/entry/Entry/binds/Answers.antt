use Rattle.std.proofs.Common.{ap, ◌∙◌, rules, tests}
use Rattle.std.specs.Prelude.{is_some}
use Rattle.std.proofs.lemmas.Iterator.{YieldsList-from_slice}
use Rattle.std.proofs.lemmas.Iterator.Search.{any_from_yields_List}
use Rattle.mt_eval_meaning.specs.Scopes.{Slot, find_slot}
use Rattle.mt_resolve_names.proofs.Rows.{binds_reversed}
use Rattle.mt_resolve_names.proofs.entry.Entry.binds.Goals as goal
use Rattle.mt_value.specs.Names.{is_same}

pub returns : goal.returns
returns c =
    let name = c.args.name.now in
    let slots = c.self.inside.slots.items in
    any_from_yields_List (λ (s : Slot). is_same name s.name) _ _ c.any.result c.any.ensures.ran (YieldsList-from_slice slots cc) (λ x b q k. search (rules, tests))
    ∙ binds_reversed name slots
    ∙ ap (λ v. is_some (find_slot name v.1)) c.self.view_is
