use Rattle.std.proofs.Common.{◌≡◌, ◌++◌, ◌∷◌, [], subst, append_assoc}
use Rattle.std.specs.Prelude.{OnOk}
use Rattle.mt_syntax.specs.DataText.{data_text, entry_text}
use Rattle.mt_json.proofs.Entries.{text_of_entry}
use Rattle.mt_json.proofs.Separated.{grown}
use Rattle.mt_json.proofs.data.+write.Goals as goal

pub append_entries-loop-entry-preserved : goal.append_entries-loop-entry-preserved
append_entries-loop-entry-preserved t c = grown entry_text c.args.entries.now c.loop-entry.entry-index c.entry-item.result c.loop-entry.later _ _ _ _ c.entry-item.is c.loop-entry-test.true c.loop-entry.invariant c.in_ok-append_separator.ensures.text c.in_ok-append_entry.ensures.text

pub append_items-loop-item-preserved : goal.append_items-loop-item-preserved
append_items-loop-item-preserved t c = grown data_text c.args.items.now c.loop-item.item-index c.item-item.result c.loop-item.later _ _ _ _ c.item-item.is c.loop-item-test.true c.loop-item.invariant c.in_ok-append_separator.ensures.text c.in_ok-data_text.ensures.text

pub append_entry-returns-clause-text : goal.append_entry-returns-clause-text
append_entry-returns-clause-text t c =
    let whole : c.data_text.new.into.items ++ 93 ∷ [] ≡ c.args.into.now.items ++ entry_text c.args.entry.now = rw (c.in_ok-data_text.ensures.text, c.in_ok-append-2.ensures.text, c.in_ok-json_text.ensures.text, c.in_ok-append.ensures.text, text_of_entry c.args.entry.now) (simp append_assoc) in
    subst (λ s. OnOk c.append-3.result (c.append-3.new.into.items ≡ s)) whole c.append-3.ensures.text
