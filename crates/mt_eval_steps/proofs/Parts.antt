-- Entries of data, by their parts.
use Rattle.std.proofs.Common.{◌≡◌, List, rules}
use Rattle.mt_eval_steps.specs.Entries.{build_entry}
use Rattle.mt_eval_meaning.specs.Building.{build}
use Rattle.mt_syntax.specs.DataLimits.{nodes_of_data, nodes_of_entry}
use Rattle.mt_tree.specs.declared.data.Data.{the_lemmas}
use Rattle.mt_tree.specs.declared.data.Entry.{Entry}
use Rattle.mt_value.specs.declared.cell.Cell.{Cell}

pub nodes_in_entry : (e : Entry) → nodes_of_entry e ≡ nodes_of_data e.value
nodes_in_entry e = search (rules, the_lemmas)

pub built_entry : (e : Entry) (store : List Cell) → build_entry e store ≡ (record { name = e.name; value = (build e.value store).0 }, (build e.value store).1)
unfolding build build_entry
built_entry e store = search (rules, the_lemmas)
