-- The text of an entry, by its parts.
use Rattle.std.proofs.Common.{◌≡◌, [], ◌∷◌, ◌++◌, rules}
use Rattle.mt_tree.specs.declared.data.Data.{the_lemmas}
use Rattle.mt_tree.specs.declared.data.Entry.{Entry}
use Rattle.mt_syntax.specs.DataText.{json_text, data_text, entry_text}

pub text_of_entry : (e : Entry) → entry_text e ≡ 91 ∷ (json_text e.name ++ (44 ∷ (data_text e.value ++ 93 ∷ [])))
text_of_entry e = search (rules, the_lemmas)
