-- Which code a reader can find that passes over no limit but the depth: that whose texts and values are small enough, each by itself.
use Rattle.std.specs.Prelude.{◌≡◌, ◌≤◌, List, true}
use Rattle.std.specs.List.{list_all}
use Rattle.mt_syntax.specs.Codes.{IsCode}
use Rattle.mt_syntax.specs.Numbering.{values_of}
use Rattle.mt_syntax.specs.declared.tree.Stmt.{Stmt}
use Rattle.mt_syntax.specs.Texts.{longest_in}
use Rattle.mt_script_words.specs.Values.{is_within}
use Rattle.mt_tree.specs.Limits.{text_limit}

pub record IsReadable (body : List Stmt) : Type 0 where
  pub code : IsCode body
  pub texts : longest_in body ≤ text_limit
  pub values : list_all is_within (values_of body) ≡ true
