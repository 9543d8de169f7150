-- What bytes must be to be the text of data within the limits, as far as their encoding and the number of their tokens tell.
use Rattle.std.specs.Prelude.{ℕ, ◌+◌, ◌*◌, ◌≤◌, List, length, IsUtf8}
use Rattle.json.specs.Lex.{tokens}
use Rattle.mt_tree.specs.Limits.{data_node_limit}

-- eight for each node, and the brackets of a list
abbrev pub data_token_limit : ℕ
data_token_limit = 8 * data_node_limit + 2

abbrev pub MayBeData : List ℕ → Type 0
MayBeData bytes = IsUtf8 bytes × (length (tokens bytes) ≤ data_token_limit)
