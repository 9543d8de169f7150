-- The elements that accepted programs make.
use Rattle.std.specs.Prelude.{ℕ, zero, suc, Bool, true, false, not, ◌&&◌, List, [], map}
use Rattle.std.specs.List.{list_all}
use Rattle.std.specs.Str.{encode_utf8_all}
use Rattle.mt_stage.specs.Made.{are_new}
use Rattle.mt_tree.specs.Tables.{is_attribute, is_tag, is_void_tag}

abbrev pub is_some_number : ℕ → Bool
is_some_number zero = false
is_some_number (suc n) = true

-- a tag of the table, distinct attributes of the table, and no children where the tag is void
abbrev pub is_element : List ℕ → List (List ℕ) → ℕ → Bool
is_element tag names children =
    is_tag (encode_utf8_all tag) && (list_all is_attribute (map encode_utf8_all names) && (are_new [] (map encode_utf8_all names) && not (is_void_tag (encode_utf8_all tag) && is_some_number children)))
