-- How names are spelled in a source, by their characters.
use Rattle.std.specs.Prelude.{ℕ, Bool, false, not, ◌&&◌, ◌||◌, ◌==◌, nat_le, List, [], ◌∷◌}
use Rattle.std.specs.List.{list_all}
use Rattle.std.specs.Str.{all_scalars}
use Rattle.unicode_ident.specs.Ident.{is_xid_start, is_xid_continue}
use Rattle.mt_tree.specs.Words.{is_reserved}

abbrev pub starts_name : ℕ → Bool
starts_name c = (c == 95) || is_xid_start c

-- `_` or a character that may start an identifier by Unicode's annex 31, then characters that may continue one
abbrev pub is_word : List ℕ → Bool
is_word [] = false
is_word (c ∷ cs) = starts_name c && list_all is_xid_continue cs

-- what names a variable, a function, a parameter or a service
unfoldable pub is_name : List ℕ → Bool
is_name cs = all_scalars cs && is_word cs && not (is_reserved cs)

abbrev pub is_between : ℕ → ℕ → ℕ → Bool
is_between low high c = nat_le low c && nat_le c high

abbrev pub is_letter : ℕ → Bool
is_letter c = is_between 65 90 c || is_between 97 122 c

abbrev pub is_letter_or_digit : ℕ → Bool
is_letter_or_digit c = is_letter c || is_between 48 57 c

-- an ASCII letter, then letters, digits and dashes
unfoldable pub is_tag_name : List ℕ → Bool
is_tag_name [] = false
is_tag_name (c ∷ cs) = is_letter c && list_all (λ d. is_letter_or_digit d || (d == 45)) cs

-- an ASCII letter, then letters, digits, dashes, underscores and colons
unfoldable pub is_attribute_name : List ℕ → Bool
is_attribute_name [] = false
is_attribute_name (c ∷ cs) = is_letter c && list_all (λ d. is_letter_or_digit d || (d == 45) || (d == 95) || (d == 58)) cs
