-- Names, reserved words, numbers and tags by their bytes.
use Rattle.std.specs.Prelude.{ℕ, ◌+◌, ◌-◌, ◌*◌, Bool, List, [], ◌∷◌, nat_le, if◌then◌else◌}
use Rattle.mt_tree.specs.declared.kind.Kind.{Kind}
use Rattle.mt_tree.specs.declared.kind.Kind.TheVariants as k
use Rattle.mt_lexer.specs.declared.mode.Before.{Before}
use Rattle.mt_lexer.specs.declared.mode.Before.TheVariants as before
use Rattle.mt_tree.specs.Limits.{number_limit}
use Rattle.mt_tree.specs.Tables.{is_among}
use Rattle.mt_tree.specs.Words.{constant_words, reserved_words}

abbrev pub word_kind : List ℕ → Kind
word_kind word = if is_among reserved_words word then k.Reserved else k.Name

-- a word that is no reserved word, or stands behind a dot, is a name, and a name is an operand
abbrev pub before_word : Before → List ℕ → Before
before_word before.Dot word = before.Operand
before_word _ word = if is_among reserved_words word then (if is_among constant_words word then before.Operand else before.Other) else before.Operand

-- what a digit makes of the number before it
abbrev pub digit_more : ℕ → ℕ → ℕ
digit_more v x = v * 10 + (x - 48)

-- what the digits spell, behind digits that spell v
abbrev pub number_from : ℕ → List ℕ → ℕ
number_from v [] = v
number_from v (x ∷ xs) = number_from (digit_more v x) xs

abbrev pub number_of : List ℕ → ℕ
number_of digits = number_from 0 digits

abbrev pub is_number : List ℕ → Bool
is_number digits = nat_le (number_of digits) number_limit
