-- Which of several broken places is the first: the earliest and, at that place, the one whose rule has the lowest number.
use Rattle.std.specs.Prelude.{ℕ, Bool, ◌&&◌, ◌||◌, ◌==◌, cond, nat_lt, List, [], ◌∷◌, Option, None, Some}
use Rattle.mt_tree.specs.declared.place.Place.{Place}
use Rattle.mt_syntax.specs.declared.rule.Rule.{Rule}
use Rattle.mt_syntax.specs.declared.rule.Rule.TheVariants as rule
use Rattle.mt_syntax.specs.declared.broken.Broken.{Broken}

abbrev pub number_of : Rule → ℕ
number_of rule.S1 = 1
number_of rule.S2 = 2
number_of rule.S3 = 3
number_of rule.S4 = 4
number_of rule.S5 = 5
number_of rule.S6 = 6
number_of rule.S7 = 7
number_of rule.S8 = 8
number_of rule.S9 = 9
number_of rule.S10 = 10
number_of rule.S11 = 11
number_of rule.S12 = 12
number_of rule.S13 = 13

-- places in the order of the text
abbrev pub stands_before : Place → Place → Bool
stands_before a b = nat_lt a.line b.line || ((a.line == b.line) && nat_lt a.column b.column)

abbrev pub is_same_place : Place → Place → Bool
is_same_place a b = (a.line == b.line) && (a.column == b.column)

abbrev pub comes_before : Broken → Broken → Bool
comes_before a b = stands_before a.place b.place || (is_same_place a.place b.place && nat_lt (number_of a.rule) (number_of b.rule))

abbrev pub earlier : Broken → Broken → Broken
earlier a b = cond (comes_before b a) b a

-- the same where nothing may be broken
abbrev pub earlier_of : Option Broken → Option Broken → Option Broken
earlier_of None b = b
earlier_of (Some a) None = Some a
earlier_of (Some a) (Some b) = Some (earlier a b)

-- the first of a list
abbrev pub first_of : List Broken → Option Broken
first_of [] = None
first_of (b ∷ bs) = earlier_of (Some b) (first_of bs)
