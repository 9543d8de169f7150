-- The length of a text, and its parts.
use Rattle.std.proofs.Common.{◌≡◌, ◌≤◌, ℕ, suc, List, length, Some, subst, arith}
use Rattle.std.specs.Str.{chars, IsUtf8}
use Rattle.mt_tree.specs.Text.{units_of}
use Rattle.mt_tree.proofs.Texts.{units_of-chars_le}
use Rattle.mt_tree.specs.Units.{cut, StandsBetween}
use Rattle.mt_tree.proofs.Cuts.{cut_is_between}

pub no_more_than_bytes : (bs text : List ℕ) → IsUtf8 bs → chars bs ≡ text → units_of text ≤ length bs
no_more_than_bytes bs text u is = subst (λ t. units_of t ≤ length bs) is (units_of-chars_le bs u)

-- the part between a place and the next one has one unit
pub one_unit : (text part : List ℕ) (n : ℕ) → cut text n (suc n) ≡ Some part → units_of part ≡ 1
one_unit text part n is = by ((cut_is_between text n (suc n) part).0 is)
  where
    by : StandsBetween text n (suc n) part → units_of part ≡ 1
    by (front, back, whole, at, to) = omega arith
