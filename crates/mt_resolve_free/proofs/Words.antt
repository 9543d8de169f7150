-- Tables that pass the test of equality are the same.
use Rattle.std.proofs.Common.{◌≡◌, List, true, nat_eq}
use Rattle.std.proofs.lemmas.Slice.Eq.{bytes_eq-Decides}
use Rattle.std.specs.Cmp.Lexicographic.{pointwise, pointwise_decides}
use Rattle.mt_eval_meaning.specs.Free.{Names}

pub same_tables : (xs ys : List Names) → pointwise (pointwise (pointwise nat_eq)) xs ys ≡ true → xs ≡ ys
same_tables xs ys h = (pointwise_decides (pointwise_decides bytes_eq-Decides) xs ys).0 h
