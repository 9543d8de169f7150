-- One item more, in the extent of a list.
use Rattle.std.proofs.Common.{◌≡◌, ℕ, ◌+◌, ◌<◌, max, List, map, sum, length, get_or, take, refl, sym, ap, ◌∙◌, arith}
use Rattle.std.proofs.lemmas.List.{take_more, map_push}
use Rattle.std.proofs.lemmas.List.Sums.{sum_by_push}
use Rattle.mt_syntax.specs.Depth.{greatest}
use Rattle.mt_json.proofs.Greatest.{with_next}
use Rattle.mt_json.specs.Extent.{capped, HasExtent}
use Rattle.mt_json.specs.declared.extent.Extent.{Extent}

sum_next : {A : Type 0} (f : A → ℕ) (xs : List A) (i : ℕ) (x : A) → x ≡ get_or xs i x → i < length xs → sum (map f (take (i + 1) xs)) ≡ sum (map f (take i xs)) + f x
sum_next f xs i x is lt =
    ap (λ ys. sum (map f ys)) (take_more xs i x lt) ∙ ap sum (map_push f (take i xs) (get_or xs i x)) ∙ sum_by_push (λ n. n) (map f (take i xs)) (f (get_or xs i x)) ∙ ap (λ y. sum (map f (take i xs)) + f y) (sym is)

pub record Adds (a b c : Extent) : Type 0 where
  pub depth : c.depth ≡ max a.depth b.depth
  pub nodes : c.nodes ≡ capped (a.nodes + b.nodes)
  pub bytes : c.bytes ≡ capped (a.bytes + b.bytes)

pub with_item : {A : Type 0} (depth nodes bytes : A → ℕ) (xs : List A) (i : ℕ) (x : A) (a b c : Extent) → x ≡ get_or xs i x → i < length xs
    → HasExtent a (greatest (map depth (take i xs))) (sum (map nodes (take i xs))) (sum (map bytes (take i xs))) → HasExtent b (depth x) (nodes x) (bytes x) → Adds a b c
    → HasExtent c (greatest (map depth (take (i + 1) xs))) (sum (map nodes (take (i + 1) xs))) (sum (map bytes (take (i + 1) xs)))
with_item depth nodes bytes xs i x a b c is lt so_far one adds = record {
  depth-is = omega (arith, adds.depth, so_far.depth-is, one.depth-is, with_next depth xs i x (greatest (map depth (take i xs))) is lt refl);
  nodes-is = omega (arith, adds.nodes, so_far.nodes-is, one.nodes-is, sum_next nodes xs i x is lt);
  bytes-is = omega (arith, adds.bytes, so_far.bytes-is, one.bytes-is, sum_next bytes xs i x is lt);
}
