-- What parts of a tree use and declare, joined one after another.
use Rattle.std.proofs.Common.{◌≡◌, List, [], ◌∷◌, ◌++◌, map, flat_map, refl, sym, ap, ◌∙◌, append_assoc}
use Rattle.std.proofs.lemmas.List.{append-nil}
use Rattle.mt_eval_meaning.specs.Free.{Used, none, joined}
use Rattle.mt_syntax.specs.Gathering.{all_of}

joined_none : (u : Used) → joined u none ≡ u
joined_none u = λ i. record { free = append-nil u.free i; here = append-nil u.here i; functions = append-nil u.functions i; variables = append-nil u.variables i }

joined_assoc : (a b c : Used) → joined (joined a b) c ≡ joined a (joined b c)
joined_assoc a b c = λ i. record {
  free = append_assoc a.free b.free c.free i;
  here = append_assoc a.here b.here c.here i;
  functions = append_assoc a.functions b.functions c.functions i;
  variables = append_assoc a.variables b.variables c.variables i;
}

pub all_more : (us : List Used) (u : Used) → all_of none joined (us ++ u ∷ []) ≡ joined (all_of none joined us) u
all_more [] u = joined_none u
all_more (v ∷ us) u = ap (joined v) (all_more us u) ∙ sym (joined_assoc v (all_of none joined us) u)

pub free_of_all : {A : Type 0} (f : A → Used) (xs : List A) → (all_of none joined (map f xs)).free ≡ flat_map (λ x. (f x).free) xs
free_of_all f [] = refl
free_of_all f (x ∷ xs) = ap (λ names. (f x).free ++ names) (free_of_all f xs)
