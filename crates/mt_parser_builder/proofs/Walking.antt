-- Values made one behind the other, as a loop does.
use Rattle.std.proofs.Common.{◌≡◌, [], ◌∷◌, ◌++◌, Option, None, Some, refl, ap, append_assoc}
use Rattle.mt_parser_builder.specs.declared.value.Value.{Value}
use Rattle.mt_parser_builder.specs.Answer.{on_both}
use Rattle.mt_parser_builder.specs.Found.{Found}
use Rattle.mt_parser_builder.specs.Parts.{Values}

-- what was made before, and what is still made
abbrev pub joined : Values → Option (Values × Found) → Option (Values × Found)
joined front made = on_both made (λ vs u. Some (front ++ vs, u))

pub regroup : (front : Values) (v : Value) (made : Option (Values × Found)) → joined front (on_both made (λ vs u. Some (v ∷ vs, u))) ≡ joined (front ++ v ∷ []) made
regroup front v None = refl
regroup front v (Some r) = ap (λ (vs : Values). Some (vs, r.1)) (simp append_assoc)
