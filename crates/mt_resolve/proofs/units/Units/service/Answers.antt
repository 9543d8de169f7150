use Rattle.std.proofs.Common.{◌≡◌, ℕ, Bool, true, false, cond, List, [], ◌∷◌, Option, None, Some, is_some, IfSome, refl, sym, ap, ◌∙◌, subst, arith}
use Rattle.std.proofs.lemmas.Bool.Decides.{nat_tests}
use Rattle.std.specs.Prelude.{nat_eq}
use Rattle.mt_value.specs.Names.{is_same}
use Rattle.mt_resolve.specs.Services.{Contents, captured_by, function_of}
use Rattle.mt_resolve.specs.declared.service.Service.{Service}
use Rattle.mt_resolve.proofs.units.Units.service.Goals as goal

first_or_later : (b : Bool) (places : List ℕ) (later : Option (List ℕ)) → is_some later ≡ true → is_some (cond {A = Option (List ℕ)} b (Some places) later) ≡ true
first_or_later true places later h = refl
first_or_later false places later h = h

itself : (n : ℕ) → nat_eq n n ≡ true
itself n = grind (arith, nat_tests)

here : (n : ℕ) (places : List ℕ) (later : Option (List ℕ)) → is_some (cond {A = Option (List ℕ)} (nat_eq n n) (Some places) later) ≡ true
here n places later = subst (λ b. is_some (cond {A = Option (List ℕ)} b (Some places) later) ≡ true) (sym (itself n)) refl

later_too : (s : Service) (services : List Service) (o : Option ℕ) → IfSome o (λ function. is_some (captured_by function services) ≡ true) → IfSome o (λ function. is_some (captured_by function (s ∷ services)) ≡ true)
later_too s services None h = tt
later_too s services (Some function) h = first_or_later (nat_eq function s.function) s.captured (captured_by function services) h

captured_at : (b : Bool) (s : Service) (services : List Service) (o : Option ℕ) → IfSome o (λ function. is_some (captured_by function (s ∷ services)) ≡ true)
    → IfSome (cond {A = Option ℕ} b (Some s.function) o) (λ function. is_some (captured_by function (s ∷ services)) ≡ true)
captured_at true s services o h = here s.function s.captured (captured_by s.function services)
captured_at false s services o h = h

captured : (name : List ℕ) (services : List Service) → IfSome (function_of name services) (λ function. is_some (captured_by function services) ≡ true)
captured name [] = tt
captured name (s ∷ services) = captured_at (is_same name s.name) s services (function_of name services) (later_too s services (function_of name services) (captured name services))

pub returns-clause-captures : goal.returns-clause-captures
returns-clause-captures c =
    let same : c.items.result.now ≡ c.args.self.now.services = c.items.ensures ∙ ap (λ (u : Contents). u.services) c.self.view_is in
    subst (λ o. IfSome o (λ function. is_some (captured_by function c.args.self.now.services) ≡ true)) (sym c.function_of.ensures)
    (subst (λ services. IfSome (function_of c.args.name.now services) (λ function. is_some (captured_by function c.args.self.now.services) ≡ true)) (sym same) (captured c.args.name.now c.args.self.now.services))
