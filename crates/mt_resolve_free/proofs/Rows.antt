-- One step of a loop over a list of names.
use Rattle.std.proofs.Common.{◌≡◌, ℕ, List, [], ◌∷◌, ◌++◌, true, false, cond, map, refl, sym, ap, ◌∙◌, append_assoc}
use Rattle.std.proofs.lemmas.List.{map-append}
use Rattle.mt_eval_meaning.specs.Free.{Names, has, without}
use Rattle.mt_eval_meaning.specs.Entering.{function_names}
use Rattle.mt_eval_meaning.specs.Hoisting.{functions, functions_of_kind, kind_of, services, services_of_kind}
use Rattle.mt_syntax.specs.declared.tree.Function.{Function}
use Rattle.mt_syntax.specs.declared.tree.Stmt.{Stmt}

pub nothing_more : {A : Type 0} (done : List A) → done ++ [] ≡ done
nothing_more [] = refl
nothing_more (x ∷ done) = ap (λ l. x ∷ l) (nothing_more done)

pub without_skip : (some : Names) (x : List ℕ) (xs done : Names) → has some x ≡ true → done ++ without some (x ∷ xs) ≡ done ++ without some xs
without_skip some x xs done h = ap (λ b. done ++ cond {A = Names} b (without some xs) (x ∷ without some xs)) h

pub without_take : (some : Names) (x : List ℕ) (xs done : Names) → has some x ≡ false → done ++ without some (x ∷ xs) ≡ (done ++ x ∷ []) ++ without some xs
without_take some x xs done h = ap (λ b. done ++ cond {A = Names} b (without some xs) (x ∷ without some xs)) h ∙ sym (append_assoc done (x ∷ []) (without some xs))

pub functions_take : (t : Stmt) (ts : List Stmt) (done : Names) → done ++ function_names (t ∷ ts) ≡ (done ++ map (λ f. f.0) (functions_of_kind (kind_of t))) ++ function_names ts
functions_take t ts done =
    ap (λ names. done ++ names) (map-append (λ (f : List ℕ × Function). f.0) (functions_of_kind (kind_of t)) (functions ts))
    ∙ sym (append_assoc done (map (λ f. f.0) (functions_of_kind (kind_of t))) (function_names ts))

pub services_take : (t : Stmt) (ts : List Stmt) (done : Names) → done ++ map (λ s. s.0) (services (t ∷ ts)) ≡ (done ++ map (λ s. s.0) (services_of_kind (kind_of t))) ++ map (λ s. s.0) (services ts)
services_take t ts done =
    ap (λ names. done ++ names) (map-append (λ (f : List ℕ × Function). f.0) (services_of_kind (kind_of t)) (services ts))
    ∙ sym (append_assoc done (map (λ s. s.0) (services_of_kind (kind_of t))) (map (λ s. s.0) (services ts)))
