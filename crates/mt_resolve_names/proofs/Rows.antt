-- One step of a loop over names or slots.
use Rattle.std.proofs.Common.{◌≡◌, ℕ, suc, ◌+◌, ◌-◌, ◌≤◌, List, [], ◌∷◌, ◌++◌, Bool, true, false, cond, map, refl, sym, ap, ◌∙◌, append_assoc, add-one, reverse, length, get_or, take, drop, arith}
use Rattle.std.specs.Prelude.{is_some, Option, Some, ◌||◌}
use Rattle.std.specs.List.{list_any}
use Rattle.std.proofs.Math.Seq.{take-length}
use Rattle.std.proofs.lemmas.List.Sorted.{list_any-IsPermutation, IsPermutation-reverse}
use Rattle.mt_eval_meaning.specs.Code.{captured_scope, lexical_of}
use Rattle.mt_eval_meaning.specs.Free.{Names, has, without, cut}
use Rattle.mt_eval_meaning.specs.Scopes.{Slot, Scope, find_slot, with_name, with_lexicals}
use Rattle.mt_eval_meaning.specs.Hoisting.{Lexical, kind_of, lexicals, lexicals_of_kind}
use Rattle.mt_syntax.specs.declared.tree.Stmt.{Stmt}
use Rattle.mt_value.specs.Names.{is_same}

pub nothing_more : {A : Type 0} (done : List A) → done ++ [] ≡ done
nothing_more [] = refl
nothing_more (x ∷ done) = ap (λ l. x ∷ l) (nothing_more done)

pub cut_skip : (free : Names) (s : Slot) (ss done : Scope) → has free s.name ≡ false → done ++ cut (λ s. s.name) free (s ∷ ss) ≡ done ++ cut (λ s. s.name) free ss
cut_skip free s ss done h = ap (λ b. done ++ cond {A = Scope} b (s ∷ cut (λ s. s.name) (without (s.name ∷ []) free) ss) (cut (λ s. s.name) free ss)) h

pub cut_take : (free : Names) (s : Slot) (ss done : Scope) → has free s.name ≡ true → done ++ cut (λ s. s.name) free (s ∷ ss) ≡ (done ++ s ∷ []) ++ cut (λ s. s.name) (without (s.name ∷ []) free) ss
cut_take free s ss done h =
    ap (λ b. done ++ cond {A = Scope} b (s ∷ cut (λ s. s.name) (without (s.name ∷ []) free) ss) (cut (λ s. s.name) free ss)) h
    ∙ sym (append_assoc done (s ∷ []) (cut (λ s. s.name) (without (s.name ∷ []) free) ss))

pub captured_take : (k : ℕ) (s : Slot) (ss done : Scope)
    → done ++ captured_scope k (map lexical_of (s ∷ ss)) ≡ (done ++ record { name = s.name; slot = k; constant = s.constant } ∷ []) ++ captured_scope (k + 1) (map lexical_of ss)
captured_take k s ss done =
    sym (append_assoc done (record { name = s.name; slot = k; constant = s.constant } ∷ []) (captured_scope (suc k) (map lexical_of ss)))
    ∙ ap (λ n. (done ++ record { name = s.name; slot = k; constant = s.constant } ∷ []) ++ captured_scope n (map lexical_of ss)) (sym (add-one k))

lexicals_append : (size : ℕ) (xs ys : List Lexical) (entry : Scope) → with_lexicals size (xs ++ ys) entry ≡ with_lexicals size ys (with_lexicals size xs entry)
lexicals_append size [] ys entry = refl
lexicals_append size (x ∷ xs) ys entry = lexicals_append size xs ys (with_name size x.name x.constant entry)

lexicals_take : (size : ℕ) (t : Stmt) (ts : List Stmt) (entry : Scope) → with_lexicals size (lexicals (t ∷ ts)) entry ≡ with_lexicals size (lexicals ts) (with_lexicals size (lexicals_of_kind (kind_of t)) entry)
lexicals_take size t ts entry = lexicals_append size (lexicals_of_kind (kind_of t)) (lexicals ts) entry

pub lexicals_step : (size : ℕ) (all : Scope) (left : List Stmt) (t : Stmt) (now new : ℕ × Scope)
    → 1 ≤ length left
    → t ≡ get_or left 0 t
    → (now.0 ≡ size) × (with_lexicals size (lexicals left) now.1 ≡ all)
    → new ≡ (now.0, with_lexicals now.0 (lexicals_of_kind (kind_of t)) now.1)
    → (new.0 ≡ size) × (with_lexicals size (lexicals (take (length left - 1) (drop 1 left))) new.1 ≡ all)
lexicals_step size all [] t now new some is before step = absurd (omega arith)
lexicals_step size all (x ∷ xs) t now new some is before step =
    let one_less : length (x ∷ xs) - 1 ≡ length xs = omega arith in (
      ap (λ e. e.0) step ∙ before.0,
      ap (λ ts. with_lexicals size (lexicals ts) new.1) (ap (λ n. take n xs) one_less ∙ take-length xs)
          ∙ ap (λ (e : ℕ × Scope). with_lexicals size (lexicals xs) e.1) step
          ∙ ap (λ n. with_lexicals size (lexicals xs) (with_lexicals n (lexicals_of_kind (kind_of t)) now.1)) before.0
          ∙ ap (λ u. with_lexicals size (lexicals xs) (with_lexicals size (lexicals_of_kind (kind_of u)) now.1)) is
          ∙ sym (lexicals_take size x xs now.1)
          ∙ before.1,
    )

-- ---- entries, whose slots are kept oldest first

binds_by : (b : Bool) (s : Slot) (found : Option Slot) (rest : Bool) → is_some found ≡ rest → is_some (cond {A = Option Slot} b (Some s) found) ≡ (b || rest)
binds_by true s found rest h = refl
binds_by false s found rest h = h

binds_any : (name : List ℕ) (ss : Scope) → is_some (find_slot name ss) ≡ list_any (λ s. is_same name s.name) ss
binds_any name [] = refl
binds_any name (s ∷ ss) = binds_by (is_same name s.name) s (find_slot name ss) (list_any (λ s. is_same name s.name) ss) (binds_any name ss)

-- a name is bound in whatever order the slots stand
pub binds_reversed : (name : List ℕ) (ss : Scope) → list_any (λ s. is_same name s.name) ss ≡ is_some (find_slot name (reverse ss))
binds_reversed name ss =
    list_any-IsPermutation (λ s. is_same name s.name) ss (reverse ss) (IsPermutation-reverse ss)
    ∙ sym (binds_any name (reverse ss))
