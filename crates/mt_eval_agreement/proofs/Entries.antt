-- The variables of a body: behind an activation, and as the scope of an entry.
use Rattle.std.proofs.Common.{◌≡◌, ℕ, zero, suc, ◌+◌, ◌≤◌, List, [], ◌∷◌, ◌++◌, length, Option, Some, None, Bool, true, false, cond, refl, sym, ap, subst, arith}
use Rattle.std.specs.Prelude.{is_some, slice_index_or}
use Rattle.std.specs.List.{list_any}
use Rattle.std.proofs.lemmas.List.{append-nil}
use Rattle.mt_eval_meaning.specs.Scopes.{Slot, Scope, find_slot, environment_of, IsBelow, with_name, with_names, with_names_once, with_lexicals, with_own_name, has_own, own_given, parameter_entry, variable_entry, body_entry}
use Rattle.mt_eval_meaning.specs.States.{Numbered}
use Rattle.mt_eval_agreement.proofs.Blocks.{Grows, grows_same, grows_both, state_first, both_first, alone_then, step_then, lexicals_then}
use Rattle.mt_eval_agreement.proofs.Sim.{slots_view}
use Rattle.mt_eval_agreement.proofs.Views.{Sim, sim_as}
use Rattle.mt_eval_meaning.specs.Entering.{Named, first, rest, function_names, new_variable, variables_once, parameter_variables, own_variable, lexical_variables, body_scope}
use Rattle.mt_eval_meaning.specs.Hoisting.{Lexical, lexicals, variables}
use Rattle.mt_eval_meaning.specs.Names.{Binding, Environment, find}
use Rattle.mt_eval_meaning.specs.Runs.{Ran, gives, leaves, Run, and_then}
use Rattle.mt_eval_meaning.specs.State.{Eval, on_state, beside, add_cell}
use Rattle.mt_eval_meaning.specs.declared.state.State.{State}
use Rattle.mt_eval_meaning.specs.Activations.{Activation, grown, with_parameters, with_own}
use Rattle.mt_syntax.specs.declared.tree.Stmt.{Stmt}
use Rattle.mt_value.specs.Names.{is_same}
use Rattle.mt_value.specs.declared.cell.Cell.TheVariants as cell
use Rattle.mt_value.specs.declared.value.Value.{Value}
use Rattle.mt_value.specs.declared.value.Value.TheVariants as value

-- ---- names that an entry binds already

found_at : (b : Bool) (x : Binding) (y : Slot) (o : Option Binding) (p : Option Slot) → is_some o ≡ is_some p → is_some (cond {A = Option Binding} b (Some x) o) ≡ is_some (cond {A = Option Slot} b (Some y) p)
found_at true x y o p e = refl
found_at false x y o p e = e

same_found : (name : List ℕ) (scope : Scope) (activation : Activation) → is_some (find name (environment_of scope activation)) ≡ is_some (find_slot name scope)
same_found name [] activation = refl
same_found name (s ∷ scope) activation =
    found_at (is_same name s.name) (record { name = s.name; address = slice_index_or activation s.slot 0; constant = s.constant }) s (find name (environment_of scope activation)) (find_slot name scope) (same_found name scope activation)

longer_at : (b : Bool) (size : ℕ) (name : List ℕ) (names : List (List ℕ)) (entry : Scope) → length entry ≤ length (with_names_once size names entry) → suc (length entry) ≤ length (with_names_once size names (with_name size name false entry))
    → length entry ≤ length (with_names_once size names (cond {A = Scope} b entry (with_name size name false entry)))
longer_at true size name names entry h k = h
longer_at false size name names entry h k = omega (arith, k)

longer_once : (size : ℕ) (names : List (List ℕ)) (entry : Scope) → length entry ≤ length (with_names_once size names entry)
longer_once size [] entry = omega arith
longer_once size (name ∷ names) entry = longer_at (is_some (find_slot name entry)) size name names entry (longer_once size names entry) (longer_once size names (with_name size name false entry))

pub lexicals_length : (size : ℕ) (ls : List Lexical) (entry : Scope) → length (with_lexicals size ls entry) ≡ length entry + length ls
lexicals_length size [] entry = omega arith
lexicals_length size (l ∷ ls) entry =
    let r : length (with_lexicals size ls (with_name size l.name l.constant entry)) ≡ suc (length entry) + length ls = lexicals_length size ls (with_name size l.name l.constant entry) in
    omega (arith, r)

difference : (m n : ℕ) → m ≤ n → (k : ℕ) × (m + k ≡ n)
difference zero n le = let e : zero + n ≡ n = omega arith in (n, e)
difference (suc m) zero le = absurd (omega (arith, le))
difference (suc m) (suc n) le =
    let lower : m ≤ n = omega (arith, le) in
    let r = difference m n lower in
    let e : m + r.0 ≡ n = r.1 in
    let e' : suc m + r.0 ≡ suc n = omega (arith, e) in
    (r.0, e')

-- ---- variables in two groups

split_at : (r : Ran State ℕ) (m n k : ℕ) (content : Option Value) (activation : Activation) → ((at : ℕ) (t : State) → grown k content (activation ++ at ∷ []) t ≡ and_then (grown m content (activation ++ at ∷ []) t) (grown n content))
    → and_then r (λ at. grown k content (activation ++ at ∷ [])) ≡ and_then (and_then r (λ at. grown m content (activation ++ at ∷ []))) (grown n content)
split_at (gives at t) m n k content activation h = h at t
split_at (leaves e t) m n k content activation h = refl

grown_split : (m n k : ℕ) (content : Option Value) (activation : Activation) (t : State) → k ≡ m + n → grown k content activation t ≡ and_then (grown m content activation t) (grown n content)
grown_split zero n k content activation t e = let same : k ≡ n = omega (arith, e) in ap (λ z. grown z content activation t) same
grown_split (suc m) n zero content activation t e = absurd (omega (arith, e))
grown_split (suc m) n (suc k) content activation t e =
    let lower : k ≡ m + n = omega (arith, e) in
    split_at (add_cell (cell.Variable content) t) m n k content activation (λ at u. grown_split m n k content (activation ++ at ∷ []) u lower)

module _ {H : Type 0} (table : List Numbered) where
  pub parameters_then : {A : Type 0} (names : List (List ℕ)) (vs : List Value) (entry : Scope) (activation : Activation) (size : ℕ) (f : Activation → Eval H A) (g : Environment → Eval (Named H) A)
      → length activation ≡ size + length entry → IsBelow (length activation) entry
      → ((inner : Activation) → Grows activation inner → length inner ≡ size + length (with_names size names entry) → IsBelow (length inner) (with_names size names entry) → Sim (slots_view table) (f inner) (g (environment_of (with_names size names entry) inner)))
      → Sim (slots_view table) (λ s. and_then (on_state (with_parameters (length names) vs activation) s) f) (λ s. and_then (parameter_variables names vs (environment_of entry activation) s) g)
  parameters_then [] vs entry activation size f g long low h = h activation (grows_same activation) long low
  parameters_then (name ∷ names) vs entry activation size f g long low h =
      step_then table (Some (first vs)) name false (size + length entry) entry activation (with_parameters (length names) (rest vs)) (parameter_variables names (rest vs)) f g (sym long) low (λ mid grow n mid_low.
      let longer : length mid ≡ size + suc (length entry) = omega (arith, n, long) in
      parameters_then names (rest vs) (with_name size name false entry) mid size f g longer mid_low (λ inner more l b. h inner (grows_both activation mid inner grow more) l b))

  -- a name that is bound already, or a new variable, before others
  once_at : {A : Type 0} (b : Bool) (name : List ℕ) (names : List (List ℕ)) (content : Option Value) (n : ℕ) (entry : Scope) (activation : Activation) (size : ℕ) (f : Activation → Eval H A) (g : Environment → Eval (Named H) A)
      → length activation ≡ size + length entry → IsBelow (length activation) entry → length entry + n ≡ length (with_names_once size names (cond {A = Scope} b entry (with_name size name false entry)))
      → ((m : ℕ) (e : Scope) (mid : Activation) → length mid ≡ size + length e → IsBelow (length mid) e → length e + m ≡ length (with_names_once size names e)
      → ((inner : Activation) → Grows mid inner → length inner ≡ size + length (with_names_once size names e) → IsBelow (length inner) (with_names_once size names e) → Sim (slots_view table) (f inner) (g (environment_of (with_names_once size names e) inner)))
      → Sim (slots_view table) (λ s. and_then (on_state (grown m content mid) s) f) (λ s. and_then (variables_once names content (environment_of e mid) s) g))
      → ((inner : Activation) → Grows activation inner → length inner ≡ size + length (with_names_once size names (cond {A = Scope} b entry (with_name size name false entry))) → IsBelow (length inner) (with_names_once size names (cond {A = Scope} b entry (with_name size name false entry)))
      → Sim (slots_view table) (f inner) (g (environment_of (with_names_once size names (cond {A = Scope} b entry (with_name size name false entry))) inner)))
      → Sim (slots_view table) (λ s. and_then (on_state (grown n content activation) s) f)
      (λ s. and_then (and_then (cond {A = Eval (Named H) Environment} b (λ s. gives (environment_of entry activation) s) (new_variable name false content (environment_of entry activation)) s) (variables_once names content)) g)
  once_at true name names content n entry activation size f g long low count others h = others n entry activation long low count h
  once_at false name names content zero entry activation size f g long low count others h =
      let more : suc (length entry) ≤ length (with_names_once size names (with_name size name false entry)) = longer_once size names (with_name size name false entry) in
      absurd (omega (arith, count, more))
  once_at false name names content (suc n) entry activation size f g long low count others h =
      step_then table content name false (size + length entry) entry activation (grown n content) (variables_once names content) f g (sym long) low (λ mid grow m mid_low.
      let longer : length mid ≡ size + suc (length entry) = omega (arith, m, long) in
      let count' : suc (length entry) + n ≡ length (with_names_once size names (with_name size name false entry)) = omega (arith, count) in
      others n (with_name size name false entry) mid longer mid_low count' (λ inner more l b. h inner (grows_both activation mid inner grow more) l b))

  pub once_then : {A : Type 0} (names : List (List ℕ)) (content : Option Value) (n : ℕ) (entry : Scope) (activation : Activation) (size : ℕ) (f : Activation → Eval H A) (g : Environment → Eval (Named H) A)
      → length activation ≡ size + length entry → IsBelow (length activation) entry → length entry + n ≡ length (with_names_once size names entry)
      → ((inner : Activation) → Grows activation inner → length inner ≡ size + length (with_names_once size names entry) → IsBelow (length inner) (with_names_once size names entry) → Sim (slots_view table) (f inner) (g (environment_of (with_names_once size names entry) inner)))
      → Sim (slots_view table) (λ s. and_then (on_state (grown n content activation) s) f) (λ s. and_then (variables_once names content (environment_of entry activation) s) g)
  once_then [] content n entry activation size f g long low count h =
      let none : n ≡ zero = omega (arith, count) in
      subst (λ z. Sim (slots_view table) (λ s. and_then (on_state (grown z content activation) s) f) (λ s. and_then (variables_once [] content (environment_of entry activation) s) g)) (sym none) (h activation (grows_same activation) long low)
  once_then (name ∷ names) content n entry activation size f g long low count h =
      subst (λ b. Sim (slots_view table) (λ s. and_then (on_state (grown n content activation) s) f) (λ s. and_then (and_then (cond {A = Eval (Named H) Environment} b (λ s. gives (environment_of entry activation) s) (new_variable name false content (environment_of entry activation)) s) (variables_once names content)) g))
      (sym (same_found name entry activation))
      (once_at (is_some (find_slot name entry)) name names content n entry activation size f g long low count (λ m e mid l b c k. once_then names content m e mid size f g l b c k) h)

  -- `let` and `const` names where the entry is the whole scope
  pub entry_lexicals_then : {A : Type 0} (ls : List Lexical) (entry : Scope) (activation : Activation) (size : ℕ) (f : Activation → Eval H A) (g : Environment → Eval (Named H) A)
      → length activation ≡ size + length entry → IsBelow (length activation) entry
      → ((inner : Activation) → Grows activation inner → length inner ≡ size + length (with_lexicals size ls entry) → IsBelow (length inner) (with_lexicals size ls entry) → Sim (slots_view table) (f inner) (g (environment_of (with_lexicals size ls entry) inner)))
      → Sim (slots_view table) (λ s. and_then (on_state (grown (length ls) None activation) s) f) (λ s. and_then (lexical_variables ls (environment_of entry activation) s) g)
  entry_lexicals_then ls entry activation size f g long low h =
      subst (λ (z : Scope). Sim (slots_view table) (λ s. and_then (on_state (grown (length ls) None activation) s) f) (λ s. and_then (lexical_variables ls (environment_of z activation) s) g)) (append-nil entry)
      (lexicals_then table ls entry [] activation size f g long (subst (λ (z : Scope). IsBelow (length activation) z) (sym (append-nil entry)) low) (λ inner grow l b.
      let all = append-nil (with_lexicals size ls entry) in
      let l' : length inner ≡ size + length (with_lexicals size ls entry) = omega (arith, l, long, lexicals_length size ls entry) in
      subst (λ (z : Scope). Sim (slots_view table) (f inner) (g (environment_of z inner))) (sym all) (h inner grow l' (subst (λ (z : Scope). IsBelow (length inner) z) all b))))

  -- the functions' names, then those of `let` and `const`
  undeclared_then : {A : Type 0} (names : List (List ℕ)) (ls : List Lexical) (n : ℕ) (entry : Scope) (activation : Activation) (size : ℕ) (f : Activation → Eval H A) (g : Environment → Eval (Named H) A)
      → length activation ≡ size + length entry → IsBelow (length activation) entry → length entry + n ≡ length (with_lexicals size ls (with_names_once size names entry))
      → ((inner : Activation) → Grows activation inner → length inner ≡ size + length (with_lexicals size ls (with_names_once size names entry)) → IsBelow (length inner) (with_lexicals size ls (with_names_once size names entry)) → Sim (slots_view table) (f inner) (g (environment_of (with_lexicals size ls (with_names_once size names entry)) inner)))
      → Sim (slots_view table) (λ s. and_then (on_state (grown n None activation) s) f) (λ s. and_then (and_then (variables_once names None (environment_of entry activation) s) (lexical_variables ls)) g)
  undeclared_then names ls n entry activation size f g long low count h =
      let once = with_names_once size names entry in
      let d = difference (length entry) (length once) (longer_once size names entry) in
      let c : length entry + d.0 ≡ length once = d.1 in
      let e : n ≡ d.0 + length ls = omega (arith, c, count, lexicals_length size ls once) in
      sim_as (slots_view table) (λ s. and_then (on_state (grown n None activation) s) f) (λ s. and_then (on_state (λ t. and_then (grown d.0 None activation t) (grown (length ls) None)) s) f)
      (λ s. and_then (and_then (variables_once names None (environment_of entry activation) s) (lexical_variables ls)) g) (λ s. and_then (and_then (variables_once names None (environment_of entry activation) s) (lexical_variables ls)) g)
      (λ s. ap (λ r. and_then (beside s.1 r) f) (grown_split d.0 (length ls) n None activation s.0 e)) (λ s. refl)
      (both_first table (grown d.0 None activation) (grown (length ls) None) f (variables_once names None (environment_of entry activation)) (lexical_variables ls) g
      (once_then names None d.0 entry activation size (λ mid s. and_then (on_state (grown (length ls) None mid) s) f) (λ env s. and_then (lexical_variables ls env s) g) long low c (λ mid grow l b.
      entry_lexicals_then ls once mid size f g l b (λ inner more l' b'. h inner (grows_both activation mid inner grow more) l' b'))))

  -- ---- the name that a function has inside

  own_at : {A : Type 0} (b : Bool) (name : List ℕ) (at : ℕ) (activation : Activation) (size : ℕ) (f : Activation → Eval H A) (g : Environment → Eval (Named H) A) → size ≡ length activation
      → ((inner : Activation) → Grows activation inner → length inner ≡ size + length (with_own_name size (Some name) (cond {A = Bool} b false true)) → IsBelow (length inner) (with_own_name size (Some name) (cond {A = Bool} b false true))
      → Sim (slots_view table) (f inner) (g (environment_of (with_own_name size (Some name) (cond {A = Bool} b false true)) inner)))
      → Sim (slots_view table) (λ s. and_then (on_state (with_own (cond {A = Bool} b false true) at activation) s) f) (λ s. and_then (cond {A = Eval (Named H) Environment} b (λ s. gives [] s) (new_variable name true (Some (value.Fun at)) []) s) g)
  own_at true name at activation size f g e h = let l : length activation ≡ size + zero = omega (arith, e) in h activation (grows_same activation) l tt
  own_at false name at activation size f g e h =
      let end : size + zero ≡ length activation = omega (arith, e) in
      alone_then table (Some (value.Fun at)) name true (size + zero) [] activation f g end tt (λ inner grow n b. let l : length inner ≡ size + suc zero = omega (arith, n, e) in h inner grow l b)

  own_then : {A : Type 0} (own : Option (List ℕ)) (names : List (List ℕ)) (at : ℕ) (activation : Activation) (size : ℕ) (f : Activation → Eval H A) (g : Environment → Eval (Named H) A) → size ≡ length activation
      → ((inner : Activation) → Grows activation inner → length inner ≡ size + length (with_own_name size own (has_own own names)) → IsBelow (length inner) (with_own_name size own (has_own own names)) → Sim (slots_view table) (f inner) (g (environment_of (with_own_name size own (has_own own names)) inner)))
      → Sim (slots_view table) (λ s. and_then (on_state (with_own (has_own own names) at activation) s) f) (λ s. and_then (own_variable own names at s) g)
  own_then None names at activation size f g e h = let l : length activation ≡ size + zero = omega (arith, e) in h activation (grows_same activation) l tt
  own_then (Some name) names at activation size f g e h = own_at (list_any (is_same name) names) name at activation size f g e h

  -- ---- the whole entry, and what is done then

  pub body_then : {A : Type 0} (size : ℕ) (own : Option (List ℕ)) (parameters : List (List ℕ)) (ts : List Stmt) (vs : List Value) (at n m : ℕ) (activation : Activation) (next : Activation → Run State Activation) (f : Activation → Eval H A) (g : Environment → Eval (Named H) A)
      → size ≡ length activation → length (parameter_entry size own parameters ts) + n ≡ length (variable_entry size own parameters ts) → length (variable_entry size own parameters ts) + m ≡ length (body_entry size own parameters ts)
      → ((inner : Activation) → Grows activation inner → length inner ≡ size + length (body_entry size own parameters ts) → IsBelow (length inner) (body_entry size own parameters ts)
      → Sim (slots_view table) (λ s. and_then (on_state (next inner) s) f) (g (environment_of (body_entry size own parameters ts) inner)))
      → Sim (slots_view table)
      (λ s. and_then (on_state (λ t. and_then (with_own (own_given size own parameters ts) at activation t) (λ named t. and_then (with_parameters (length parameters) vs named t) (λ given t. and_then (grown n (Some value.Undefined) given t) (λ declared t. and_then (grown m None declared t) next)))) s) f)
      (λ s. and_then (body_scope own at parameters vs ts s) g)
  unfolding body_scope
  body_then {A = A} size own parameters ts vs at n m activation next f g e count_variables count_undeclared h =
      let names = parameters ++ (variables ts ++ function_names ts) in
      let m3 : Activation → Run State Activation = λ declared t. and_then (grown m None declared t) next in
      let m2 : Activation → Run State Activation = λ given t. and_then (grown n (Some value.Undefined) given t) m3 in
      let m1 : Activation → Run State Activation = λ named t. and_then (with_parameters (length parameters) vs named t) m2 in
      let n3 : Environment → Eval (Named H) Environment = λ declared s. and_then (variables_once (function_names ts) None declared s) (lexical_variables (lexicals ts)) in
      let n2 : Environment → Eval (Named H) Environment = λ given s. and_then (variables_once (variables ts) (Some value.Undefined) given s) n3 in
      let n1 : Environment → Eval (Named H) Environment = λ named s. and_then (parameter_variables parameters vs named s) n2 in
      let f1 : Activation → Eval H A = λ named s. and_then (on_state (m1 named) s) f in
      let f2 : Activation → Eval H A = λ given s. and_then (on_state (m2 given) s) f in
      let f3 : Activation → Eval H A = λ declared s. and_then (on_state (m3 declared) s) f in
      let f4 : Activation → Eval H A = λ inner s. and_then (on_state (next inner) s) f in
      let g1 : Environment → Eval (Named H) A = λ named s. and_then (n1 named s) g in
      let g2 : Environment → Eval (Named H) A = λ given s. and_then (n2 given s) g in
      let g3 : Environment → Eval (Named H) A = λ declared s. and_then (n3 declared s) g in
      let e1 = with_own_name size own (own_given size own parameters ts) in
      let e2 = parameter_entry size own parameters ts in
      let e3 = variable_entry size own parameters ts in
      both_first table (with_own (own_given size own parameters ts) at activation) m1 f (own_variable own names at) n1 g
      (own_then own names at activation size f1 g1 e (λ named grow1 l1 b1.
      both_first table (with_parameters (length parameters) vs named) m2 f (parameter_variables parameters vs (environment_of e1 named)) n2 g
      (parameters_then parameters vs e1 named size f2 g2 l1 b1 (λ given grow2 l2 b2.
      both_first table (grown n (Some value.Undefined) given) m3 f (variables_once (variables ts) (Some value.Undefined) (environment_of e2 given)) n3 g
      (once_then (variables ts) (Some value.Undefined) n e2 given size f3 g3 l2 b2 count_variables (λ declared grow3 l3 b3.
      sim_as (slots_view table) (λ s. and_then (on_state (m3 declared) s) f) (λ s. and_then (on_state (grown m None declared) s) f4) (λ s. and_then (n3 (environment_of e3 declared) s) g) (λ s. and_then (n3 (environment_of e3 declared) s) g)
      (λ s. state_first table (grown m None declared s.0) s.1 next f) (λ s. refl)
      (undeclared_then (function_names ts) (lexicals ts) m e3 declared size f4 g l3 b3 count_undeclared (λ inner grow4 l4 b4.
      h inner (grows_both activation named inner grow1 (grows_both named given inner grow2 (grows_both given declared inner grow3 grow4))) l4 b4))))))))
