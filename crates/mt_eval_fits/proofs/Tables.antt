-- Bodies, the functions of a table, and units fit where the syntax does.
use Rattle.std.proofs.Common.{◌≡◌, ℕ, ◌+◌, Bool, List, [], ◌∷◌, ◌++◌, length, map, Option, None, Some, refl, sym, ap, ◌∙◌}
use Rattle.std.specs.Prelude.{All, IsTrue, slice_get}
use Rattle.std.proofs.lemmas.Bool.{and_from, and_parts}
use Rattle.std.proofs.lemmas.List.Elements.{All-nil, All-cons, All-head, All-tail, All-append}
use Rattle.mt_eval_meaning.specs.Code.{AllStand, BodyStands, captured_scope, ClientCodeStands, FileStands, FunctionStands, HoistedStands, StmtStandsTo, TableStands}
use Rattle.mt_eval_meaning.specs.Scopes.{Scope, body_entry, with_lexicals}
use Rattle.mt_eval_meaning.specs.States.{Numbered}
use Rattle.mt_eval_fits.specs.Fitting.{FunctionFits, ItemsFit, Suit, Tested, each, entry_fits, is_met}
use Rattle.mt_eval_fits.proofs.Expressions.{all_fit, function_number}
use Rattle.mt_eval_fits.proofs.Nodes.{test, function_test, stmt_test}
use Rattle.mt_eval_fits.proofs.Statements.{stmt_fits}
use Rattle.mt_eval_keeps.specs.Code.{BodyFits, CodeFits, to_depth}
use Rattle.mt_eval_keeps.specs.Kept.{Tests, UnitFits, allowed, owns, tildes}
use Rattle.mt_eval_meaning.specs.Hoisting.{functions, functions_of_kind, kind_of, lexicals, named_function, names_of}
use Rattle.mt_eval_meaning.specs.Names.{Surroundings}
use Rattle.mt_eval_meaning.specs.declared.function.Body.{Body}
use Rattle.mt_eval_meaning.specs.declared.function.Function.{Function as Code}
use Rattle.mt_eval_meaning.specs.declared.function.Hoisted.{Hoisted}
use Rattle.mt_eval_meaning.specs.declared.function.Unit.{Unit as Unit'}
use Rattle.mt_syntax.specs.Fold.{Tree, StmtKindLayer, on_function, on_stmt}
use Rattle.mt_syntax.specs.declared.tree.ExprKind.TheOpen.{StmtKind-F}
use Rattle.mt_syntax.specs.declared.tree.Function.{Function, out-Function}
use Rattle.mt_syntax.specs.declared.tree.Mark.{Mark}
use Rattle.mt_syntax.specs.declared.tree.Stmt.{Stmt}
use Rattle.mt_syntax_laws.proofs.Layers.{map_stmt_kind}
use Rattle.mt_syntax_laws.proofs.Related.{on}
use Rattle.mt_tree.specs.Limits.{depth_limit}

-- one test of all items, and a test of each
from_each : {B : Type 0} (of : B → Tested) (ys : List B) → IsTrue (each (map of ys)).fits → All (λ y. IsTrue (of y).fits) ys
from_each of [] fit = All-nil (λ y. IsTrue (of y).fits)
from_each of (y ∷ ys) fit = let parts = and_parts (of y).fits (each (map of ys)).fits fit in All-cons (λ y. IsTrue (of y).fits) y ys parts.0 (from_each of ys parts.1)

each_from : {B : Type 0} (of : B → Tested) (ys : List B) → All (λ y. IsTrue (of y).fits) ys → IsTrue (each (map of ys)).fits
each_from of [] h = refl
each_from of (y ∷ ys) h = and_from (of y).fits (each (map of ys)).fits (All-head (λ y. IsTrue (of y).fits) y ys h) (each_from of ys (All-tail (λ y. IsTrue (of y).fits) y ys h))

-- the functions at the top of a body fit, where its statements do
module _ (element : List ℕ → List (List ℕ) → ℕ → Bool) (met : ℕ → Bool) where
  abbrev Fit : List ℕ × Function → Type 0
  Fit f = FunctionFits element met f.1

  named_fits : (m : Option Mark) (f : Function) → FunctionFits element met f → All Fit (named_function m f)
  named_fits None f fit = All-nil Fit
  named_fits (Some m) f fit = All-cons Fit (m.name, f) [] fit (All-nil Fit)

  kind_fits : (x : StmtKindLayer Tree) → IsTrue ((test element met).stmt_kind (map_stmt_kind (on (test element met)) x)).fits → All Fit (functions_of_kind x)
  kind_fits (StmtKind-F.Function f) fit = named_fits (out-Function f).name f fit
  kind_fits _ fit = All-nil Fit

  hoisted_fit : (ts : List Stmt) → All (λ t. IsTrue (on_stmt (test element met) t).fits) ts → All Fit (functions ts)
  hoisted_fit [] h = All-nil Fit
  hoisted_fit (t ∷ ts) h =
      let P = λ (t : Stmt). IsTrue (on_stmt (test element met) t).fits in
      All-append Fit (functions_of_kind (kind_of t)) (functions ts) (kind_fits (kind_of t) (ap (λ (t : Tested). t.fits) (sym (stmt_test element met t)) ∙ All-head P t ts h)) (hoisted_fit ts (All-tail P t ts h))

module _ {H : Type 0} (tests : Tests H) (around : Surroundings) (units : List Code) (table : List Numbered) (suit : Suit tests around.tildes table) where
  abbrev met : ℕ → Bool
  met = is_met tests around.tildes

  abbrev F : ℕ → Type 0
  F = (owns tests).function

  of_entry : (n : ℕ) (o : Option Numbered) → slice_get table n ≡ o → IsTrue (entry_fits tests.element met o) → F n
  of_entry n o is fit = suit.numbers n ∙ ap (entry_fits tests.element met) is ∙ fit

  numbered : (n : ℕ) (e : Numbered) → slice_get table n ≡ Some e → IsTrue (on_function (test tests.element met) e.function).fits → F n
  numbered n e is fit = of_entry n (Some e) is fit

  pub has_number : (scope : Scope) (n : ℕ) (own : Option (List ℕ)) (f : Function) → FunctionStands around units table scope n own f → FunctionFits tests.element met f → F n
  has_number scope n own f h fit = function_number tests.element tests.tilde around units table F numbered suit.dollars scope n own f h fit

  hoisted_numbers : (scope : Scope) (hs : List Hoisted) (fs : List (List ℕ × Function)) → AllStand (HoistedStands around units table scope) hs fs → All (λ (f : List ℕ × Function). FunctionFits tests.element met f.1) fs → All (λ h. F h.function) hs
  hoisted_numbers scope [] [] h fit = All-nil (λ (h : Hoisted). F h.function)
  hoisted_numbers scope (x ∷ hs) (f ∷ fs) h fit =
      let P = λ (f : List ℕ × Function). FunctionFits tests.element met f.1 in
      All-cons (λ (h : Hoisted). F h.function) x hs (has_number scope x.function None f.1 h.0.1 (All-head P f fs fit)) (hoisted_numbers scope hs fs h.1 (All-tail P f fs fit))
  hoisted_numbers scope [] (f ∷ fs) h fit = absurd h
  hoisted_numbers scope (x ∷ hs) [] h fit = absurd h

  body_fits : (scope : Scope) (inner : Scope) (size : ℕ) (b : Body) (ts : List Stmt) → AllStand (HoistedStands around units table scope) b.hoisted (functions ts) → AllStand (StmtStandsTo around units table depth_limit inner size) b.statements ts → ItemsFit tests around.tildes ts → BodyFits (allowed tests) (tildes tests) F b
  body_fits scope inner size b ts hoisted stand fit = record {
    hoisted = hoisted_numbers scope b.hoisted (functions ts) hoisted (hoisted_fit tests.element met ts fit);
    statements = all_fit (StmtStandsTo around units table depth_limit inner size) (on_stmt (test tests.element met)) (to_depth (allowed tests) (tildes tests) F depth_limit).stmt (stmt_fits tests.element tests.tilde around units table F numbered suit.dollars depth_limit depth_limit inner size) b.statements ts stand (each_from (on_stmt (test tests.element met)) ts fit);
  }

  standing_fits : (size : ℕ) (own : Option (List ℕ)) (parameters : List (List ℕ)) (captured : Scope) (b : Body) (ts : List Stmt) → BodyStands around units table size own parameters captured b ts → ItemsFit tests around.tildes ts → BodyFits (allowed tests) (tildes tests) F b
  standing_fits size own parameters captured b ts h fit =
      let scope = body_entry size own parameters ts ++ captured in
      body_fits scope scope (size + length (body_entry size own parameters ts)) b ts h.hoisted h.statements fit

  pub code_fits : TableStands around units table → CodeFits (allowed tests) (tildes tests) F units
  code_fits stands = record { bodies = λ n number. of_number n (slice_get table n) refl (sym (suit.numbers n) ∙ number) }
    where
      of_number : (n : ℕ) (o : Option Numbered) → slice_get table n ≡ o → IsTrue (entry_fits tests.element met o) → (f : Code) × (slice_get units n ≡ Some f) × BodyFits (allowed tests) (tildes tests) F f.body
      of_number n None is fit = absurd (cc)
      of_number n (Some e) is fit =
          let there = stands.code n e is in
          let ts = (out-Function e.function).body in
          let items : ItemsFit tests around.tildes ts = from_each (on_stmt (test tests.element met)) ts (ap (λ (t : Tested). t.fits) (sym (function_test tests.element met e.function)) ∙ fit) in
          (there.0, there.1, standing_fits (length e.names) e.own (names_of (out-Function e.function).parameters) (captured_scope 0 e.names) there.0.body ts there.2.body items)

  pub file_unit_fits : (u : Unit') (items : List Stmt) → FileStands around units table u items → ItemsFit tests around.tildes items → UnitFits tests u
  file_unit_fits u items h fit = standing_fits 0 None [] [] u.body items h.body fit

  pub client_unit_fits : (u : Unit') (items : List Stmt) → ClientCodeStands around units table u items → ItemsFit tests around.tildes items → UnitFits tests u
  client_unit_fits u items h fit =
      let scope = with_lexicals 0 (lexicals items) [] in
      body_fits scope scope (length (lexicals items)) u.body items h.hoisted h.statements fit
