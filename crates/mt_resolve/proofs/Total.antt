-- What is within the depth is resolved.
use Rattle.std.proofs.Common.{◌≡◌, ◌≢◌, ℕ, zero, suc, ◌++◌, List, [], ◌∷◌, map, Option, None, Some, refl, sym, subst}
use Rattle.std.specs.Prelude.{slice_get}
use Rattle.mt_eval_meaning.specs.Scopes.{Scope}
use Rattle.mt_eval_meaning.specs.Evaluation.{dollars_of, expr_kind_of, own_name}
use Rattle.mt_eval_meaning.specs.Hoisting.{kind_of}
use Rattle.mt_eval_meaning.specs.Names.{Surroundings}
use Rattle.mt_eval_meaning.specs.Runs.{Ran, gives, leaves, and_then, all_behind, all}
use Rattle.mt_eval_meaning.specs.declared.exit.Exit.{Exit}
use Rattle.mt_eval_meaning.specs.declared.exit.Exit.TheVariants as exit
use Rattle.mt_resolve.specs.Resolving.{M, Parts, add, optional, exprs, stmts, hoisted_named, hoisted_one, hoisted_from, all_hoisted, body, with_captured, function, entry, piece_of_value, attribute, piece_of_child, child, entries, attributes, children, node_at, node, value, declaration, declarations, start_at, begin, branch, block, handler, act_at, act, level, at}
use Rattle.mt_resolve.specs.Tops.{service_named, service_one, services_from, all_services, file, client_code}
use Rattle.mt_resolve.specs.Within.{AllOf, IfThere, Limits, BodyIsWithin, ValueIsWithin, AttributeIsWithin, PieceIsWithin, ChildIsWithin, PropIsWithin, ExprIsWithin, DeclIsWithin, StartIsWithin, StmtIsWithin, within, AreWithin}
use Rattle.mt_resolve.specs.declared.service.Service.{Service}
use Rattle.mt_eval_meaning.specs.declared.function.Function.{Function}
use Rattle.mt_eval_meaning.specs.declared.function.Hoisted.{Hoisted}
use Rattle.mt_syntax.specs.Fold.{Tree, ExprKindLayer, ForStartLayer, MarkupChildLayer, MarkupValueLayer, StmtKindLayer}
use Rattle.mt_syntax.specs.declared.program.Tilde.{Tilde}
use Rattle.mt_syntax.specs.declared.tree.Decl.{Decl}
use Rattle.mt_syntax.specs.declared.tree.Expr.{Expr}
use Rattle.mt_syntax.specs.declared.tree.ExprKind.TheOpen.{ExprKind-F, ForStart-F, MarkupChild-F, MarkupValue-F, StmtKind-F}
use Rattle.mt_syntax.specs.declared.tree.ForStart.{ForStart, out-ForStart}
use Rattle.mt_syntax.specs.declared.tree.Function.{Function as SyntaxFunction, out-Function}
use Rattle.mt_syntax.specs.declared.tree.Mark.{Mark}
use Rattle.mt_syntax.specs.declared.tree.Markup.{out-Markup}
use Rattle.mt_syntax.specs.declared.tree.MarkupAttribute.{MarkupAttribute}
use Rattle.mt_syntax.specs.declared.tree.MarkupChild.{MarkupChild, out-MarkupChild}
use Rattle.mt_syntax.specs.declared.tree.Prop.{Prop}
use Rattle.mt_syntax.specs.declared.tree.Stmt.{Stmt}
use Rattle.mt_tree.specs.Limits.{depth_limit}

abbrev IsGiven : {A : Type 0} → Ran (List Function) A → Type 0
IsGiven (gives a s) = Unit {0}
IsGiven (leaves x s) = ⊥

record Total {A : Type 0} (m : M A) : Type 0 where
  run : (fs : List Function) → IsGiven (m fs)

bind_at : {A B : Type 0} (f : A → M B) (r : Ran (List Function) A) → IsGiven r → ((a : A) → Total (f a)) → IsGiven (and_then r f)
bind_at f (gives a s) g h = (h a).run s
bind_at f (leaves x s) g h = absurd g

total_bind : {A B : Type 0} {m : M A} {f : A → M B} → Total m → ((a : A) → Total (f a)) → Total (λ s. and_then (m s) f)
total_bind {m = m} {f = f} k h = record { run = λ s. bind_at f (m s) (k.run s) h }

total_pure : {A : Type 0} (a : A) → Total {A = A} (λ s. gives a s)
total_pure a = record { run = λ s. tt }

total_add : (first : ℕ) (f : Function) → Total (add first f)
unfolding add
total_add first f = record { run = λ s. tt }

from_total : {A B : Type 0} (P : A → Type 0) (r : A → M B) → ((a : A) → P a → Total (r a)) → (done : List B) (xs : List A) → AllOf P xs → Total (all_behind done (map r xs))
from_total P r k done [] h = total_pure done
from_total P r k done (x ∷ xs) h = total_bind (k x h.0) (λ b. from_total P r k (done ++ b ∷ []) xs h.1)

all_total : {A B : Type 0} (P : A → Type 0) (r : A → M B) → ((a : A) → P a → Total (r a)) → (xs : List A) → AllOf P xs → Total (all (map r xs))
all_total P r k xs h = from_total P r k [] xs h

optional_total : {A B : Type 0} (P : A → Type 0) (r : A → M B) → ((a : A) → P a → Total (r a)) → (x : Option A) → IfThere P x → Total (optional r x)
optional_total P r k None h = total_pure None
optional_total P r k (Some x) h = total_bind (k x h) (λ b. total_pure (Some b))

-- what holds of a function that a statement declares
abbrev DeclaredIs : (SyntaxFunction → Type 0) → StmtKindLayer Tree → Type 0
DeclaredIs F (StmtKind-F.Function f) = F f
DeclaredIs F (StmtKind-F.Service f) = F f
DeclaredIs F _ = Unit {0}

record TotalParts (p : Parts) (l : Limits) (F : SyntaxFunction → Type 0) : Type 0 where
  expr : (scope : Scope) (e : Expr) → l.expr e → Total (p.expr scope e)
  stmt : (scope : Scope) (size : ℕ) (t : Stmt) → l.stmt t → Total (p.stmt scope size t)
  function : (scope : Scope) (f : SyntaxFunction) → F f → Total (p.function scope f)
  declares : (t : Stmt) → l.stmt t → DeclaredIs F (kind_of t)

module _ (around : Surroundings) (first : ℕ) (p : Parts) (l : Limits) (F : SyntaxFunction → Type 0) (below : TotalParts p l F) where
  exprs_total : (scope : Scope) (es : List Expr) → AllOf l.expr es → Total (exprs around first p scope es)
  unfolding exprs
  exprs_total scope es h = all_total l.expr (λ e. p.expr scope e) (below.expr scope) es h

  stmts_total : (scope : Scope) (size : ℕ) (ts : List Stmt) → AllOf l.stmt ts → Total (stmts around first p scope size ts)
  unfolding stmts
  stmts_total scope size ts h = all_total l.stmt (λ t. p.stmt scope size t) (below.stmt scope size) ts h

  named_total : (scope : Scope) (done : List Hoisted) (name : Option Mark) (f : SyntaxFunction) → F f → Total (hoisted_named around first p scope done name f)
  named_total scope done None f h = total_pure done
  named_total scope done (Some m) f h = total_bind (below.function scope f h) (λ n. total_pure _)

  one_total : (scope : Scope) (done : List Hoisted) (t : StmtKindLayer Tree) → DeclaredIs F t → Total (hoisted_one around first p scope done t)
  one_total scope done (StmtKind-F.Function f) h = named_total scope done (out-Function f).name f h
  one_total scope done _ h = total_pure done

  from_hoisted : (scope : Scope) (done : List Hoisted) (ts : List Stmt) → AllOf l.stmt ts → Total (hoisted_from around first p scope done ts)
  from_hoisted scope done [] h = total_pure done
  from_hoisted scope done (t ∷ ts) h = total_bind (one_total scope done (kind_of t) (below.declares t h.0)) (λ hs. from_hoisted scope hs ts h.1)

  hoisted_total : (scope : Scope) (ts : List Stmt) → AllOf l.stmt ts → Total (all_hoisted around first p scope ts)
  unfolding all_hoisted
  hoisted_total scope ts h = from_hoisted scope [] ts h

  body_total : (size : ℕ) (own : Option (List ℕ)) (parameters : List (List ℕ)) (outer : Scope) (ts : List Stmt) → AllOf l.stmt ts → Total (body around first p size own parameters outer ts)
  unfolding body
  body_total size own parameters outer ts h = total_bind (hoisted_total _ ts h) (λ hs. total_bind (stmts_total _ _ ts h) (λ us. total_pure _))

  function_total : (scope : Scope) (own : Option (List ℕ)) (f : SyntaxFunction) → AllOf l.stmt (out-Function f).body → Total (function around first p scope own f)
  unfolding function with_captured
  function_total scope own f h = total_bind (body_total _ _ _ _ (out-Function f).body h) (λ b. total_add first _)

module _ (around : Surroundings) (first : ℕ) (p : Parts) (l : Limits) (F : SyntaxFunction → Type 0) (below : TotalParts p l F) where
  abbrev tildes : List Tilde
  tildes = around.tildes

  piece_of_value_total : (scope : Scope) (v : MarkupValueLayer Tree) → ValueIsWithin tildes l v → Total (piece_of_value around first p scope v)
  piece_of_value_total scope (MarkupValue-F.Quoted text) h = total_pure _
  piece_of_value_total scope (MarkupValue-F.MarkupValue::Tilde e) h = total_bind (below.expr scope e h) (λ u. total_pure _)
  piece_of_value_total scope (MarkupValue-F.MarkupValue::Dollar e) h = total_bind (below.expr scope e h) (λ u. total_pure _)

  attribute_total : (scope : Scope) (a : MarkupAttribute) → AttributeIsWithin tildes l a → Total (attribute around first p scope a)
  unfolding attribute
  attribute_total scope a h = total_bind (piece_of_value_total scope _ h) (λ c. total_pure _)

  piece_of_child_total : (scope : Scope) (c : MarkupChildLayer Tree) → PieceIsWithin tildes l c → Total (piece_of_child around first p scope c)
  piece_of_child_total scope (MarkupChild-F.MarkupChild::Text text) h = total_pure _
  piece_of_child_total scope (MarkupChild-F.Direct e) h = total_bind (below.expr scope e h) (λ u. total_pure _)
  piece_of_child_total scope (MarkupChild-F.MarkupChild::Dollar e) h = total_bind (below.expr scope e h) (λ u. total_pure _)

  child_total : (scope : Scope) (c : MarkupChild) → ChildIsWithin tildes l c → Total (child around first p scope c)
  unfolding child
  child_total scope c h = piece_of_child_total scope (out-MarkupChild c) h

  entry_total : (scope : Scope) (q : Prop) → PropIsWithin tildes l q → Total (entry around first p scope q)
  unfolding entry
  entry_total scope q h = total_bind (below.expr scope _ h) (λ u. total_pure _)

  attributes_total : (scope : Scope) (named : List MarkupAttribute) → AllOf (AttributeIsWithin tildes l) named → Total (attributes around first p scope named)
  unfolding attributes
  attributes_total scope named h = all_total (AttributeIsWithin tildes l) (attribute around first p scope) (attribute_total scope) named h

  children_total : (scope : Scope) (cs : List MarkupChild) → AllOf (ChildIsWithin tildes l) cs → Total (children around first p scope cs)
  unfolding children
  children_total scope cs h = all_total (ChildIsWithin tildes l) (child around first p scope) (child_total scope) cs h

  entries_total : (scope : Scope) (qs : List Prop) → AllOf (PropIsWithin tildes l) qs → Total (entries around first p scope qs)
  unfolding entries
  entries_total scope qs h = all_total (PropIsWithin tildes l) (entry around first p scope) (entry_total scope) qs h

  arguments_total : (scope : Scope) (es : List Expr) → AllOf l.expr es → Total (exprs around first p scope es)
  arguments_total scope es h = exprs_total around first p l F below scope es h

  node_total : (scope : Scope) (e : ExprKindLayer Tree) → ExprIsWithin tildes l e → Total (node_at around first p scope e)
  node_total scope (ExprKind-F.Name text) h = total_pure _
  node_total scope (ExprKind-F.Num n) h = total_pure _
  node_total scope (ExprKind-F.ExprKind::Text text) h = total_pure _
  node_total scope (ExprKind-F.Bool b) h = total_pure _
  node_total scope ExprKind-F.Null h = total_pure _
  node_total scope ExprKind-F.Undefined h = total_pure _
  node_total scope (ExprKind-F.Arr es) h = total_bind (arguments_total scope es h) (λ us. total_pure _)
  node_total scope (ExprKind-F.Obj qs) h = total_bind (entries_total scope qs h) (λ us. total_pure _)
  node_total scope (ExprKind-F.Fun f) h = total_bind (function_total around first p l F below scope (own_name (out-Function f).name) f h) (λ n. total_pure _)
  node_total scope (ExprKind-F.Unary op a) h = total_bind (below.expr scope a h) (λ u. total_pure _)
  node_total scope (ExprKind-F.Step kind a) h = total_bind (below.expr scope a h) (λ u. total_pure _)
  node_total scope (ExprKind-F.Binary op a b) h = total_bind (below.expr scope a h.0) (λ u. total_bind (below.expr scope b h.1) (λ v. total_pure _))
  node_total scope (ExprKind-F.And a b) h = total_bind (below.expr scope a h.0) (λ u. total_bind (below.expr scope b h.1) (λ v. total_pure _))
  node_total scope (ExprKind-F.Or a b) h = total_bind (below.expr scope a h.0) (λ u. total_bind (below.expr scope b h.1) (λ v. total_pure _))
  node_total scope (ExprKind-F.Cond a b c) h = total_bind (below.expr scope a h.0) (λ u. total_bind (below.expr scope b h.1) (λ v. total_bind (below.expr scope c h.2) (λ w. total_pure _)))
  node_total scope (ExprKind-F.Assign op a b) h = total_bind (below.expr scope a h.0) (λ u. total_bind (below.expr scope b h.1) (λ v. total_pure _))
  node_total scope (ExprKind-F.Index a b) h = total_bind (below.expr scope a h.0) (λ u. total_bind (below.expr scope b h.1) (λ v. total_pure _))
  node_total scope (ExprKind-F.Call a es) h = total_bind (below.expr scope a h.0) (λ u. total_bind (arguments_total scope es h.1) (λ us. total_pure _))
  node_total scope (ExprKind-F.ExprKind::Tilde id) h = total_bind (arguments_total scope (dollars_of (slice_get tildes id)) h) (λ us. total_pure _)
  node_total scope (ExprKind-F.ExprKind::Dollar at) h = total_pure _
  node_total scope (ExprKind-F.Stray a) h = total_pure _
  node_total scope (ExprKind-F.Markup m) h = total_bind (attributes_total scope (out-Markup m).attributes h.0) (λ named. total_bind (children_total scope (out-Markup m).children h.1) (λ cs. total_pure _))
  node_total scope (ExprKind-F.Val d) h = total_pure _

  -- ---- statements

  value_total : (scope : Scope) (e : Option Expr) → IfThere l.expr e → Total (value around first p scope e)
  unfolding value
  value_total scope e h = optional_total l.expr (p.expr scope) (below.expr scope) e h

  branch_total : (scope : Scope) (size : ℕ) (t : Option Stmt) → IfThere l.stmt t → Total (branch around first p scope size t)
  unfolding branch
  branch_total scope size t h = optional_total l.stmt (p.stmt scope size) (below.stmt scope size) t h

  declaration_total : (scope : Scope) (d : Decl) → DeclIsWithin tildes l d → Total (declaration around first p scope d)
  unfolding declaration
  declaration_total scope d h = total_bind (value_total scope _ h) (λ v. total_pure _)

  declarations_total : (scope : Scope) (ds : List Decl) → AllOf (DeclIsWithin tildes l) ds → Total (declarations around first p scope ds)
  unfolding declarations
  declarations_total scope ds h = all_total (DeclIsWithin tildes l) (declaration around first p scope) (declaration_total scope) ds h

  start_total : (scope : Scope) (s : ForStartLayer Tree) → StartIsWithin tildes l s → Total (start_at around first p scope s)
  start_total scope ForStart-F.Absent h = total_pure _
  start_total scope (ForStart-F.ForStart::Var ds) h = total_bind (declarations_total scope ds h) (λ us. total_pure _)
  start_total scope (ForStart-F.ForStart::Expr e) h = total_bind (below.expr scope e h) (λ u. total_pure _)

  begin_total : (scope : Scope) (s : ForStart) → StartIsWithin tildes l (out-ForStart s) → Total (begin around first p scope s)
  unfolding begin
  begin_total scope s h = start_total scope (out-ForStart s) h

  block_total : (scope : Scope) (size : ℕ) (ts : List Stmt) → AllOf l.stmt ts → Total (block around first p scope size ts)
  unfolding block
  block_total scope size ts h = total_bind (stmts_total around first p l F below _ _ ts h) (λ us. total_pure _)

  handler_total : (scope : Scope) (size : ℕ) (text : List ℕ) (t : Stmt) → l.stmt t → Total (handler around first p scope size text t)
  unfolding handler
  handler_total scope size text t h = below.stmt _ _ t h

  act_total : (scope : Scope) (size : ℕ) (t : StmtKindLayer Tree) → StmtIsWithin tildes l t → Total (act_at around first p scope size t)
  act_total scope size (StmtKind-F.StmtKind::Expr e) h = total_bind (below.expr scope e h) (λ u. total_pure _)
  act_total scope size (StmtKind-F.StmtKind::Var kind ds) h = total_bind (declarations_total scope ds h) (λ us. total_pure _)
  act_total scope size (StmtKind-F.Function f) h = total_pure _
  act_total scope size (StmtKind-F.Service f) h = total_pure _
  act_total scope size (StmtKind-F.If e a b) h = total_bind (below.expr scope e h.0) (λ u. total_bind (below.stmt scope size a h.1) (λ v. total_bind (branch_total scope size b h.2) (λ w. total_pure _)))
  act_total scope size (StmtKind-F.While e a) h = total_bind (below.expr scope e h.0) (λ u. total_bind (below.stmt scope size a h.1) (λ v. total_pure _))
  act_total scope size (StmtKind-F.For s test step a) h =
      total_bind (begin_total scope s h.0) (λ u. total_bind (value_total scope test h.1) (λ v. total_bind (value_total scope step h.2) (λ w. total_bind (below.stmt scope size a h.3) (λ x. total_pure _))))
  act_total scope size (StmtKind-F.Return e) h = total_bind (value_total scope e h) (λ u. total_pure _)
  act_total scope size StmtKind-F.Break h = total_pure _
  act_total scope size StmtKind-F.Continue h = total_pure _
  act_total scope size (StmtKind-F.Throw e) h = total_bind (below.expr scope e h) (λ u. total_pure _)
  act_total scope size (StmtKind-F.Try a text b) h = total_bind (below.stmt scope size a h.0) (λ u. total_bind (handler_total scope size text.name b h.1) (λ v. total_pure _))
  act_total scope size (StmtKind-F.Block ts) h = block_total scope size ts h
  act_total scope size StmtKind-F.Empty h = total_pure _

declares_at : (ts : List Tilde) (l : Limits) (k : StmtKindLayer Tree) → StmtIsWithin ts l k → DeclaredIs (BodyIsWithin ts l) k
declares_at ts l (StmtKind-F.Function f) h = h
declares_at ts l (StmtKind-F.Service f) h = h
declares_at ts l _ h = tt

-- a function that a statement at most so deep declares
abbrev FunctionIs : List Tilde → ℕ → SyntaxFunction → Type 0
FunctionIs ts zero f = ⊥
FunctionIs ts (suc depth) f = BodyIsWithin ts (within ts depth) f

module _ (around : Surroundings) (first : ℕ) where
  level_total : (depth : ℕ) → TotalParts (level around first depth) (within around.tildes depth) (FunctionIs around.tildes depth)
  unfolding node act
  level_total zero = record { expr = λ scope e h. absurd h; stmt = λ scope size t h. absurd h; function = λ scope f h. absurd h; declares = λ t h. absurd h }
  level_total (suc depth) =
      let below = level_total depth in
      record {
        expr = λ scope e h. node_total around first (level around first depth) (within around.tildes depth) (FunctionIs around.tildes depth) below scope (expr_kind_of e) h;
        stmt = λ scope size t h. act_total around first (level around first depth) (within around.tildes depth) (FunctionIs around.tildes depth) below scope size (kind_of t) h;
        function = λ scope f h. function_total around first (level around first depth) (within around.tildes depth) (FunctionIs around.tildes depth) below scope None f h;
        declares = λ t h. declares_at around.tildes (within around.tildes depth) (kind_of t) h;
      }

  whole : TotalParts (at around first depth_limit) (within around.tildes depth_limit) (FunctionIs around.tildes depth_limit)
  unfolding at
  whole = level_total depth_limit

  service_named_total : (scope : Scope) (done : List Service) (name : Option Mark) (f : SyntaxFunction) → FunctionIs around.tildes depth_limit f → Total (service_named around first scope done name f)
  service_named_total scope done None f h = total_pure done
  service_named_total scope done (Some m) f h = total_bind (whole.function scope f h) (λ n. total_pure _)

  service_one_total : (scope : Scope) (done : List Service) (t : StmtKindLayer Tree) → DeclaredIs (FunctionIs around.tildes depth_limit) t → Total (service_one around first scope done t)
  service_one_total scope done (StmtKind-F.Service f) h = service_named_total scope done (out-Function f).name f h
  service_one_total scope done _ h = total_pure done

  services_from_total : (scope : Scope) (done : List Service) (ts : List Stmt) → AllOf (within around.tildes depth_limit).stmt ts → Total (services_from around first scope done ts)
  services_from_total scope done [] h = total_pure done
  services_from_total scope done (t ∷ ts) h = total_bind (service_one_total scope done (kind_of t) (whole.declares t h.0)) (λ ss. services_from_total scope ss ts h.1)

  services_total : (scope : Scope) (items : List Stmt) → AllOf (within around.tildes depth_limit).stmt items → Total (all_services around first scope items)
  unfolding all_services
  services_total scope items h = services_from_total scope [] items h

  file_total : (items : List Stmt) → AreWithin around.tildes items → Total (file around first items)
  unfolding file AreWithin
  file_total items h =
      total_bind (body_total around first (at around first depth_limit) (within around.tildes depth_limit) (FunctionIs around.tildes depth_limit) whole _ _ _ _ items h) (λ b. total_bind (services_total _ items h) (λ ss. total_pure _))

  client_total : (items : List Stmt) → AreWithin around.tildes items → Total (client_code around first items)
  unfolding client_code AreWithin
  client_total items h =
      total_bind (hoisted_total around first (at around first depth_limit) (within around.tildes depth_limit) (FunctionIs around.tildes depth_limit) whole _ items h) (λ hs.
      total_bind (stmts_total around first (at around first depth_limit) (within around.tildes depth_limit) (FunctionIs around.tildes depth_limit) whole _ _ items h) (λ us. total_pure _))

  -- so nothing else than a result comes
  file_given : (items : List Stmt) (fs fs' : List Function) (x : Exit) → AreWithin around.tildes items → file around first items fs ≡ leaves x fs' → ⊥
  file_given items fs fs' x h e = subst (λ r. IsGiven r) e ((file_total items h).run fs)

  client_given : (items : List Stmt) (fs fs' : List Function) (x : Exit) → AreWithin around.tildes items → client_code around first items fs ≡ leaves x fs' → ⊥
  client_given items fs fs' x h e = subst (λ r. IsGiven r) e ((client_total items h).run fs)

-- what fails has no memory
no_other : {A : Type 0} (r : Ran (List Function) A) (x : Exit) (new : List Function) → (r ≡ leaves x new → ⊥) → (x ≢ exit.NoMemory → r ≡ leaves x new) → x ≡ exit.NoMemory
no_other r exit.NoMemory new never h = refl
no_other r (exit.Throw v) new never h = absurd (never (h (λ e. cc)))
no_other r (exit.Stop s) new never h = absurd (never (h (λ e. cc)))

pub file_refuses : (around : Surroundings) (tildes : List Tilde) (first : ℕ) (items : List Stmt) (fs fs' : List Function) (x : Exit) → around.tildes ≡ tildes → AreWithin tildes items → (x ≢ exit.NoMemory → file around first items fs ≡ leaves x fs') → x ≡ exit.NoMemory
file_refuses around ts first items fs fs' x is h e =
    no_other (file around first items fs) x fs' (file_given around first items fs fs' x (subst (λ (ts : List Tilde). AreWithin ts items) (sym is) h)) e

pub client_refuses : (around : Surroundings) (tildes : List Tilde) (first : ℕ) (items : List Stmt) (fs fs' : List Function) (x : Exit) → around.tildes ≡ tildes → AreWithin tildes items → (x ≢ exit.NoMemory → client_code around first items fs ≡ leaves x fs') → x ≡ exit.NoMemory
client_refuses around ts first items fs fs' x is h e =
    no_other (client_code around first items fs) x fs' (client_given around first items fs fs' x (subst (λ (ts : List Tilde). AreWithin ts items) (sym is) h)) e
