-- The evaluation of code by names, one case for each statement and expression of the syntax tree.
use Rattle.std.specs.Prelude.{ℕ, zero, suc, true, List, [], ◌∷◌, map, Option, None, Some, slice_get}
use Rattle.mt_eval_meaning.specs.Calls as calls
use Rattle.mt_eval_meaning.specs.Entering.{Closure, Named, closure, closure_at, capture, enter_function, enter_file, enter_client, enter_block, enter_handler}
use Rattle.mt_eval_meaning.specs.Expressions as forms
use Rattle.mt_eval_meaning.specs.Hoisting.{kind_of, services}
use Rattle.mt_eval_meaning.specs.Host.{Meaning, Outside, outside_by}
use Rattle.mt_eval_meaning.specs.Names.{Environment, Surroundings, Tier, server, client, referent, whole}
use Rattle.mt_eval_meaning.specs.References.{read_name, write_name, declare}
use Rattle.mt_eval_meaning.specs.Runs.{Ran, gives, leaves, ◌>>=◌, ◌>>◌, pure, leave, each}
use Rattle.mt_eval_meaning.specs.State.{Eval, on_state, spend, throw}
use Rattle.mt_eval_meaning.specs.Statements as statements
use Rattle.mt_eval_meaning.specs.Statements.{returned}
use Rattle.mt_eval_meaning.specs.declared.callee.Callee.{Callee}
use Rattle.mt_eval_meaning.specs.declared.completion.Completion.{Completion}
use Rattle.mt_eval_meaning.specs.declared.completion.Completion.TheVariants as completion
use Rattle.mt_eval_meaning.specs.declared.exit.Exit.TheVariants as exit
use Rattle.mt_eval_meaning.specs.declared.exit.Stop.TheVariants as stop
use Rattle.mt_eval_meaning.specs.declared.named_value.NamedValue.{NamedValue}
use Rattle.mt_eval_meaning.specs.declared.reference.Reference.{Reference}
use Rattle.mt_eval_meaning.specs.declared.reference.Reference.TheVariants as reference
use Rattle.mt_eval_meaning.specs.declared.state.State.{State}
use Rattle.mt_ops.specs.declared.error.ErrorKind.TheVariants as error
use Rattle.mt_syntax.specs.Fold.{Tree, ExprKindLayer, ForStartLayer, MarkupChildLayer, MarkupValueLayer, StmtKindLayer, DeclLayer}
use Rattle.mt_syntax.specs.declared.program.Program.{Program}
use Rattle.mt_syntax.specs.declared.program.Tilde.{Tilde}
use Rattle.mt_syntax.specs.declared.tree.Decl.{Decl, out-Decl}
use Rattle.mt_syntax.specs.declared.tree.Expr.{Expr, out-Expr}
use Rattle.mt_syntax.specs.declared.tree.ExprKind.{out-ExprKind}
use Rattle.mt_syntax.specs.declared.tree.ForStart.{ForStart, out-ForStart}
use Rattle.mt_syntax.specs.declared.tree.Function.{Function, out-Function}
use Rattle.mt_syntax.specs.declared.tree.Mark.{Mark}
use Rattle.mt_syntax.specs.declared.tree.Markup.{Markup, out-Markup}
use Rattle.mt_syntax.specs.declared.tree.MarkupAttribute.{MarkupAttribute, out-MarkupAttribute}
use Rattle.mt_syntax.specs.declared.tree.MarkupChild.{MarkupChild, out-MarkupChild}
use Rattle.mt_syntax.specs.declared.tree.MarkupValue.{MarkupValue, out-MarkupValue}
use Rattle.mt_syntax.specs.declared.tree.Prop.{Prop, out-Prop}
use Rattle.mt_syntax.specs.declared.tree.Stmt.{Stmt}
use Rattle.mt_tree.specs.declared.operators.VarKind.{VarKind}
use Rattle.mt_tree.specs.declared.operators.VarKind.TheVariants as word
use Rattle.mt_tree.specs.declared.operators.Binary.{Binary}
use Rattle.mt_syntax.specs.declared.tree.ExprKind.TheOpen.{ExprKind-F, ForStart-F, MarkupChild-F, MarkupValue-F, StmtKind-F}
use Rattle.mt_value.specs.declared.cell.Property.{Property}
use Rattle.mt_value.specs.declared.value.Value.{Value}
use Rattle.mt_value.specs.declared.value.Value.TheVariants as value
use Rattle.mt_tree.specs.Limits.{call_limit, depth_limit}

-- the evaluation of the parts of a node
pub record Parts (H : Type 0) : Type 0 where
  pub expr : Expr → Environment → Eval (Named H) Value
  pub stmt : Stmt → Environment → Eval (Named H) Completion

abbrev pub expr_kind_of : Expr → ExprKindLayer Tree
expr_kind_of e = out-ExprKind (out-Expr e).kind

abbrev pub dollars_of : Option Tilde → List Expr
dollars_of None = []
dollars_of (Some t) = t.dollars

-- the name that a function expression has inside
abbrev pub own_name : Option Mark → Option (List ℕ)
own_name None = None
own_name (Some m) = Some m.name

-- Code is evaluated in its surroundings, and `p` evaluates the parts of a node.
module _ {H : Type 0} (around : Surroundings) (outside : Outside (Named H)) (p : Parts H) where
  -- ---- expressions

  abbrev pub exprs : List Expr → Environment → List (Eval (Named H) Value)
  exprs es environment = map (λ e. p.expr e environment) es

  -- what an expression names as a target. The grammar has no other targets than these two.
  abbrev pub target_at : ExprKindLayer Tree → Environment → Eval (Named H) Reference
  target_at (ExprKind-F.Name text) environment = pure (reference.Name text (referent around environment text))
  target_at (ExprKind-F.Index a k) environment = do
    base ← p.expr a environment
    key ← p.expr k environment
    pure (reference.Property base key)
  target_at _ environment = pure (reference.Property value.Undefined value.Undefined)

  abbrev pub target : Expr → Environment → Eval (Named H) Reference
  target e environment = target_at (expr_kind_of e) environment

  abbrev pub callee_at : ExprKindLayer Tree → Expr → Environment → Eval (Named H) Callee
  callee_at (ExprKind-F.Index a k) e environment = calls.member_callee outside (p.expr a environment) (p.expr k environment)
  callee_at _ e environment = calls.plain_callee outside (p.expr e environment)

  abbrev pub assigned_by : Option Binary → Expr → Expr → Environment → Eval (Named H) Value
  assigned_by None a b environment = forms.assignment outside (target a environment) (p.expr b environment)
  assigned_by (Some op) a b environment = forms.update outside op (target a environment) (p.expr b environment)

  abbrev pub entry : Prop → Environment → Eval (Named H) Property
  entry q environment = forms.entry (out-Prop q).name (p.expr (out-Prop q).value environment)

  abbrev pub attribute_value : MarkupValueLayer Tree → Environment → Eval (Named H) Value
  attribute_value (MarkupValue-F.Quoted text) environment = pure (value.Text text)
  attribute_value (MarkupValue-F.MarkupValue::Tilde e) environment = p.expr e environment
  attribute_value (MarkupValue-F.MarkupValue::Dollar e) environment = p.expr e environment

  abbrev pub attribute : MarkupAttribute → Environment → Eval (Named H) NamedValue
  attribute a environment = forms.attribute outside (out-MarkupAttribute a).name.name (attribute_value (out-MarkupValue (out-MarkupAttribute a).value) environment)

  abbrev pub child_at : MarkupChildLayer Tree → Environment → Eval (Named H) Value
  child_at (MarkupChild-F.MarkupChild::Text text) environment = pure (value.Text text)
  child_at (MarkupChild-F.Direct e) environment = p.expr e environment
  child_at (MarkupChild-F.MarkupChild::Dollar e) environment = p.expr e environment

  abbrev pub child : MarkupChild → Environment → Eval (Named H) Value
  child c environment = child_at (out-MarkupChild c) environment

  abbrev pub element : Markup → Environment → Eval (Named H) Value
  element m environment =
      forms.element outside (out-Markup m).tag (map (λ a. attribute a environment) (out-Markup m).attributes) (map (λ c. child c environment) (out-Markup m).children)

  -- No code that is evaluated has a dollar, whose expression stands in its tilde, nor one where none may stand.
  abbrev pub expr_at : ExprKindLayer Tree → Environment → Eval (Named H) Value
  expr_at (ExprKind-F.Name text) environment = forms.looked_up outside (read_name outside text (referent around environment text))
  expr_at (ExprKind-F.Num n) environment = forms.constant (value.Num n)
  expr_at (ExprKind-F.ExprKind::Text text) environment = forms.constant (value.Text text)
  expr_at (ExprKind-F.Bool b) environment = forms.constant (value.Bool b)
  expr_at ExprKind-F.Null environment = forms.constant value.Null
  expr_at ExprKind-F.Undefined environment = forms.constant value.Undefined
  expr_at (ExprKind-F.Arr items) environment = forms.array (exprs items environment)
  expr_at (ExprKind-F.Obj props) environment = forms.object (map (λ q. entry q environment) props)
  expr_at (ExprKind-F.Fun f) environment = forms.function (capture (closure around (own_name (out-Function f).name) f environment))
  expr_at (ExprKind-F.Unary op a) environment = forms.unary op (p.expr a environment)
  expr_at (ExprKind-F.Step kind a) environment = forms.count outside kind (target a environment)
  expr_at (ExprKind-F.Binary op a b) environment = forms.operation op (p.expr a environment) (p.expr b environment)
  expr_at (ExprKind-F.And a b) environment = forms.conjunction (p.expr a environment) (p.expr b environment)
  expr_at (ExprKind-F.Or a b) environment = forms.disjunction (p.expr a environment) (p.expr b environment)
  expr_at (ExprKind-F.Cond a b c) environment = forms.conditional (p.expr a environment) (p.expr b environment) (p.expr c environment)
  expr_at (ExprKind-F.Assign op a b) environment = assigned_by op a b environment
  expr_at (ExprKind-F.Index a k) environment = forms.index outside (p.expr a environment) (p.expr k environment)
  expr_at (ExprKind-F.Call f arguments) environment = calls.call outside (callee_at (expr_kind_of f) f environment) (exprs arguments environment)
  expr_at (ExprKind-F.ExprKind::Tilde id) environment = forms.tilde outside id (exprs (dollars_of (slice_get around.tildes id)) environment)
  expr_at (ExprKind-F.ExprKind::Dollar at) environment = forms.constant value.Undefined
  expr_at (ExprKind-F.Stray a) environment = forms.constant value.Undefined
  expr_at (ExprKind-F.Markup m) environment = element m environment
  expr_at (ExprKind-F.Val d) environment = forms.built d

  unfoldable pub expr : Expr → Environment → Eval (Named H) Value
  expr e environment = expr_at (expr_kind_of e) environment

  -- ---- statements

  abbrev pub stmts : List Stmt → Environment → Eval (Named H) Completion
  stmts ts environment = statements.sequence (map (λ t. p.stmt t environment) ts)

  -- `var` assigns to the variable, where there is a value; `let` and `const` declare theirs
  abbrev pub declared_by : VarKind → List ℕ → Option Expr → Environment → Eval (Named H) (Unit {0})
  declared_by word.Var text None environment = pure tt
  declared_by word.Var text (Some e) environment = p.expr e environment >>= (λ v. on_state (write_name text (referent around environment text) v))
  declared_by _ text None environment = on_state (declare text (referent around environment text) value.Undefined)
  declared_by _ text (Some e) environment = p.expr e environment >>= (λ v. on_state (declare text (referent around environment text) v))

  abbrev pub declaration : VarKind → Decl → Environment → Eval (Named H) (Unit {0})
  declaration kind d environment = declared_by kind (out-Decl d).name.name (out-Decl d).value environment

  abbrev pub declarations : VarKind → List Decl → Environment → Eval (Named H) (Unit {0})
  declarations kind decls environment = each (map (λ d. declaration kind d environment) decls)

  abbrev pub started_by : ForStartLayer Tree → Environment → Eval (Named H) (Unit {0})
  started_by ForStart-F.Absent environment = pure tt
  started_by (ForStart-F.ForStart::Var decls) environment = declarations word.Var decls environment
  started_by (ForStart-F.ForStart::Expr e) environment = p.expr e environment >> pure tt

  -- no test is passed
  abbrev pub tested_by : Option Expr → Environment → Eval (Named H) Value
  tested_by None environment = pure (value.Bool true)
  tested_by (Some e) environment = p.expr e environment

  abbrev pub stepped_by : Option Expr → Environment → Eval (Named H) (Unit {0})
  stepped_by None environment = pure tt
  stepped_by (Some e) environment = p.expr e environment >> pure tt

  abbrev pub or_else : Option Stmt → Environment → Eval (Named H) Completion
  or_else None environment = pure completion.Normal
  or_else (Some t) environment = p.stmt t environment

  abbrev pub returned_by : Option Expr → Environment → Eval (Named H) Completion
  returned_by None environment = pure (completion.Return value.Undefined)
  returned_by (Some e) environment = statements.given_back (p.expr e environment)

  unfoldable pub handler : List ℕ → Stmt → Environment → Value → Eval (Named H) Completion
  handler text t environment v = do
    inner ← enter_handler text v environment
    p.stmt t inner

  unfoldable pub block : List Stmt → Environment → Eval (Named H) Completion
  block ts environment = do
    inner ← enter_block ts environment
    stmts ts inner

  -- functions and services were made at the entry
  abbrev pub stmt_at : StmtKindLayer Tree → Environment → Eval (Named H) Completion
  stmt_at (StmtKind-F.StmtKind::Expr e) environment = statements.expression (p.expr e environment)
  stmt_at (StmtKind-F.StmtKind::Var kind decls) environment = statements.finished (declarations kind decls environment)
  stmt_at (StmtKind-F.Function f) environment = pure completion.Normal
  stmt_at (StmtKind-F.Service f) environment = pure completion.Normal
  stmt_at (StmtKind-F.If test a b) environment = statements.choice (p.expr test environment) (p.stmt a environment) (or_else b environment)
  stmt_at (StmtKind-F.While test body) environment = statements.loop (p.expr test environment) (p.stmt body environment) (pure tt)
  stmt_at (StmtKind-F.For start test step body) environment =
      statements.starting (started_by (out-ForStart start) environment) (statements.loop (tested_by test environment) (p.stmt body environment) (stepped_by step environment))
  stmt_at (StmtKind-F.Return e) environment = returned_by e environment
  stmt_at StmtKind-F.Break environment = pure completion.Break
  stmt_at StmtKind-F.Continue environment = pure completion.Continue
  stmt_at (StmtKind-F.Throw e) environment = statements.thrown (p.expr e environment)
  stmt_at (StmtKind-F.Try body text t) environment = statements.attempt (p.stmt body environment) (handler text.name t environment)
  stmt_at (StmtKind-F.Block ts) environment = block ts environment
  stmt_at StmtKind-F.Empty environment = pure completion.Normal

  unfoldable pub stmt : Stmt → Environment → Eval (Named H) Completion
  stmt t environment = on_state (spend 0) >> stmt_at (kind_of t) environment

  -- ---- bodies

  unfoldable pub body : List Stmt → Environment → Eval (Named H) Value
  body ts environment = do
    ending ← stmts ts environment
    pure (returned ending)

  unfoldable pub function_body : Closure → ℕ → List Value → Eval (Named H) Value
  function_body c at arguments = do
    environment ← enter_function around c at arguments
    body (out-Function c.function).body environment

-- ---- the recursion: by the calls of functions that may still begin, and within one of them by the depth of the syntax

module _ {H A : Type 0} where
  abbrev pub beside_closures : Named H → Ran (State × H) A → Ran (State × Named H) A
  beside_closures n (gives a s) = gives a (s.0, record n { host = s.1 })
  beside_closures n (leaves e s) = leaves e (s.0, record n { host = s.1 })

  -- a step on the host, which stands beside what functions hold
  abbrev pub on_host : Eval H A → Eval (Named H) A
  on_host p = λ s. beside_closures s.1 (p (s.0, s.1.host))

module _ {H : Type 0} (around : Surroundings) (host : Meaning H) where
  abbrev pub Enter : Type 0
  Enter = ℕ → List Value → Eval (Named H) Value

  abbrev pub outside_with : Enter → Outside (Named H)
  outside_with enter = outside_by host on_host enter

  abbrev pub parts : Enter → ℕ → Parts H
  parts enter zero = record { expr = λ e environment. leave (exit.Stop stop.Depth); stmt = λ t environment. leave (exit.Stop stop.Depth) }
  parts enter (suc depth) = record { expr = expr around (outside_with enter) (parts enter depth); stmt = stmt around (outside_with enter) (parts enter depth) }

  -- a call of what is no function throws
  abbrev pub entered_by : (Closure → Eval (Named H) Value) → Option Closure → Eval (Named H) Value
  entered_by enter None = on_state (throw error.NotFunction)
  entered_by enter (Some c) = enter c

  abbrev pub with_closure : ℕ → (Closure → Eval (Named H) Value) → Eval (Named H) Value
  with_closure at enter = λ s. entered_by enter (closure_at at s.1.closures) s

  -- the call of the function in a cell, where that many may still begin
  abbrev pub enter_to : ℕ → Enter
  enter_to zero at arguments = with_closure at (λ c. leave (exit.Stop stop.Depth))
  enter_to (suc left) at arguments = with_closure at (λ c. function_body around (outside_with (enter_to left)) (parts (enter_to left) depth_limit) c at arguments)

  -- ---- whole jobs

  -- the top of the file, whose environment the services have
  unfoldable pub file : List Stmt → Eval (Named H) Environment
  file items = do
    environment ← enter_file around items
    body around (outside_with (enter_to call_limit)) (parts (enter_to call_limit) depth_limit) items environment
    pure environment

  -- the code of a tilde, with values in the place of its dollars
  unfoldable pub client_code : List Stmt → Eval (Named H) Value
  client_code items = do
    environment ← enter_client around items
    body around (outside_with (enter_to call_limit)) (parts (enter_to call_limit) depth_limit) items environment

  -- a call that begins a job, and is not counted
  unfoldable pub called : Value → List Value → Eval (Named H) Value
  called f arguments = calls.applied (outside_with (enter_to (suc call_limit))) f arguments

abbrev pub server_surroundings : Program → Surroundings
server_surroundings p = record { tier = server; services = map (λ s. s.0) (services p.items); tildes = p.tildes; kept = whole }

abbrev pub client_surroundings : Surroundings
client_surroundings = record { tier = client; services = []; tildes = []; kept = whole }
