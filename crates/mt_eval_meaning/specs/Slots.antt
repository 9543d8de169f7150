-- The evaluation of code whose names are resolved, one case for each statement and expression.
use Rattle.std.specs.Prelude.{ℕ, zero, suc, true, List, [], ◌∷◌, ◌++◌, map, Option, None, Some, slice_get}
use Rattle.mt_eval_meaning.specs.Calls as calls
use Rattle.mt_eval_meaning.specs.Expressions as forms
use Rattle.mt_eval_meaning.specs.Host.{Meaning, Outside, outside_by}
use Rattle.mt_eval_meaning.specs.References.{read_name, write_name, declare}
use Rattle.mt_eval_meaning.specs.Runs.{◌>>=◌, ◌>>◌, pure, leave, each}
use Rattle.mt_eval_meaning.specs.State.{Eval, on_state, spend, throw}
use Rattle.mt_eval_meaning.specs.Statements as statements
use Rattle.mt_eval_meaning.specs.Statements.{returned}
use Rattle.mt_eval_meaning.specs.declared.callee.Callee.{Callee}
use Rattle.mt_eval_meaning.specs.declared.completion.Completion.{Completion}
use Rattle.mt_eval_meaning.specs.declared.completion.Completion.TheVariants as completion
use Rattle.mt_eval_meaning.specs.declared.exit.Exit.TheVariants as exit
use Rattle.mt_eval_meaning.specs.declared.exit.Stop.TheVariants as stop
use Rattle.mt_eval_meaning.specs.declared.named_value.NamedValue.{NamedValue}
use Rattle.mt_eval_meaning.specs.declared.reference.Reference.{Reference}
use Rattle.mt_eval_meaning.specs.declared.reference.Reference.TheVariants as reference
use Rattle.mt_ops.specs.declared.error.ErrorKind.TheVariants as error
use Rattle.mt_eval_meaning.specs.Activations.{Activation, referent, capture, grown, enter_function, enter_unit}
use Rattle.mt_eval_meaning.specs.declared.expr.Attribute.{Attribute, out-Attribute}
use Rattle.mt_eval_meaning.specs.declared.expr.Entry.{Entry, out-Entry}
use Rattle.mt_eval_meaning.specs.declared.expr.Expr.{Expr, out-Expr}
use Rattle.mt_eval_meaning.specs.declared.expr.Expr.TheOpen.{Expr-F, Piece-F}
use Rattle.mt_eval_meaning.specs.declared.expr.Piece.{Piece, out-Piece}
use Rattle.mt_eval_meaning.specs.declared.function.Function.{Function}
use Rattle.mt_eval_meaning.specs.declared.function.Unit.{Unit as Unit'}
use Rattle.mt_eval_meaning.specs.declared.name.Name.{Name}
use Rattle.mt_eval_meaning.specs.declared.stmt.Decl.{Decl}
use Rattle.mt_eval_meaning.specs.declared.stmt.ForStart.{ForStart}
use Rattle.mt_eval_meaning.specs.declared.stmt.ForStart.TheVariants as start
use Rattle.mt_eval_meaning.specs.declared.stmt.Stmt.{Stmt, out-Stmt}
use Rattle.mt_eval_meaning.specs.declared.stmt.Stmt.TheOpen.{Stmt-F}
use Rattle.mt_tree.specs.declared.operators.Binary.{Binary}
use Rattle.mt_tree.specs.declared.operators.VarKind.{VarKind}
use Rattle.mt_tree.specs.declared.operators.VarKind.TheVariants as word
use Rattle.mt_value.specs.declared.cell.Cell.{Cell}
use Rattle.mt_value.specs.declared.cell.Cell.TheVariants as cell
use Rattle.mt_value.specs.declared.cell.FunCell.{FunCell}
use Rattle.mt_value.specs.declared.cell.Property.{Property}
use Rattle.mt_value.specs.declared.value.Value.{Value}
use Rattle.mt_value.specs.declared.value.Value.TheVariants as value
use Rattle.mt_tree.specs.Limits.{call_limit, depth_limit}

abbrev pub ExprLayer : Type 0
ExprLayer = Expr-F Expr Piece Attribute Entry

abbrev pub PieceLayer : Type 0
PieceLayer = Piece-F Expr Piece Attribute Entry

abbrev pub StmtLayer : Type 0
StmtLayer = Stmt-F Stmt

-- the evaluation of the parts of a node
pub record Parts (H : Type 0) : Type 0 where
  pub expr : Expr → Activation → Eval H Value
  pub stmt : Stmt → Activation → Eval H Completion
  pub outside : Outside H

module _ {H : Type 0} (functions : List Function) (p : Parts H) where
  -- ---- expressions

  abbrev pub exprs : List Expr → Activation → List (Eval H Value)
  exprs es activation = map (λ e. p.expr e activation) es

  -- No code has other targets than these two.
  abbrev pub target_at : ExprLayer → Activation → Eval H Reference
  target_at (Expr-F.Name n) activation = pure (reference.Name n.text (referent activation n.binding))
  target_at (Expr-F.Index a k) activation = do
    base ← p.expr a activation
    key ← p.expr k activation
    pure (reference.Property base key)
  target_at _ activation = pure (reference.Property value.Undefined value.Undefined)

  unfoldable pub target : Expr → Activation → Eval H Reference
  target e activation = target_at (out-Expr e) activation

  abbrev pub callee_at : ExprLayer → Expr → Activation → Eval H Callee
  callee_at (Expr-F.Index a k) e activation = calls.member_callee p.outside (p.expr a activation) (p.expr k activation)
  callee_at _ e activation = calls.plain_callee p.outside (p.expr e activation)

  unfoldable pub callee : Expr → Activation → Eval H Callee
  callee e activation = callee_at (out-Expr e) e activation

  abbrev pub assigned_by : Option Binary → Expr → Expr → Activation → Eval H Value
  assigned_by None a b activation = forms.assignment p.outside (target a activation) (p.expr b activation)
  assigned_by (Some op) a b activation = forms.update p.outside op (target a activation) (p.expr b activation)

  abbrev pub entry : Entry → Activation → Eval H Property
  entry q activation = forms.entry (out-Entry q).name (p.expr (out-Entry q).value activation)

  abbrev pub piece_at : PieceLayer → Activation → Eval H Value
  piece_at (Piece-F.Piece::Text text) activation = pure (value.Text text)
  piece_at (Piece-F.Expr e) activation = p.expr e activation

  unfoldable pub piece : Piece → Activation → Eval H Value
  piece c activation = piece_at (out-Piece c) activation

  abbrev pub attribute : Attribute → Activation → Eval H NamedValue
  attribute a activation = forms.attribute p.outside (out-Attribute a).name (piece (out-Attribute a).value activation)

  abbrev pub expr_at : ExprLayer → Activation → Eval H Value
  expr_at (Expr-F.Name n) activation = forms.looked_up p.outside (read_name p.outside n.text (referent activation n.binding))
  expr_at (Expr-F.Num n) activation = forms.constant (value.Num n)
  expr_at (Expr-F.Expr::Text text) activation = forms.constant (value.Text text)
  expr_at (Expr-F.Bool b) activation = forms.constant (value.Bool b)
  expr_at Expr-F.Null activation = forms.constant value.Null
  expr_at Expr-F.Undefined activation = forms.constant value.Undefined
  expr_at (Expr-F.Arr items) activation = forms.array (exprs items activation)
  expr_at (Expr-F.Obj entries) activation = forms.object (map (λ q. entry q activation) entries)
  expr_at (Expr-F.Fun n) activation = forms.function (on_state (capture functions n activation))
  expr_at (Expr-F.Unary op a) activation = forms.unary op (p.expr a activation)
  expr_at (Expr-F.Step kind a) activation = forms.count p.outside kind (target a activation)
  expr_at (Expr-F.Binary op a b) activation = forms.operation op (p.expr a activation) (p.expr b activation)
  expr_at (Expr-F.And a b) activation = forms.conjunction (p.expr a activation) (p.expr b activation)
  expr_at (Expr-F.Or a b) activation = forms.disjunction (p.expr a activation) (p.expr b activation)
  expr_at (Expr-F.Cond a b c) activation = forms.conditional (p.expr a activation) (p.expr b activation) (p.expr c activation)
  expr_at (Expr-F.Assign op a b) activation = assigned_by op a b activation
  expr_at (Expr-F.Index a k) activation = forms.index p.outside (p.expr a activation) (p.expr k activation)
  expr_at (Expr-F.Call f arguments) activation = calls.call p.outside (callee f activation) (exprs arguments activation)
  expr_at (Expr-F.Tilde id dollars) activation = forms.tilde p.outside id (exprs dollars activation)
  expr_at (Expr-F.Element tag attributes children) activation =
      forms.element p.outside tag (map (λ a. attribute a activation) attributes) (map (λ c. piece c activation) children)
  expr_at (Expr-F.Val d) activation = forms.built d

  unfoldable pub expr : Expr → Activation → Eval H Value
  expr e activation = expr_at (out-Expr e) activation

  -- ---- statements

  abbrev pub stmts : List Stmt → Activation → Eval H Completion
  stmts ts activation = statements.sequence (map (λ t. p.stmt t activation) ts)

  -- `var` assigns to the variable, where there is a value; `let` and `const` declare theirs
  abbrev pub declared_by : VarKind → Name → Option Expr → Activation → Eval H (Unit {0})
  declared_by word.Var n None activation = pure tt
  declared_by word.Var n (Some e) activation = p.expr e activation >>= (λ v. on_state (write_name n.text (referent activation n.binding) v))
  declared_by _ n None activation = on_state (declare n.text (referent activation n.binding) value.Undefined)
  declared_by _ n (Some e) activation = p.expr e activation >>= (λ v. on_state (declare n.text (referent activation n.binding) v))

  unfoldable pub declaration : VarKind → Activation → Decl → Eval H (Unit {0})
  declaration kind activation d = declared_by kind d.name d.value activation

  abbrev pub declarations : VarKind → List Decl → Activation → Eval H (Unit {0})
  declarations kind decls activation = each (map (declaration kind activation) decls)

  abbrev pub started_by : ForStart → Activation → Eval H (Unit {0})
  started_by start.Absent activation = pure tt
  started_by (start.Var decls) activation = declarations word.Var decls activation
  started_by (start.Expr e) activation = p.expr e activation >> pure tt

  -- no test is passed
  abbrev pub tested_by : Option Expr → Activation → Eval H Value
  tested_by None activation = pure (value.Bool true)
  tested_by (Some e) activation = p.expr e activation

  abbrev pub stepped_by : Option Expr → Activation → Eval H (Unit {0})
  stepped_by None activation = pure tt
  stepped_by (Some e) activation = p.expr e activation >> pure tt

  abbrev pub or_else : Option Stmt → Activation → Eval H Completion
  or_else None activation = pure completion.Normal
  or_else (Some t) activation = p.stmt t activation

  abbrev pub returned_by : Option Expr → Activation → Eval H Completion
  returned_by None activation = pure (completion.Return value.Undefined)
  returned_by (Some e) activation = statements.given_back (p.expr e activation)

  unfoldable pub handler : Stmt → Activation → Value → Eval H Completion
  handler t activation v = do
    inner ← on_state (grown (suc zero) (Some v) activation)
    p.stmt t inner

  unfoldable pub block : ℕ → List Stmt → Activation → Eval H Completion
  block n ts activation = do
    inner ← on_state (grown n None activation)
    stmts ts inner

  abbrev pub stmt_at : StmtLayer → Activation → Eval H Completion
  stmt_at (Stmt-F.Expr e) activation = statements.expression (p.expr e activation)
  stmt_at (Stmt-F.Var kind decls) activation = statements.finished (declarations kind decls activation)
  stmt_at (Stmt-F.If test a b) activation = statements.choice (p.expr test activation) (p.stmt a activation) (or_else b activation)
  stmt_at (Stmt-F.While test body) activation = statements.loop (p.expr test activation) (p.stmt body activation) (pure tt)
  stmt_at (Stmt-F.For begin test step body) activation =
      statements.starting (started_by begin activation) (statements.loop (tested_by test activation) (p.stmt body activation) (stepped_by step activation))
  stmt_at (Stmt-F.Return e) activation = returned_by e activation
  stmt_at Stmt-F.Break activation = pure completion.Break
  stmt_at Stmt-F.Continue activation = pure completion.Continue
  stmt_at (Stmt-F.Throw e) activation = statements.thrown (p.expr e activation)
  stmt_at (Stmt-F.Try body t) activation = statements.attempt (p.stmt body activation) (handler t activation)
  stmt_at (Stmt-F.Block n ts) activation = block n ts activation
  stmt_at Stmt-F.Empty activation = pure completion.Normal

  unfoldable pub stmt : Stmt → Activation → Eval H Completion
  stmt t activation = on_state (spend 0) >> stmt_at (out-Stmt t) activation

  -- ---- bodies

  unfoldable pub body : List Stmt → Activation → Eval H Value
  body ts activation = do
    ending ← stmts ts activation
    pure (returned ending)

  abbrev pub function_body : Option Function → List ℕ → ℕ → List Value → Eval H Value
  function_body None captured at arguments = on_state (throw error.NotFunction)
  function_body (Some f) captured at arguments = do
    activation ← on_state (enter_function functions f captured at arguments)
    body f.body.statements activation

-- ---- the recursion: by the calls of functions that may still begin, and within one of them by the depth of the code

abbrev pub Enter : Type 0 → Type 0
Enter H = ℕ → List Value → Eval H Value

abbrev pub function_in : Option Cell → Option FunCell
function_in (Some (cell.Fun f)) = Some f
function_in _ = None

abbrev pub entered_by : {H : Type 0} → (FunCell → Eval H Value) → Option FunCell → Eval H Value
entered_by enter None = on_state (throw error.NotFunction)
entered_by enter (Some f) = enter f

-- a call of what is no function throws
unfoldable pub with_function : {H : Type 0} → ℕ → (FunCell → Eval H Value) → Eval H Value
with_function at enter = λ s. entered_by enter (function_in (slice_get s.0.store at)) s

-- the two functions of a level
pub record Level (H : Type 0) : Type 0 where
  pub expr : Expr → Activation → Eval H Value
  pub stmt : Stmt → Activation → Eval H Completion

abbrev pub over : {H : Type 0} → Meaning H → Enter H → Level H → Parts H
over host enter l = record { expr = l.expr; stmt = l.stmt; outside = outside_by host (λ p. p) enter }

module _ {H : Type 0} (functions : List Function) (host : Meaning H) where
  abbrev pub level : Enter H → ℕ → Level H
  level enter zero = record { expr = λ e activation. leave (exit.Stop stop.Depth); stmt = λ t activation. leave (exit.Stop stop.Depth) }
  level enter (suc depth) = record { expr = expr functions (over host enter (level enter depth)); stmt = stmt functions (over host enter (level enter depth)) }

  -- the call of the function in a cell, where that many may still begin
  abbrev pub enter_to : ℕ → Enter H
  enter_to zero at arguments = with_function at (λ f. leave (exit.Stop stop.Depth))
  enter_to (suc left) at arguments =
      with_function at (λ f. function_body functions (over host (enter_to left) (level (enter_to left) depth_limit)) (slice_get functions f.function) f.captured at arguments)

  unfoldable pub parts : ℕ → ℕ → Parts H
  parts calls depth = over host (enter_to calls) (level (enter_to calls) depth)

  -- ---- whole jobs

  -- the code of a tier, with the activation that its statements have
  unfoldable pub unit : Unit' → Eval H Value
  unit u = do
    activation ← on_state (enter_unit functions u)
    body functions (parts call_limit depth_limit) u.body.statements activation

  -- a call that begins a job, and is not counted
  unfoldable pub called : Value → List Value → Eval H Value
  called f arguments = calls.applied (parts (suc call_limit) depth_limit).outside f arguments
