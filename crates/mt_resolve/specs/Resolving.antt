-- How names are resolved: the code on slots of each part of the syntax. The state is the list of the new functions.
use Rattle.std.specs.Prelude.{ℕ, zero, suc, ◌+◌, ◌-◌, false, List, [], ◌∷◌, ◌++◌, length, map, Option, None, Some, Result, Ok, Err, slice_get, ◌≡◌, ◌≢◌}
use Rattle.mt_eval_meaning.specs.Code.{captured_scope, lexical_of}
use Rattle.mt_eval_meaning.specs.Scopes.{Scope, with_lexicals, with_name, own_given, parameter_entry, variable_entry, body_entry}
use Rattle.mt_resolve_names.specs.Bound.{captured, name_in}
use Rattle.mt_eval_meaning.specs.Evaluation.{dollars_of, expr_kind_of, own_name}
use Rattle.mt_eval_meaning.specs.Hoisting.{kind_of, lexicals, names_of}
use Rattle.mt_eval_meaning.specs.Names.{Surroundings}
use Rattle.mt_eval_meaning.specs.Runs.{Ran, gives, leaves, Run, ◌>>=◌, pure, leave, all}
use Rattle.mt_eval_meaning.specs.declared.exit.Exit.{Exit}
use Rattle.mt_eval_meaning.specs.declared.exit.Exit.TheVariants as exit
use Rattle.mt_eval_meaning.specs.declared.exit.Stop.TheVariants as stop
use Rattle.mt_eval_meaning.specs.declared.expr.Attribute.{Attribute, roll-Attribute}
use Rattle.mt_eval_meaning.specs.declared.expr.Entry.{Entry, roll-Entry}
use Rattle.mt_eval_meaning.specs.declared.expr.Expr.{Expr, roll-Expr}
use Rattle.mt_eval_meaning.specs.declared.expr.Expr.TheOpen.{Expr-F, Piece-F}
use Rattle.mt_eval_meaning.specs.declared.expr.Piece.{Piece, roll-Piece}
use Rattle.mt_eval_meaning.specs.declared.function.Body.{Body}
use Rattle.mt_eval_meaning.specs.declared.function.Function.{Function}
use Rattle.mt_eval_meaning.specs.declared.function.Hoisted.{Hoisted}
use Rattle.mt_eval_meaning.specs.declared.stmt.Decl.{Decl}
use Rattle.mt_eval_meaning.specs.declared.stmt.ForStart.{ForStart}
use Rattle.mt_eval_meaning.specs.declared.stmt.ForStart.TheVariants as start
use Rattle.mt_eval_meaning.specs.declared.stmt.Stmt.{Stmt, roll-Stmt}
use Rattle.mt_eval_meaning.specs.declared.stmt.Stmt.TheOpen.{Stmt-F}
use Rattle.mt_syntax.specs.Fold.{Tree, ExprKindLayer, ForStartLayer, MarkupChildLayer, MarkupValueLayer, StmtKindLayer}
use Rattle.mt_syntax.specs.declared.tree.Decl.{Decl as SyntaxDecl, out-Decl}
use Rattle.mt_syntax.specs.declared.tree.Expr.{Expr as SyntaxExpr}
use Rattle.mt_syntax.specs.declared.tree.ExprKind.TheOpen.{ExprKind-F, ForStart-F, MarkupChild-F, MarkupValue-F, StmtKind-F}
use Rattle.mt_syntax.specs.declared.tree.ForStart.{ForStart as SyntaxStart, out-ForStart}
use Rattle.mt_syntax.specs.declared.tree.Function.{Function as SyntaxFunction, out-Function}
use Rattle.mt_syntax.specs.declared.tree.Mark.{Mark}
use Rattle.mt_syntax.specs.declared.tree.Markup.{out-Markup}
use Rattle.mt_syntax.specs.declared.tree.MarkupAttribute.{MarkupAttribute, out-MarkupAttribute}
use Rattle.mt_syntax.specs.declared.tree.MarkupChild.{MarkupChild, out-MarkupChild}
use Rattle.mt_syntax.specs.declared.tree.MarkupValue.{out-MarkupValue}
use Rattle.mt_syntax.specs.declared.tree.Prop.{Prop, out-Prop}
use Rattle.mt_syntax.specs.declared.tree.Stmt.{Stmt as SyntaxStmt}

abbrev pub M : Type 0 → Type 0
M A = Run (List Function) A

-- what the code put into a list is what is meant, or it had no memory
abbrev pub EvalsInto : {S A : Type 0} → Ran S (List A) → Result (Unit {0}) Exit → List A → S → Type 0
EvalsInto ran (Ok done) made new = ran ≡ gives made new
EvalsInto ran (Err e) made new = e ≢ exit.NoMemory → ran ≡ leaves e new

-- a new function goes last; the first of them has the number `first`
unfoldable pub add : ℕ → Function → M ℕ
add first f = λ functions. gives (first + length functions) (functions ++ f ∷ [])

-- the resolution of the parts of a node: an expression, a statement, and a function that a body declares
pub record Parts : Type 0 where
  pub expr : Scope → SyntaxExpr → M Expr
  pub stmt : Scope → ℕ → SyntaxStmt → M Stmt
  pub function : Scope → SyntaxFunction → M ℕ

abbrev pub optional : {A B : Type 0} → (A → M B) → Option A → M (Option B)
optional resolve None = pure None
optional resolve (Some a) = resolve a >>= (λ b. pure (Some b))

module _ (around : Surroundings) (first : ℕ) (p : Parts) where
  -- ---- bodies and functions

  unfoldable pub exprs : Scope → List SyntaxExpr → M (List Expr)
  exprs scope es = all (map (λ e. p.expr scope e) es)

  unfoldable pub stmts : Scope → ℕ → List SyntaxStmt → M (List Stmt)
  stmts scope size ts = all (map (λ t. p.stmt scope size t) ts)

  abbrev pub hoisted_named : Scope → List Hoisted → Option Mark → SyntaxFunction → M (List Hoisted)
  hoisted_named scope done None f = pure done
  hoisted_named scope done (Some m) f = p.function scope f >>= (λ n. pure (done ++ record { name = name_in around scope m.name; function = n } ∷ []))

  abbrev pub hoisted_one : Scope → List Hoisted → StmtKindLayer Tree → M (List Hoisted)
  hoisted_one scope done (StmtKind-F.Function f) = hoisted_named scope done (out-Function f).name f
  hoisted_one scope done _ = pure done

  abbrev pub hoisted_from : Scope → List Hoisted → List SyntaxStmt → M (List Hoisted)
  hoisted_from scope done [] = pure done
  hoisted_from scope done (t ∷ ts) = hoisted_one scope done (kind_of t) >>= (λ hs. hoisted_from scope hs ts)

  -- the functions that a list of statements declares
  unfoldable pub all_hoisted : Scope → List SyntaxStmt → M (List Hoisted)
  all_hoisted scope ts = hoisted_from scope [] ts

  -- a body whose entry stands behind an activation of that size, over what is captured
  unfoldable pub body : ℕ → Option (List ℕ) → List (List ℕ) → Scope → List SyntaxStmt → M Body
  body size own parameters outer ts = do
    hs ← all_hoisted (body_entry size own parameters ts ++ outer) ts
    us ← stmts (body_entry size own parameters ts ++ outer) (size + length (body_entry size own parameters ts)) ts
    pure (record {
      variables = length (variable_entry size own parameters ts) - length (parameter_entry size own parameters ts);
      undeclared = length (body_entry size own parameters ts) - length (variable_entry size own parameters ts);
      hoisted = hs;
      statements = us;
    })

  -- the function with the slots that it captures
  unfoldable pub with_captured : Scope → Option (List ℕ) → SyntaxFunction → M ℕ
  with_captured kept own f = do
    b ← body (length kept) own (names_of (out-Function f).parameters) (captured_scope 0 (map lexical_of kept)) (out-Function f).body
    add first (record {
      captures = map (λ s. s.slot) kept;
      own = own_given (length kept) own (names_of (out-Function f).parameters) (out-Function f).body;
      parameters = length (out-Function f).parameters;
      body = b;
    })

  unfoldable pub function : Scope → Option (List ℕ) → SyntaxFunction → M ℕ
  function scope own f = with_captured (captured around scope own f) own f

  -- ---- expressions

  unfoldable pub entry : Scope → Prop → M Entry
  entry scope q = p.expr scope (out-Prop q).value >>= (λ u. pure (roll-Entry (record { name = (out-Prop q).name; value = u })))

  abbrev pub piece_of_value : Scope → MarkupValueLayer Tree → M Piece
  piece_of_value scope (MarkupValue-F.Quoted text) = pure (roll-Piece (Piece-F.Piece::Text text))
  piece_of_value scope (MarkupValue-F.MarkupValue::Tilde e) = p.expr scope e >>= (λ u. pure (roll-Piece (Piece-F.Expr u)))
  piece_of_value scope (MarkupValue-F.MarkupValue::Dollar e) = p.expr scope e >>= (λ u. pure (roll-Piece (Piece-F.Expr u)))

  unfoldable pub attribute : Scope → MarkupAttribute → M Attribute
  attribute scope a =
      piece_of_value scope (out-MarkupValue (out-MarkupAttribute a).value)
      >>= (λ c. pure (roll-Attribute (record { name = (out-MarkupAttribute a).name.name; value = c })))

  abbrev pub piece_of_child : Scope → MarkupChildLayer Tree → M Piece
  piece_of_child scope (MarkupChild-F.MarkupChild::Text text) = pure (roll-Piece (Piece-F.Piece::Text text))
  piece_of_child scope (MarkupChild-F.Direct e) = p.expr scope e >>= (λ u. pure (roll-Piece (Piece-F.Expr u)))
  piece_of_child scope (MarkupChild-F.MarkupChild::Dollar e) = p.expr scope e >>= (λ u. pure (roll-Piece (Piece-F.Expr u)))

  unfoldable pub child : Scope → MarkupChild → M Piece
  child scope c = piece_of_child scope (out-MarkupChild c)

  unfoldable pub entries : Scope → List Prop → M (List Entry)
  entries scope qs = all (map (entry scope) qs)

  unfoldable pub attributes : Scope → List MarkupAttribute → M (List Attribute)
  attributes scope named = all (map (attribute scope) named)

  unfoldable pub children : Scope → List MarkupChild → M (List Piece)
  children scope cs = all (map (child scope) cs)

  abbrev pub made : Expr-F Expr Piece Attribute Entry → M Expr
  made layer = pure (roll-Expr layer)

  abbrev pub node_at : Scope → ExprKindLayer Tree → M Expr
  node_at scope (ExprKind-F.Name text) = made (Expr-F.Name (name_in around scope text))
  node_at scope (ExprKind-F.Num n) = made (Expr-F.Num n)
  node_at scope (ExprKind-F.ExprKind::Text text) = made (Expr-F.Expr::Text text)
  node_at scope (ExprKind-F.Bool b) = made (Expr-F.Bool b)
  node_at scope ExprKind-F.Null = made Expr-F.Null
  node_at scope ExprKind-F.Undefined = made Expr-F.Undefined
  node_at scope (ExprKind-F.Arr es) = exprs scope es >>= (λ us. made (Expr-F.Arr us))
  node_at scope (ExprKind-F.Obj qs) = entries scope qs >>= (λ us. made (Expr-F.Obj us))
  node_at scope (ExprKind-F.Fun f) = function scope (own_name (out-Function f).name) f >>= (λ n. made (Expr-F.Fun n))
  node_at scope (ExprKind-F.Unary op a) = p.expr scope a >>= (λ u. made (Expr-F.Unary op u))
  node_at scope (ExprKind-F.Step kind a) = p.expr scope a >>= (λ u. made (Expr-F.Step kind u))
  node_at scope (ExprKind-F.Binary op a b) = p.expr scope a >>= (λ u. p.expr scope b >>= (λ v. made (Expr-F.Binary op u v)))
  node_at scope (ExprKind-F.And a b) = p.expr scope a >>= (λ u. p.expr scope b >>= (λ v. made (Expr-F.And u v)))
  node_at scope (ExprKind-F.Or a b) = p.expr scope a >>= (λ u. p.expr scope b >>= (λ v. made (Expr-F.Or u v)))
  node_at scope (ExprKind-F.Cond a b c) = p.expr scope a >>= (λ u. p.expr scope b >>= (λ v. p.expr scope c >>= (λ w. made (Expr-F.Cond u v w))))
  node_at scope (ExprKind-F.Assign op a b) = p.expr scope a >>= (λ u. p.expr scope b >>= (λ v. made (Expr-F.Assign op u v)))
  node_at scope (ExprKind-F.Index a b) = p.expr scope a >>= (λ u. p.expr scope b >>= (λ v. made (Expr-F.Index u v)))
  node_at scope (ExprKind-F.Call a es) = p.expr scope a >>= (λ u. exprs scope es >>= (λ us. made (Expr-F.Call u us)))
  node_at scope (ExprKind-F.ExprKind::Tilde id) = exprs scope (dollars_of (slice_get around.tildes id)) >>= (λ us. made (Expr-F.Tilde id us))
  node_at scope (ExprKind-F.ExprKind::Dollar at) = made Expr-F.Undefined
  node_at scope (ExprKind-F.Stray a) = made Expr-F.Undefined
  node_at scope (ExprKind-F.Markup m) = attributes scope (out-Markup m).attributes >>= (λ named. children scope (out-Markup m).children >>= (λ cs. made (Expr-F.Element (out-Markup m).tag named cs)))
  node_at scope (ExprKind-F.Val d) = made (Expr-F.Val d)

  unfoldable pub node : Scope → SyntaxExpr → M Expr
  node scope e = node_at scope (expr_kind_of e)

  -- ---- statements

  unfoldable pub value : Scope → Option SyntaxExpr → M (Option Expr)
  value scope e = optional (p.expr scope) e

  unfoldable pub declaration : Scope → SyntaxDecl → M Decl
  declaration scope d = value scope (out-Decl d).value >>= (λ v. pure (record { name = name_in around scope (out-Decl d).name.name; value = v }))

  unfoldable pub declarations : Scope → List SyntaxDecl → M (List Decl)
  declarations scope ds = all (map (declaration scope) ds)

  abbrev pub start_at : Scope → ForStartLayer Tree → M ForStart
  start_at scope ForStart-F.Absent = pure start.Absent
  start_at scope (ForStart-F.ForStart::Var ds) = declarations scope ds >>= (λ us. pure (start.Var us))
  start_at scope (ForStart-F.ForStart::Expr e) = p.expr scope e >>= (λ u. pure (start.Expr u))

  unfoldable pub begin : Scope → SyntaxStart → M ForStart
  begin scope s = start_at scope (out-ForStart s)

  unfoldable pub branch : Scope → ℕ → Option SyntaxStmt → M (Option Stmt)
  branch scope size t = optional (p.stmt scope size) t

  abbrev pub done : Stmt-F Stmt → M Stmt
  done layer = pure (roll-Stmt layer)

  unfoldable pub block : Scope → ℕ → List SyntaxStmt → M Stmt
  block scope size ts = do
    us ← stmts (with_lexicals size (lexicals ts) [] ++ scope) (size + length (lexicals ts)) ts
    done (Stmt-F.Block (length (lexicals ts)) us)

  unfoldable pub handler : Scope → ℕ → List ℕ → SyntaxStmt → M Stmt
  handler scope size text t = p.stmt (with_name size text false [] ++ scope) (suc size) t

  abbrev pub act_at : Scope → ℕ → StmtKindLayer Tree → M Stmt
  act_at scope size (StmtKind-F.StmtKind::Expr e) = p.expr scope e >>= (λ u. done (Stmt-F.Expr u))
  act_at scope size (StmtKind-F.StmtKind::Var kind ds) = declarations scope ds >>= (λ us. done (Stmt-F.Var kind us))
  act_at scope size (StmtKind-F.Function f) = done Stmt-F.Empty
  act_at scope size (StmtKind-F.Service f) = done Stmt-F.Empty
  act_at scope size (StmtKind-F.If e a b) = p.expr scope e >>= (λ u. p.stmt scope size a >>= (λ v. branch scope size b >>= (λ w. done (Stmt-F.If u v w))))
  act_at scope size (StmtKind-F.While e a) = p.expr scope e >>= (λ u. p.stmt scope size a >>= (λ v. done (Stmt-F.While u v)))
  act_at scope size (StmtKind-F.For s test step a) = begin scope s >>= (λ u. value scope test >>= (λ v. value scope step >>= (λ w. p.stmt scope size a >>= (λ x. done (Stmt-F.For u v w x)))))
  act_at scope size (StmtKind-F.Return e) = value scope e >>= (λ u. done (Stmt-F.Return u))
  act_at scope size StmtKind-F.Break = done Stmt-F.Break
  act_at scope size StmtKind-F.Continue = done Stmt-F.Continue
  act_at scope size (StmtKind-F.Throw e) = p.expr scope e >>= (λ u. done (Stmt-F.Throw u))
  act_at scope size (StmtKind-F.Try a text b) = p.stmt scope size a >>= (λ u. handler scope size text.name b >>= (λ v. done (Stmt-F.Try u v)))
  act_at scope size (StmtKind-F.Block ts) = block scope size ts
  act_at scope size StmtKind-F.Empty = done Stmt-F.Empty

  unfoldable pub act : Scope → ℕ → SyntaxStmt → M Stmt
  act scope size t = act_at scope size (kind_of t)

module _ (around : Surroundings) (first : ℕ) where
  -- syntax that is at most so deep
  abbrev pub level : ℕ → Parts
  level zero = record {
    expr = λ scope e. leave (exit.Stop stop.Depth);
    stmt = λ scope size t. leave (exit.Stop stop.Depth);
    function = λ scope f. leave (exit.Stop stop.Depth);
  }
  level (suc depth) = record {
    expr = node around first (level depth);
    stmt = act around first (level depth);
    function = λ scope f. function around first (level depth) scope None f;
  }

  unfoldable pub at : ℕ → Parts
  at depth = level depth
