-- Which code on slots stands for which syntax, in some surroundings.
use Rattle.std.specs.Prelude.{◌≡◌, ℕ, zero, suc, ◌+◌, List, [], ◌∷◌, ◌++◌, length, map, Option, None, Some, slice_get, false}
use Rattle.mt_eval_meaning.specs.Free.{cut, free_of}
use Rattle.mt_eval_meaning.specs.Scopes.{Slot, Scope, binding_of, with_lexicals, with_name, own_given, parameter_entry, variable_entry, body_entry}
use Rattle.mt_eval_meaning.specs.States.{Numbered}
use Rattle.mt_eval_meaning.specs.Evaluation.{dollars_of, expr_kind_of, own_name}
use Rattle.mt_eval_meaning.specs.Hoisting.{Lexical, kind_of, lexicals, functions, names_of, variables}
use Rattle.mt_eval_meaning.specs.Names.{Surroundings}
use Rattle.mt_eval_meaning.specs.Slots.{ExprLayer, StmtLayer, PieceLayer}
use Rattle.mt_eval_meaning.specs.declared.expr.Attribute.{Attribute, out-Attribute}
use Rattle.mt_eval_meaning.specs.declared.expr.Entry.{Entry, out-Entry}
use Rattle.mt_eval_meaning.specs.declared.expr.Expr as slots_expr
use Rattle.mt_eval_meaning.specs.declared.expr.Expr.TheOpen.{Expr-F, Piece-F}
use Rattle.mt_eval_meaning.specs.declared.expr.Piece.{out-Piece}
use Rattle.mt_eval_meaning.specs.declared.function.Body.{Body}
use Rattle.mt_eval_meaning.specs.declared.function.Function.{Function}
use Rattle.mt_eval_meaning.specs.declared.function.Hoisted.{Hoisted}
use Rattle.mt_eval_meaning.specs.declared.function.Unit.{Unit as Unit'}
use Rattle.mt_eval_meaning.specs.declared.name.Name.{Name}
use Rattle.mt_eval_meaning.specs.declared.stmt.Decl.{Decl}
use Rattle.mt_eval_meaning.specs.declared.stmt.ForStart.{ForStart}
use Rattle.mt_eval_meaning.specs.declared.stmt.ForStart.TheVariants as start
use Rattle.mt_eval_meaning.specs.declared.stmt.Stmt as slots_stmt
use Rattle.mt_eval_meaning.specs.declared.stmt.Stmt.TheOpen.{Stmt-F}
use Rattle.mt_syntax.specs.Fold.{Tree, ExprKindLayer, ForStartLayer, MarkupChildLayer, MarkupValueLayer, StmtKindLayer}
use Rattle.mt_syntax.specs.declared.tree.Decl as decl
use Rattle.mt_syntax.specs.declared.tree.Expr as expr
use Rattle.mt_syntax.specs.declared.tree.ExprKind.TheOpen.{ExprKind-F, ForStart-F, MarkupChild-F, MarkupValue-F, StmtKind-F}
use Rattle.mt_syntax.specs.declared.tree.ForStart.{out-ForStart}
use Rattle.mt_syntax.specs.declared.tree.Function as function
use Rattle.mt_syntax.specs.declared.tree.Markup.{out-Markup}
use Rattle.mt_syntax.specs.declared.tree.MarkupAttribute.{MarkupAttribute, out-MarkupAttribute}
use Rattle.mt_syntax.specs.declared.tree.MarkupChild.{out-MarkupChild}
use Rattle.mt_syntax.specs.declared.tree.MarkupValue.{out-MarkupValue}
use Rattle.mt_syntax.specs.declared.tree.Prop.{Prop, out-Prop}
use Rattle.mt_syntax.specs.declared.tree.Stmt as stmt
use Rattle.mt_tree.specs.Limits.{depth_limit}

-- how parts of a node stand for parts of another; of statements also in activations of which size
abbrev pub ExprsStand : Type 1
ExprsStand = Scope → slots_expr.Expr → expr.Expr → Type 0

abbrev pub StmtsStand : Type 1
StmtsStand = Scope → ℕ → slots_stmt.Stmt → stmt.Stmt → Type 0

-- each of a list for the one at its place
abbrev pub AllStand : {A B : Type 0} → (A → B → Type 0) → List A → List B → Type 0
AllStand each [] [] = Unit {0}
AllStand each (x ∷ xs) (y ∷ ys) = each x y × AllStand each xs ys
AllStand each [] (y ∷ ys) = ⊥
AllStand each (x ∷ xs) [] = ⊥

abbrev pub OptionalStands : {A B : Type 0} → (A → B → Type 0) → Option A → Option B → Type 0
OptionalStands each None None = Unit {0}
OptionalStands each (Some a) (Some b) = each a b
OptionalStands each _ _ = ⊥

abbrev pub lexical_of : Slot → Lexical
lexical_of s = record { name = s.name; constant = s.constant }

-- the captured addresses come first, in the order of the names
abbrev pub captured_scope : ℕ → List Lexical → Scope
captured_scope slot [] = []
captured_scope slot (l ∷ ls) = record { name = l.name; slot = slot; constant = l.constant } ∷ captured_scope (suc slot) ls

module _ (around : Surroundings) (units : List Function) (table : List Numbered) where
  abbrev pub NameStands : Scope → Name → List ℕ → Type 0
  NameStands scope n text = (n.text ≡ text) × (n.binding ≡ binding_of around scope text)

  -- a number names a function, which captures what is free in it
  abbrev pub captured_slots : Option (List ℕ) → function.Function → Scope → List Slot
  captured_slots own f scope = cut (λ s. s.name) (free_of around.tildes own f) scope

  pub record FunctionStands (scope : Scope) (n : ℕ) (own : Option (List ℕ)) (f : function.Function) : Type 0 where
    pub code : Function
    pub is : slice_get units n ≡ Some code
    pub entry : slice_get table n ≡ Some (record { own = own; function = f; names = map lexical_of (captured_slots own f scope) })
    pub captures : code.captures ≡ map (λ s. s.slot) (captured_slots own f scope)

  module _ (below : ExprsStand) where
    abbrev pub PieceStandsForValue : Scope → PieceLayer → MarkupValueLayer Tree → Type 0
    PieceStandsForValue scope (Piece-F.Piece::Text text) (MarkupValue-F.Quoted quoted) = text ≡ quoted
    PieceStandsForValue scope (Piece-F.Expr u) (MarkupValue-F.MarkupValue::Tilde e) = below scope u e
    PieceStandsForValue scope (Piece-F.Expr u) (MarkupValue-F.MarkupValue::Dollar e) = below scope u e
    PieceStandsForValue scope _ _ = ⊥

    abbrev pub AttributeStands : Scope → Attribute → MarkupAttribute → Type 0
    AttributeStands scope a b = ((out-Attribute a).name ≡ (out-MarkupAttribute b).name.name) × PieceStandsForValue scope (out-Piece (out-Attribute a).value) (out-MarkupValue (out-MarkupAttribute b).value)

    abbrev pub PieceStandsForChild : Scope → PieceLayer → MarkupChildLayer Tree → Type 0
    PieceStandsForChild scope (Piece-F.Piece::Text text) (MarkupChild-F.MarkupChild::Text other) = text ≡ other
    PieceStandsForChild scope (Piece-F.Expr u) (MarkupChild-F.Direct e) = below scope u e
    PieceStandsForChild scope (Piece-F.Expr u) (MarkupChild-F.MarkupChild::Dollar e) = below scope u e
    PieceStandsForChild scope _ _ = ⊥

    abbrev pub EntryStands : Scope → Entry → Prop → Type 0
    EntryStands scope a b = ((out-Entry a).name ≡ (out-Prop b).name) × below scope (out-Entry a).value (out-Prop b).value

    abbrev pub ExprStands : Scope → ExprLayer → ExprKindLayer Tree → Type 0
    ExprStands scope (Expr-F.Name n) (ExprKind-F.Name text) = NameStands scope n text
    ExprStands scope (Expr-F.Num n) (ExprKind-F.Num m) = n ≡ m
    ExprStands scope (Expr-F.Expr::Text text) (ExprKind-F.ExprKind::Text other) = text ≡ other
    ExprStands scope (Expr-F.Bool b) (ExprKind-F.Bool c) = b ≡ c
    ExprStands scope Expr-F.Null ExprKind-F.Null = Unit {0}
    ExprStands scope Expr-F.Undefined ExprKind-F.Undefined = Unit {0}
    ExprStands scope Expr-F.Undefined (ExprKind-F.ExprKind::Dollar at) = Unit {0}
    ExprStands scope Expr-F.Undefined (ExprKind-F.Stray a) = Unit {0}
    ExprStands scope (Expr-F.Arr us) (ExprKind-F.Arr es) = AllStand (below scope) us es
    ExprStands scope (Expr-F.Obj us) (ExprKind-F.Obj qs) = AllStand (EntryStands scope) us qs
    ExprStands scope (Expr-F.Fun n) (ExprKind-F.Fun f) = FunctionStands scope n (own_name (function.out-Function f).name) f
    ExprStands scope (Expr-F.Unary op u) (ExprKind-F.Unary other e) = (op ≡ other) × below scope u e
    ExprStands scope (Expr-F.Step kind u) (ExprKind-F.Step other e) = (kind ≡ other) × below scope u e
    ExprStands scope (Expr-F.Binary op u v) (ExprKind-F.Binary other e f) = (op ≡ other) × below scope u e × below scope v f
    ExprStands scope (Expr-F.And u v) (ExprKind-F.And e f) = below scope u e × below scope v f
    ExprStands scope (Expr-F.Or u v) (ExprKind-F.Or e f) = below scope u e × below scope v f
    ExprStands scope (Expr-F.Cond u v w) (ExprKind-F.Cond e f g) = below scope u e × below scope v f × below scope w g
    ExprStands scope (Expr-F.Assign op u v) (ExprKind-F.Assign other e f) = (op ≡ other) × below scope u e × below scope v f
    ExprStands scope (Expr-F.Index u v) (ExprKind-F.Index e f) = below scope u e × below scope v f
    ExprStands scope (Expr-F.Call u us) (ExprKind-F.Call e es) = below scope u e × AllStand (below scope) us es
    ExprStands scope (Expr-F.Tilde id us) (ExprKind-F.ExprKind::Tilde other) = (id ≡ other) × AllStand (below scope) us (dollars_of (slice_get around.tildes id))
    ExprStands scope (Expr-F.Element tag named cs) (ExprKind-F.Markup m) =
        (tag ≡ (out-Markup m).tag) × AllStand (AttributeStands scope) named (out-Markup m).attributes × AllStand (λ a b. PieceStandsForChild scope (out-Piece a) (out-MarkupChild b)) cs (out-Markup m).children
    ExprStands scope (Expr-F.Val d) (ExprKind-F.Val other) = d ≡ other
    ExprStands scope _ _ = ⊥

    -- ---- statements

    abbrev pub DeclStands : Scope → Decl → decl.Decl → Type 0
    DeclStands scope d other = NameStands scope d.name (decl.out-Decl other).name.name × OptionalStands (below scope) d.value (decl.out-Decl other).value

    abbrev pub StartStands : Scope → ForStart → ForStartLayer Tree → Type 0
    StartStands scope start.Absent ForStart-F.Absent = Unit {0}
    StartStands scope (start.Var ds) (ForStart-F.ForStart::Var others) = AllStand (DeclStands scope) ds others
    StartStands scope (start.Expr u) (ForStart-F.ForStart::Expr e) = below scope u e
    StartStands scope _ _ = ⊥

    -- the slots of a block stand behind the activation's
    abbrev pub block_scope : Scope → ℕ → List stmt.Stmt → Scope
    block_scope scope size ts = with_lexicals size (lexicals ts) [] ++ scope

    module _ (inside : StmtsStand) where
      abbrev pub StmtStands : Scope → ℕ → StmtLayer → StmtKindLayer Tree → Type 0
      StmtStands scope size (Stmt-F.Expr u) (StmtKind-F.StmtKind::Expr e) = below scope u e
      StmtStands scope size (Stmt-F.Var kind ds) (StmtKind-F.StmtKind::Var other others) = (kind ≡ other) × AllStand (DeclStands scope) ds others
      StmtStands scope size Stmt-F.Empty (StmtKind-F.Function f) = Unit {0}
      StmtStands scope size Stmt-F.Empty (StmtKind-F.Service f) = Unit {0}
      StmtStands scope size Stmt-F.Empty StmtKind-F.Empty = Unit {0}
      StmtStands scope size (Stmt-F.If u a b) (StmtKind-F.If e c d) = below scope u e × inside scope size a c × OptionalStands (inside scope size) b d
      StmtStands scope size (Stmt-F.While u a) (StmtKind-F.While e c) = below scope u e × inside scope size a c
      StmtStands scope size (Stmt-F.For begin test step a) (StmtKind-F.For other e f c) =
          StartStands scope begin (out-ForStart other) × OptionalStands (below scope) test e × OptionalStands (below scope) step f × inside scope size a c
      StmtStands scope size (Stmt-F.Return u) (StmtKind-F.Return e) = OptionalStands (below scope) u e
      StmtStands scope size Stmt-F.Break StmtKind-F.Break = Unit {0}
      StmtStands scope size Stmt-F.Continue StmtKind-F.Continue = Unit {0}
      StmtStands scope size (Stmt-F.Throw u) (StmtKind-F.Throw e) = below scope u e
      StmtStands scope size (Stmt-F.Try a b) (StmtKind-F.Try c text d) = inside scope size a c × inside (with_name size text.name false [] ++ scope) (suc size) b d
      StmtStands scope size (Stmt-F.Block n us) (StmtKind-F.Block ts) = (n ≡ length (lexicals ts)) × AllStand (inside (block_scope scope size ts) (size + n)) us ts
      StmtStands scope size _ _ = ⊥

  -- ---- to a depth, which the syntax doesn't pass

  abbrev pub ExprStandsTo : ℕ → ExprsStand
  ExprStandsTo zero scope u e = ⊥
  ExprStandsTo (suc depth) scope u e = ExprStands (ExprStandsTo depth) scope (slots_expr.out-Expr u) (expr_kind_of e)

  abbrev pub StmtStandsTo : ℕ → StmtsStand
  StmtStandsTo zero scope size u t = ⊥
  StmtStandsTo (suc depth) scope size u t = StmtStands (ExprStandsTo depth) (StmtStandsTo depth) scope size (slots_stmt.out-Stmt u) (kind_of t)

  -- ---- bodies and functions

  abbrev pub HoistedStands : Scope → Hoisted → List ℕ × function.Function → Type 0
  HoistedStands scope h f = NameStands scope h.name f.0 × FunctionStands scope h.function None f.1

  -- a body whose entry stands behind an activation of that size, over what is captured
  pub record BodyStands (size : ℕ) (own : Option (List ℕ)) (parameters : List (List ℕ)) (captured : Scope) (b : Body) (ts : List stmt.Stmt) : Type 0 where
    pub variables : length (parameter_entry size own parameters ts) + b.variables ≡ length (variable_entry size own parameters ts)
    pub undeclared : length (variable_entry size own parameters ts) + b.undeclared ≡ length (body_entry size own parameters ts)
    pub hoisted : AllStand (HoistedStands (body_entry size own parameters ts ++ captured)) b.hoisted (functions ts)
    pub statements : AllStand (StmtStandsTo depth_limit (body_entry size own parameters ts ++ captured) (size + length (body_entry size own parameters ts))) b.statements ts

  pub record CodeStands (code : Function) (n : Numbered) : Type 0 where
    pub own : code.own ≡ own_given (length n.names) n.own (names_of (function.out-Function n.function).parameters) (function.out-Function n.function).body
    pub parameters : code.parameters ≡ length (function.out-Function n.function).parameters
    pub body : BodyStands (length n.names) n.own (names_of (function.out-Function n.function).parameters) (captured_scope 0 n.names) code.body (function.out-Function n.function).body

  -- each number names the code and the syntax of one function
  pub record TableStands : Type 0 where
    pub code : (n : ℕ) (e : Numbered) → slice_get table n ≡ Some e → (f : Function) × (slice_get units n ≡ Some f) × CodeStands f e

  -- ---- the code of a tier

  pub record FileStands (u : Unit') (items : List stmt.Stmt) : Type 0 where
    pub globals : u.globals ≡ []
    pub body : BodyStands 0 None [] [] u.body items

  pub record ClientCodeStands (u : Unit') (items : List stmt.Stmt) : Type 0 where
    pub globals : u.globals ≡ variables items
    pub variables : u.body.variables ≡ 0
    pub undeclared : u.body.undeclared ≡ length (lexicals items)
    pub hoisted : AllStand (HoistedStands (with_lexicals 0 (lexicals items) [])) u.body.hoisted (functions items)
    pub statements : AllStand (StmtStandsTo depth_limit (with_lexicals 0 (lexicals items) []) (length (lexicals items))) u.body.statements items
