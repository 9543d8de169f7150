-- The code on slots: its expressions and statements, calls of functions, and whole jobs.
use Rattle.std.proofs.Common.{◌≡◌, ℕ, zero, suc, ◌+◌, ◌<◌, ◌^◌, List, [], ◌∷◌, length, map, Option, None, Some, true, refl, sym, ap, subst, arith}
use Rattle.std.specs.Prelude.{All, IsTrue, slice_get}
use Rattle.std.specs.Option.{option_map}
use Rattle.std.proofs.lemmas.List.{length-map}
use Rattle.std.proofs.lemmas.List.Elements.{All-head, All-tail, All-map, All-weaker}
use Rattle.mt_eval_keeps.specs.Code.{Said, IfThere, TargetFits, CalleeFits, PieceFits, ExprFits, DeclFits, StartFits, StmtFits, to_depth, BodyFits, CodeFits}
use Rattle.mt_eval_keeps.specs.Growth.{Owning, Thing, Fits, FitsCell, Good, Grew}
use Rattle.mt_eval_keeps.specs.Growth as thing
use Rattle.mt_eval_keeps.proofs.Forms as form
use Rattle.mt_eval_keeps.proofs.Forms.{Property'}
use Rattle.mt_eval_keeps.proofs.Activations.{FitsActivation, activation_kept, runs_grown, capture_runs, enter_function_runs, enter_unit_runs}
use Rattle.mt_eval_keeps.specs.Hosts.{KeepsAll}
use Rattle.mt_eval_keeps.proofs.Outside as outside
use Rattle.mt_eval_keeps.proofs.Outside.{FitsCallee, Named', NamedEach}
use Rattle.mt_eval_keeps.proofs.References.{OutsideKeeps, host_keeps, FitsReference, still_read_name, still_write_name, still_declare}
use Rattle.mt_eval_keeps.proofs.Operations.{all_at}
use Rattle.mt_eval_keeps.proofs.Runs.{same, further, fits_kept, Claim, After, left_with, Runs, still_runs, runs_bind, runs_pure, runs_less, runs_leave, Value'}
use Rattle.mt_eval_keeps.proofs.Statements as statement
use Rattle.mt_eval_keeps.proofs.Statements.{FitsCompletion}
use Rattle.mt_eval_keeps.proofs.Steps.{Any, Pays, Holds, runs_spend, runs_throw, runs_each}
use Rattle.mt_eval_meaning.specs.Expressions as forms
use Rattle.mt_tree.specs.Limits.{call_limit, depth_limit}
use Rattle.mt_eval_meaning.specs.Host.{Meaning}
use Rattle.mt_eval_meaning.specs.Statements.{returned}
use Rattle.mt_eval_meaning.specs.Runs.{gives, leaves, and_then}
use Rattle.mt_eval_meaning.specs.State.{Eval}
use Rattle.mt_eval_meaning.specs.declared.completion.Completion.{Completion}
use Rattle.mt_eval_meaning.specs.declared.completion.Completion.TheVariants as completion
use Rattle.mt_eval_meaning.specs.declared.exit.Exit.TheVariants as exit
use Rattle.mt_eval_meaning.specs.declared.exit.Stop.TheVariants as stop
use Rattle.mt_eval_meaning.specs.declared.reference.Reference.TheVariants as reference
use Rattle.mt_eval_meaning.specs.declared.state.State.{State}
use Rattle.mt_ops.specs.declared.error.ErrorKind.TheVariants as error
use Rattle.mt_eval_meaning.specs.Activations.{Activation, referent}
use Rattle.mt_eval_meaning.specs.Slots as slots
use Rattle.mt_eval_meaning.specs.Slots.{Parts, ExprLayer, PieceLayer, StmtLayer}
use Rattle.mt_eval_meaning.specs.declared.expr.Attribute.{Attribute, out-Attribute}
use Rattle.mt_eval_meaning.specs.declared.expr.Entry.{Entry, out-Entry}
use Rattle.mt_eval_meaning.specs.declared.expr.Expr.{Expr, out-Expr}
use Rattle.mt_eval_meaning.specs.declared.expr.Expr.TheOpen.{Expr-F, Piece-F}
use Rattle.mt_eval_meaning.specs.declared.expr.Piece.{Piece, out-Piece}
use Rattle.mt_eval_meaning.specs.declared.function.Function.{Function}
use Rattle.mt_eval_meaning.specs.declared.function.Unit.{Unit as Unit'}
use Rattle.mt_eval_meaning.specs.declared.stmt.Decl.{Decl}
use Rattle.mt_eval_meaning.specs.declared.stmt.ForStart.{ForStart}
use Rattle.mt_eval_meaning.specs.declared.stmt.ForStart.TheVariants as start
use Rattle.mt_eval_meaning.specs.declared.stmt.Stmt.{Stmt, out-Stmt}
use Rattle.mt_eval_meaning.specs.declared.stmt.Stmt.TheOpen.{Stmt-F}
use Rattle.mt_syntax.specs.DataLimits.{nodes_of_data}
use Rattle.mt_tree.specs.declared.operators.Binary.{Binary}
use Rattle.mt_tree.specs.declared.operators.VarKind.{VarKind}
use Rattle.mt_tree.specs.declared.operators.VarKind.TheVariants as word
use Rattle.mt_tree.specs.declared.data.Data.{Data}
use Rattle.mt_value.specs.Lawful.{Kind, kind_of, Names, LawfulCell}
use Rattle.mt_value.specs.Limits.{text_fits, data_fits}
use Rattle.mt_value.specs.declared.cell.Cell.{Cell}
use Rattle.mt_value.specs.declared.cell.Cell.TheVariants as cell
use Rattle.mt_value.specs.declared.cell.FunCell.{FunCell}
use Rattle.mt_value.specs.declared.value.Value.{Value}
use Rattle.mt_value.specs.declared.value.Value.TheVariants as value

module _ {H : Type 0} (owns : Owning H) (most : ℕ) (allowed : List ℕ → List (List ℕ) → ℕ → Type 0) (tildes : ℕ → ℕ → Type 0) (small : most < 2 ^ 53)
    (data_pays : (d : Data) (first : State × H) → IsTrue (data_fits d) → nodes_of_data d < 2 ^ 53 → Pays owns most (Value' owns most) first (forms.built d)) where
  abbrev V : Claim owns most Value
  V = Value' owns most

  -- each tilde of the code is the host's own
  abbrev pub Knows : State × H → Type 0
  Knows t = (id n : ℕ) → tildes id n → owns.has t.1 (thing.tilde id n)

  knows_kept : {s t : State × H} → Grew owns s t → Knows s → Knows t
  knows_kept g k id n h = g.host (thing.tilde id n) (k id n h)

  -- the parts of a node keep all, where their code fits
  pub record PartsKeep (p : Parts H) (said : Said) : Type 0 where
    pub expr : (e : Expr) → said.expr e → (activation : Activation) (t : State × H) → Knows t → FitsActivation owns most activation t → Pays owns most V t (p.expr e activation)
    pub stmt : (m : Stmt) → said.stmt m → (activation : Activation) (t : State × H) → Knows t → FitsActivation owns most activation t → Holds owns most (FitsCompletion owns most) t (p.stmt m activation)
    pub outside : OutsideKeeps owns most allowed p.outside

  module _ (functions : List Function) (p : Parts H) (said : Said) (k : PartsKeep p said) where
    module _ (activation : Activation) (t : State × H) (knows : Knows t) (fits : FitsActivation owns most activation t) where
      exprs_pay : (es : List Expr) → All said.expr es → All (Pays owns most V t) (slots.exprs functions p es activation)
      exprs_pay es h = All-map (Pays owns most V t) (λ e. p.expr e activation) es (All-weaker said.expr (λ e. Pays owns most V t (p.expr e activation)) (λ e s. k.expr e s activation t knows fits) es h)

      target_holds : (x : ExprLayer) → TargetFits allowed tildes owns.function said x → Holds owns most (FitsReference owns most allowed small p.outside k.outside) t (slots.target_at functions p x activation)
      target_holds (Expr-F.Name n) h = record { runs = λ c u g. runs_pure owns most (reference.Name n.text (referent activation n.binding)) (λ w e. h) }
      target_holds (Expr-F.Index a b) h = record {
        runs = λ c u g.
            runs_less owns most c (omega arith)
            (runs_bind owns most ((k.expr a h.0 activation t knows fits).runs c u g) (λ base w f i.
            runs_bind owns most ((k.expr b h.1 activation t knows fits).runs (suc c) w (further owns most t u w g f)) (λ key x e j.
            runs_pure owns most (reference.Property base key) (λ y d. (fits_kept owns most (further owns most w x y e d) i, fits_kept owns most d j)))));
      }
      target_holds _ h = absurd h

      count_pays : (kind : _) (x : ExprLayer) → TargetFits allowed tildes owns.function said x → Pays owns most V t (forms.count p.outside kind (slots.target_at functions p x activation))
      count_pays kind (Expr-F.Name n) h = outside.count_name owns most allowed small p.outside k.outside kind n.text (referent activation n.binding) h
      count_pays kind (Expr-F.Index a b) h = outside.count_pays owns most allowed small p.outside k.outside kind (record {
        runs = λ c u g.
            runs_less owns most (suc c) (omega arith)
            (runs_bind owns most ((k.expr a h.0 activation t knows fits).runs c u g) (λ base w f i.
            runs_bind owns most ((k.expr b h.1 activation t knows fits).runs (suc c) w (further owns most t u w g f)) (λ key x e j.
            runs_pure owns most (reference.Property base key) (λ y d. (fits_kept owns most (further owns most w x y e d) i, fits_kept owns most d j)))));
      })
      count_pays kind _ h = absurd h

      callee_pays : (x : ExprLayer) (e : Expr) → CalleeFits allowed tildes owns.function said x e → Pays owns most (FitsCallee owns most allowed small p.outside k.outside) t (slots.callee_at functions p x e activation)
      callee_pays (Expr-F.Index a b) e h = outside.member_callee_pays owns most allowed small p.outside k.outside (k.expr a h.0 activation t knows fits) (k.expr b h.1 activation t knows fits)
      callee_pays _ e h = outside.plain_callee_pays owns most allowed small p.outside k.outside (k.expr e h activation t knows fits)

      piece_holds : (x : PieceLayer) → PieceFits allowed tildes owns.function said x → Holds owns most V t (slots.piece_at functions p x activation)
      piece_holds (Piece-F.Piece::Text text) h = record { runs = λ c u g. runs_pure owns most (value.Text text) (λ w e. record { lawful = h; own = tt }) }
      piece_holds (Piece-F.Expr e) h = record { runs = λ c u g. runs_less owns most c (omega arith) ((k.expr e h activation t knows fits).runs c u g) }

      pieces_hold : (cs : List Piece) → All (λ c. PieceFits allowed tildes owns.function said (out-Piece c)) cs → All (Holds owns most V t) (map (λ c. slots.piece functions p c activation) cs)
      unfolding slots.piece
      pieces_hold cs h = All-map (Holds owns most V t) (λ c. slots.piece functions p c activation) cs (All-weaker (λ c. PieceFits allowed tildes owns.function said (out-Piece c)) (λ c. Holds owns most V t (slots.piece functions p c activation)) (λ c s. piece_holds (out-Piece c) s) cs h)

      attributes_hold : (xs : List Attribute) → All (λ a. PieceFits allowed tildes owns.function said (out-Piece (out-Attribute a).value)) xs
          → NamedEach owns most allowed small p.outside k.outside t (map (λ (a : Attribute). (out-Attribute a).name) xs) (map (λ a. slots.attribute functions p a activation) xs)
      unfolding slots.piece
      attributes_hold [] h = tt
      attributes_hold (a ∷ xs) h =
          let P = λ (a : Attribute). PieceFits allowed tildes owns.function said (out-Piece (out-Attribute a).value) in
          (outside.attribute_holds owns most allowed small p.outside k.outside (out-Attribute a).name (piece_holds (out-Piece (out-Attribute a).value) (All-head P a xs h)), attributes_hold xs (All-tail P a xs h))

      assigned_pays : (op : Option Binary) (a b : Expr) → TargetFits allowed tildes owns.function said (out-Expr a) → said.expr b → Pays owns most V t (slots.assigned_by functions p op a b activation)
      unfolding slots.target
      assigned_pays None a b h i = outside.assignment_pays owns most allowed small p.outside k.outside (target_holds (out-Expr a) h) (k.expr b i activation t knows fits)
      assigned_pays (Some op) a b h i = outside.update_pays owns most allowed small p.outside k.outside op (target_holds (out-Expr a) h) (k.expr b i activation t knows fits)

      expr_pays : (x : ExprLayer) → ExprFits allowed tildes owns.function said x → Pays owns most V t (slots.expr_at functions p x activation)
      unfolding slots.target slots.callee
      expr_pays (Expr-F.Name n) h = outside.looked_up_pays owns most allowed small p.outside k.outside (λ u g. still_read_name owns most allowed small p.outside k.outside n.text (referent activation n.binding) h)
      expr_pays (Expr-F.Num n) h = form.constant_pays owns most (value.Num n) (λ u. record { lawful = h; own = tt })
      expr_pays (Expr-F.Expr::Text text) h = form.constant_pays owns most (value.Text text) (λ u. record { lawful = h; own = tt })
      expr_pays (Expr-F.Bool b) h = form.constant_pays owns most (value.Bool b) (λ u. record { lawful = tt; own = tt })
      expr_pays Expr-F.Null h = form.constant_pays owns most value.Null (λ u. record { lawful = tt; own = tt })
      expr_pays Expr-F.Undefined h = form.constant_pays owns most value.Undefined (λ u. record { lawful = tt; own = tt })
      expr_pays (Expr-F.Arr items) h = form.array_pays owns most (slots.exprs functions p items activation) small (exprs_pay items h)
      expr_pays (Expr-F.Obj entries) h =
          let P = λ (q : Entry). IsTrue (text_fits (out-Entry q).name) × said.expr (out-Entry q).value in
          form.object_pays owns most (map (λ q. slots.entry functions p q activation) entries) small
          (All-map (Pays owns most (Property' owns most) t) (λ q. slots.entry functions p q activation) entries (All-weaker P (λ q. Pays owns most (Property' owns most) t (slots.entry functions p q activation)) (λ q s. form.entry_pays owns most (out-Entry q).name s.0 (k.expr (out-Entry q).value s.1 activation t knows fits)) entries h))
      expr_pays (Expr-F.Fun n) h = outside.function_pays owns most allowed small p.outside k.outside (record { runs = λ c u g. capture_runs owns most functions c n activation h (activation_kept owns most activation g fits) })
      expr_pays (Expr-F.Unary op a) h = form.unary_pays owns most op (k.expr a h activation t knows fits)
      expr_pays (Expr-F.Step kind a) h = count_pays kind (out-Expr a) h
      expr_pays (Expr-F.Binary op a b) h = form.operation_pays owns most op (k.expr a h.0 activation t knows fits) (k.expr b h.1 activation t knows fits)
      expr_pays (Expr-F.And a b) h = form.conjunction_pays owns most (k.expr a h.0 activation t knows fits) (k.expr b h.1 activation t knows fits)
      expr_pays (Expr-F.Or a b) h = form.disjunction_pays owns most (k.expr a h.0 activation t knows fits) (k.expr b h.1 activation t knows fits)
      expr_pays (Expr-F.Cond a b c) h = form.conditional_pays owns most (k.expr a h.0 activation t knows fits) (k.expr b h.1 activation t knows fits) (k.expr c h.2 activation t knows fits)
      expr_pays (Expr-F.Assign op a b) h = assigned_pays op a b h.0 h.1
      expr_pays (Expr-F.Index a b) h = outside.index_pays owns most allowed small p.outside k.outside (k.expr a h.0 activation t knows fits) (k.expr b h.1 activation t knows fits)
      expr_pays (Expr-F.Call f arguments) h = outside.call_pays owns most allowed small p.outside k.outside (slots.exprs functions p arguments activation) (callee_pays (out-Expr f) f h.0) (exprs_pay arguments h.1)
      expr_pays (Expr-F.Tilde id dollars) h =
          outside.tilde_pays owns most allowed small p.outside k.outside id (slots.exprs functions p dollars activation) (subst (λ n. owns.has t.1 (thing.tilde id n)) (sym (length-map dollars (λ e. p.expr e activation))) (knows id (length dollars) h.0)) (exprs_pay dollars h.1)
      expr_pays (Expr-F.Element tag attributes children) h =
          outside.element_pays owns most allowed small p.outside k.outside tag (map (λ (a : Attribute). (out-Attribute a).name) attributes) (map (λ a. slots.attribute functions p a activation) attributes) (map (λ c. slots.piece functions p c activation) children)
          (subst (λ n. allowed tag (map (λ (a : Attribute). (out-Attribute a).name) attributes) n) (sym (length-map children (λ c. slots.piece functions p c activation))) h.0) (attributes_hold attributes h.1) (pieces_hold children h.2)
      expr_pays (Expr-F.Val d) h = data_pays d t h.0 h.1

      -- ---- statements

      declared_holds : (kind : VarKind) (n : _) (e : Option Expr) → IfThere said.expr e → Holds owns most (Any owns most) t (slots.declared_by functions p kind n e activation)
      declared_holds word.Var n None h = record { runs = λ c u g. runs_pure owns most tt (λ w e. tt) }
      declared_holds word.Var n (Some e) h = record {
        runs = λ c u g.
            runs_bind owns most (runs_less owns most c (omega arith) ((k.expr e h activation t knows fits).runs c u g)) (λ v w f i.
            still_runs owns most c c (omega arith) (still_write_name owns most n.text (referent activation n.binding) v i));
      }
      declared_holds _ n None h = record { runs = λ c u g. still_runs owns most c c (omega arith) (still_declare owns most n.text (referent activation n.binding) value.Undefined (record { lawful = tt; own = tt })) }
      declared_holds _ n (Some e) h = record {
        runs = λ c u g.
            runs_bind owns most (runs_less owns most c (omega arith) ((k.expr e h activation t knows fits).runs c u g)) (λ v w f i.
            still_runs owns most c c (omega arith) (still_declare owns most n.text (referent activation n.binding) v i));
      }

      declarations_hold : (kind : VarKind) (decls : List Decl) → All (DeclFits allowed tildes owns.function said) decls → Holds owns most (Any owns most) t (slots.declarations functions p kind decls activation)
      unfolding slots.declaration
      declarations_hold kind decls h = record {
        runs = λ c u g.
            runs_each owns most (map (slots.declaration functions p kind activation) decls) u c
            (All-map (λ m. (w : State × H) → Grew owns u w → Runs owns most w c c m (Any owns most)) (slots.declaration functions p kind activation) decls
            (All-weaker (DeclFits allowed tildes owns.function said) (λ d. (w : State × H) → Grew owns u w → Runs owns most w c c (slots.declaration functions p kind activation d) (Any owns most)) (λ d s w f. (declared_holds kind d.name d.value s).runs c w (further owns most t u w g f)) decls h));
      }

      done_holds : (e : Expr) → said.expr e → Holds owns most (Any owns most) t (λ s. and_then {A = Value} {B = Unit {0}} (p.expr e activation s) (λ _ s. gives tt s))
      done_holds e h = record { runs = λ c u g. runs_bind owns most (runs_less owns most c (omega arith) ((k.expr e h activation t knows fits).runs c u g)) (λ v w f i. runs_pure owns most tt (λ x j. tt)) }

      started_holds : (x : ForStart) → StartFits allowed tildes owns.function said x → Holds owns most (Any owns most) t (slots.started_by functions p x activation)
      started_holds start.Absent h = record { runs = λ c u g. runs_pure owns most tt (λ w e. tt) }
      started_holds (start.Var decls) h = declarations_hold word.Var decls h
      started_holds (start.Expr e) h = done_holds e h

      stepped_holds : (x : Option Expr) → IfThere said.expr x → Holds owns most (Any owns most) t (slots.stepped_by functions p x activation)
      stepped_holds None h = record { runs = λ c u g. runs_pure owns most tt (λ w e. tt) }
      stepped_holds (Some e) h = done_holds e h

      tested_holds : (x : Option Expr) → IfThere said.expr x → Holds owns most V t (slots.tested_by functions p x activation)
      tested_holds None h = record { runs = λ c u g. runs_pure owns most (value.Bool true) (λ w e. record { lawful = tt; own = tt }) }
      tested_holds (Some e) h = record { runs = λ c u g. runs_less owns most c (omega arith) ((k.expr e h activation t knows fits).runs c u g) }

      else_holds : (x : Option Stmt) → IfThere said.stmt x → Holds owns most (FitsCompletion owns most) t (slots.or_else functions p x activation)
      else_holds None h = record { runs = λ c u g. runs_pure owns most completion.Normal (λ w e. tt) }
      else_holds (Some m) h = k.stmt m h activation t knows fits

      returned_holds : (x : Option Expr) → IfThere said.expr x → Holds owns most (FitsCompletion owns most) t (slots.returned_by functions p x activation)
      returned_holds None h = record { runs = λ c u g. runs_pure owns most (completion.Return value.Undefined) (λ w e. record { lawful = tt; own = tt }) }
      returned_holds (Some e) h = statement.given_back_holds owns most (k.expr e h activation t knows fits)

    stmts_hold : (ts : List Stmt) → All said.stmt ts → (activation : Activation) (t : State × H) → Knows t → FitsActivation owns most activation t → Holds owns most (FitsCompletion owns most) t (slots.stmts functions p ts activation)
    stmts_hold ts h activation t knows fits =
        statement.sequence_holds owns most (map (λ m. p.stmt m activation) ts)
        (All-map (Holds owns most (FitsCompletion owns most) t) (λ m. p.stmt m activation) ts (All-weaker said.stmt (λ m. Holds owns most (FitsCompletion owns most) t (p.stmt m activation)) (λ m s. k.stmt m s activation t knows fits) ts h))

    handler_holds : (m : Stmt) → said.stmt m → (activation : Activation) (v : Value) (t : State × H) → Knows t → FitsActivation owns most activation t → Fits owns t v → Holds owns most (FitsCompletion owns most) t (slots.handler functions p m activation v)
    unfolding slots.handler
    handler_holds m h activation v t knows fits w = record {
      runs = λ c u g.
          runs_bind owns most (runs_grown owns most (suc zero) (Some v) activation u c (fits_kept owns most g w) (activation_kept owns most activation g fits)) (λ inner x f i.
          (k.stmt m h inner x (knows_kept (further owns most t u x g f) knows) i).runs c x (same owns most x));
    }

    block_holds : (n : ℕ) (ts : List Stmt) → All said.stmt ts → (activation : Activation) (t : State × H) → Knows t → FitsActivation owns most activation t → Holds owns most (FitsCompletion owns most) t (slots.block functions p n ts activation)
    unfolding slots.block
    block_holds n ts h activation t knows fits = record {
      runs = λ c u g.
          runs_bind owns most (runs_grown owns most n None activation u c tt (activation_kept owns most activation g fits)) (λ inner x f i.
          (stmts_hold ts h inner x (knows_kept (further owns most t u x g f) knows) i).runs c x (same owns most x));
    }

    stmt_holds : (x : StmtLayer) → StmtFits allowed tildes owns.function said x → (activation : Activation) (t : State × H) → Knows t → FitsActivation owns most activation t → Holds owns most (FitsCompletion owns most) t (slots.stmt_at functions p x activation)
    stmt_holds (Stmt-F.Expr e) h activation t knows fits = statement.expression_holds owns most (k.expr e h activation t knows fits)
    stmt_holds (Stmt-F.Var kind decls) h activation t knows fits = statement.finished_holds owns most (declarations_hold activation t knows fits kind decls h)
    stmt_holds (Stmt-F.If test a b) h activation t knows fits = statement.choice_holds owns most (k.expr test h.0 activation t knows fits) (k.stmt a h.1 activation t knows fits) (else_holds activation t knows fits b h.2)
    stmt_holds (Stmt-F.While test body) h activation t knows fits = statement.loop_holds owns most (tested_holds activation t knows fits (Some test) h.0) (k.stmt body h.1 activation t knows fits) (record { runs = λ c u g. runs_pure owns most tt (λ w e. tt) })
    stmt_holds (Stmt-F.For begin test step body) h activation t knows fits =
        statement.starting_holds owns most (started_holds activation t knows fits begin h.0) (statement.loop_holds owns most (tested_holds activation t knows fits test h.1) (k.stmt body h.3 activation t knows fits) (stepped_holds activation t knows fits step h.2))
    stmt_holds (Stmt-F.Return e) h activation t knows fits = returned_holds activation t knows fits e h
    stmt_holds Stmt-F.Break h activation t knows fits = record { runs = λ c u g. runs_pure owns most completion.Break (λ w e. tt) }
    stmt_holds Stmt-F.Continue h activation t knows fits = record { runs = λ c u g. runs_pure owns most completion.Continue (λ w e. tt) }
    stmt_holds (Stmt-F.Throw e) h activation t knows fits = statement.thrown_holds owns most (k.expr e h activation t knows fits)
    stmt_holds (Stmt-F.Try body m) h activation t knows fits =
        statement.attempt_holds owns most (k.stmt body h.0 activation t knows fits) (λ v u g w. handler_holds m h.1 activation v u (knows_kept g knows) (activation_kept owns most activation g fits) w)
    stmt_holds (Stmt-F.Block n ts) h activation t knows fits = block_holds n ts h activation t knows fits
    stmt_holds Stmt-F.Empty h activation t knows fits = record { runs = λ c u g. runs_pure owns most completion.Normal (λ w e. tt) }

    returned_fits : (x : Completion) (t : State × H) → FitsCompletion owns most x t → Fits owns t (returned x)
    returned_fits (completion.Return v) t h = h
    returned_fits completion.Normal t h = record { lawful = tt; own = tt }
    returned_fits completion.Break t h = record { lawful = tt; own = tt }
    returned_fits completion.Continue t h = record { lawful = tt; own = tt }

    body_runs : (ts : List Stmt) → All said.stmt ts → (activation : Activation) (t : State × H) (c : ℕ) → Knows t → FitsActivation owns most activation t → Runs owns most t c c (slots.body functions p ts activation) V
    unfolding slots.body
    body_runs ts h activation t c knows fits =
        runs_bind owns most ((stmts_hold ts h activation t knows fits).runs c t (same owns most t)) (λ x u g i. runs_pure owns most (returned x) (λ w f. fits_kept owns most f (returned_fits x u i)))

    pub layer_expr : (e : Expr) → ExprFits allowed tildes owns.function said (out-Expr e) → (activation : Activation) (t : State × H) → Knows t → FitsActivation owns most activation t → Pays owns most V t (slots.expr functions p e activation)
    unfolding slots.expr
    layer_expr e h activation t knows fits = expr_pays activation t knows fits (out-Expr e) h

    pub layer_stmt : (m : Stmt) → StmtFits allowed tildes owns.function said (out-Stmt m) → (activation : Activation) (t : State × H) → Knows t → FitsActivation owns most activation t → Holds owns most (FitsCompletion owns most) t (slots.stmt functions p m activation)
    unfolding slots.stmt
    layer_stmt m h activation t knows fits = record {
      runs = λ c u g.
          runs_bind owns most (runs_spend owns most c 0 (omega arith)) (λ _ w f _.
          (stmt_holds (out-Stmt m) h activation t knows fits).runs c w (further owns most t u w g f));
    }

  -- ---- the recursion

  module _ (functions : List Function) (code : CodeFits allowed tildes owns.function functions) (host : Meaning H) (keeps : KeepsAll owns most allowed host) (known : (t : State × H) → owns.has t.1 thing.itself → Knows t) where
    -- the calls of functions
    abbrev Enters : slots.Enter H → Type 0
    Enters enter = (at : ℕ) (arguments : List Value) (c : ℕ) (t : State × H) → All (Fits owns t) arguments → Runs owns most t c c (enter at arguments) V

    level_keeps : (enter : slots.Enter H) → Enters enter → (depth : ℕ) → PartsKeep (slots.over host enter (slots.level functions host enter depth)) (to_depth allowed tildes owns.function depth)
    level_keeps enter e zero = record {
      expr = λ x h activation t knows fits. record { runs = λ c u g. runs_leave owns most (exit.Stop stop.Depth) (λ w f. tt) };
      stmt = λ x h activation t knows fits. record { runs = λ c u g. runs_leave owns most (exit.Stop stop.Depth) (λ w f. tt) };
      outside = host_keeps owns most allowed host enter keeps e;
    }
    level_keeps enter e (suc depth) =
        let p = slots.over host enter (slots.level functions host enter depth) in
        let k = level_keeps enter e depth in
        record {
          expr = λ x h activation t knows fits. layer_expr functions p (to_depth allowed tildes owns.function depth) k x h activation t knows fits;
          stmt = λ x h activation t knows fits. layer_stmt functions p (to_depth allowed tildes owns.function depth) k x h activation t knows fits;
          outside = host_keeps owns most allowed host enter keeps e;
        }

    function_runs : (enter : slots.Enter H) → Enters enter → (n : ℕ) → owns.function n → (o : Option Function) → slice_get functions n ≡ o → (captured : Activation) (at : ℕ) (arguments : List Value) (c : ℕ) (t : State × H) → Knows t → FitsActivation owns most captured t → Names t.0.store Kind.function at → All (Fits owns t) arguments
        → Runs owns most t c c (slots.function_body functions (slots.over host enter (slots.level functions host enter depth_limit)) o captured at arguments) V
    function_runs enter e n number None is captured at arguments c t knows fits named h = runs_throw owns most c c (omega arith) error.NotFunction
    function_runs enter e n number (Some f) is captured at arguments c t knows fits named h =
        let there = code.bodies n number in
        let same : there.0 ≡ f = cc in
        let body : BodyFits allowed tildes owns.function f.body = subst (λ (g : Function). BodyFits allowed tildes owns.function g.body) same there.2 in
        runs_bind owns most (enter_function_runs owns most functions f body.hoisted captured at arguments t c fits named h) (λ activation u g i.
        body_runs functions (slots.over host enter (slots.level functions host enter depth_limit)) (to_depth allowed tildes owns.function depth_limit) (level_keeps enter e depth_limit) f.body.statements body.statements activation u c (knows_kept g knows) i)

    entered_at : (enter : FunCell → Eval H Value) (at : ℕ) (x c : ℕ) (s : State × H) → Good owns most (s.0.budget + (c + x)) s → (o : Option Cell) → slice_get s.0.store at ≡ o
        → ((f : FunCell) → owns.function f.function → FitsActivation owns most f.captured s → Names s.0.store Kind.function at → Runs owns most s c c (enter f) V) → After owns most s (left_with owns most x) (left_with owns most (c + x)) V (slots.entered_by enter (slots.function_in o) s)
    entered_at enter at x c s good (Some (cell.Fun f)) is k = (k f (all_at (FitsCell owns most s.1 (s.0.budget + (c + x))) s.0.store at (cell.Fun f) good.cells is).own (all_at (LawfulCell s.0.store) s.0.store at (cell.Fun f) good.store.cells is) (ap (option_map kind_of) is)).run x s (same owns most s) good
    entered_at enter at x c s good _ is k = (runs_throw owns most {A = Value} {first = s} {post = V} c c (omega arith) error.NotFunction).run x s (same owns most s) good

    with_function_runs : (enter : FunCell → Eval H Value) (at c : ℕ) (t : State × H) → ((f : FunCell) (s : State × H) → owns.function f.function → Grew owns t s → Knows s → FitsActivation owns most f.captured s → Names s.0.store Kind.function at → Runs owns most s c c (enter f) V) → Runs owns most t c c (slots.with_function at enter) V
    unfolding slots.with_function
    with_function_runs enter at c t k = record { run = λ x s g good. entered_at enter at x c s good (slice_get s.0.store at) refl (λ f number fits named. k f s number g (known s good.host) fits named) }

    pub enter_runs : (calls : ℕ) → Enters (slots.enter_to functions host calls)
    enter_runs zero at arguments c t h = with_function_runs (λ f. λ s. leaves (exit.Stop stop.Depth) s) at c t (λ f s number g knows fits named. runs_leave owns most (exit.Stop stop.Depth) (λ w f. tt))
    enter_runs (suc calls) at arguments c t h =
        let enter = slots.enter_to functions host calls in
        with_function_runs (λ f. slots.function_body functions (slots.over host enter (slots.level functions host enter depth_limit)) (slice_get functions f.function) f.captured at arguments) at c t (λ f s number g knows fits named.
        function_runs enter (enter_runs calls) f.function number (slice_get functions f.function) refl f.captured at arguments c s knows fits named (All-weaker (Fits owns t) (Fits owns s) (λ v i. fits_kept owns most g i) arguments h))

    -- ---- whole jobs

    pub unit_runs : (u : Unit') → BodyFits allowed tildes owns.function u.body → (t : State × H) (c : ℕ) → Knows t → Runs owns most t c c (slots.unit functions host u) V
    unfolding slots.unit slots.parts
    unit_runs u h t c knows =
        let enter = slots.enter_to functions host call_limit in
        runs_bind owns most (enter_unit_runs owns most functions u h.hoisted t c) (λ activation w g i.
        body_runs functions (slots.over host enter (slots.level functions host enter depth_limit)) (to_depth allowed tildes owns.function depth_limit) (level_keeps enter (enter_runs call_limit) depth_limit) u.body.statements h.statements activation w c (knows_kept g knows) i)

    pub called_runs : (f : Value) (arguments : List Value) (t : State × H) (c : ℕ) → Fits owns t f → All (Fits owns t) arguments → Runs owns most t c c (slots.called functions host f arguments) V
    unfolding slots.called slots.parts
    called_runs f arguments t c h ks =
        let enter = slots.enter_to functions host (suc call_limit) in
        outside.runs_applied owns most allowed small (slots.over host enter (slots.level functions host enter depth_limit)).outside (host_keeps owns most allowed host enter keeps (enter_runs (suc call_limit))) c f arguments h ks
