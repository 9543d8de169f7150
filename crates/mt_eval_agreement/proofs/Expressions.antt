-- Code on slots that stands for an expression evaluates as it, over parts that do.
use Rattle.std.proofs.Common.{◌≡◌, ℕ, zero, suc, ◌≤◌, List, [], ◌∷◌, length, map, Option, Some, None, sym, ap, ◌∙◌, subst, arith}
use Rattle.std.specs.Prelude.{slice_get}
use Rattle.mt_eval_meaning.specs.Code.{AllStand, ExprStands, ExprStandsTo, NameStands, EntryStands, AttributeStands, PieceStandsForValue, PieceStandsForChild}
use Rattle.mt_eval_meaning.specs.Scopes.{Scope, environment_of, IsBelow}
use Rattle.mt_eval_meaning.specs.States.{Numbered, keeping_free}
use Rattle.mt_eval_agreement.proofs.Captures.{sim_capture}
use Rattle.mt_eval_agreement.proofs.Forms.{AllSim, none, one, sim_constant, sim_unary, sim_operation, sim_conjunction, sim_disjunction, sim_conditional, sim_function, sim_array, sim_entry, sim_object, sim_index, sim_looked_up, sim_assignment, sim_update, sim_count, sim_tilde, sim_attribute, sim_element}
use Rattle.mt_eval_agreement.proofs.Building.{sim_built}
use Rattle.mt_eval_agreement.proofs.Outsides.{SimCalls, outside_sim, name_sim, sim_plain_callee, sim_member_callee, sim_call}
use Rattle.mt_eval_agreement.proofs.Sim.{slots_view}
use Rattle.mt_eval_agreement.proofs.Views.{Sim, sim_pure, sim_bind}
use Rattle.mt_eval_agreement.proofs.Slots.{referent_same}
use Rattle.mt_eval_meaning.specs.Entering.{Named}
use Rattle.mt_eval_meaning.specs.Evaluation as names
use Rattle.mt_eval_meaning.specs.Expressions as forms
use Rattle.mt_eval_meaning.specs.Evaluation.{expr_kind_of, dollars_of, own_name}
use Rattle.mt_eval_meaning.specs.Host.{Outside}
use Rattle.mt_eval_meaning.specs.Names.{Surroundings, referent}
use Rattle.mt_eval_meaning.specs.References.{read_name}
use Rattle.mt_eval_meaning.specs.Runs.{gives}
use Rattle.mt_eval_meaning.specs.declared.reference.Reference.TheVariants as reference
use Rattle.mt_eval_meaning.specs.declared.reference.Referent.{Referent}
use Rattle.mt_eval_meaning.specs.Activations as activations
use Rattle.mt_eval_meaning.specs.Activations.{Activation}
use Rattle.mt_eval_meaning.specs.Slots as slots
use Rattle.mt_eval_meaning.specs.Slots.{ExprLayer, PieceLayer}
use Rattle.mt_eval_meaning.specs.declared.expr.Attribute.{Attribute, out-Attribute}
use Rattle.mt_eval_meaning.specs.declared.expr.Entry.{Entry, out-Entry}
use Rattle.mt_eval_meaning.specs.declared.expr.Expr as code
use Rattle.mt_eval_meaning.specs.declared.expr.Expr.TheOpen.{Expr-F, Piece-F}
use Rattle.mt_eval_meaning.specs.declared.expr.Piece.{Piece, out-Piece}
use Rattle.mt_eval_meaning.specs.declared.function.Function.{Function as Code}
use Rattle.mt_eval_meaning.specs.declared.name.Name.{Name}
use Rattle.mt_tree.specs.declared.data.Data.{Data}
use Rattle.mt_syntax.specs.Fold.{Tree, ExprKindLayer, MarkupChildLayer, MarkupValueLayer}
use Rattle.mt_tree.specs.declared.operators.Binary.{Binary}
use Rattle.mt_syntax.specs.declared.tree.Expr.{Expr}
use Rattle.mt_syntax.specs.declared.tree.ExprKind.TheOpen.{ExprKind-F, MarkupChild-F, MarkupValue-F}
use Rattle.mt_syntax.specs.declared.tree.Function.{out-Function}
use Rattle.mt_syntax.specs.declared.tree.Markup.{out-Markup}
use Rattle.mt_syntax.specs.declared.tree.MarkupAttribute.{MarkupAttribute, out-MarkupAttribute}
use Rattle.mt_syntax.specs.declared.tree.MarkupChild.{MarkupChild, out-MarkupChild}
use Rattle.mt_syntax.specs.declared.tree.MarkupValue.{out-MarkupValue}
use Rattle.mt_syntax.specs.declared.tree.Prop.{Prop, out-Prop}
use Rattle.mt_value.specs.declared.value.Value.TheVariants as value

module _ {H : Type 0} (around : Surroundings) (units : List Code) (table : List Numbered) where
  -- the parts of a level on slots do what those of one by names do, for syntax that is at most so deep
  abbrev pub SimExprs : ℕ → slots.Parts H → names.Parts H → Type 0
  SimExprs depth p q =
      (k : ℕ) → k ≤ depth → (scope : Scope) (activation : Activation) (u : code.Expr) (e : Expr) → IsBelow (length activation) scope → ExprStandsTo around units table k scope u e
      → Sim (slots_view table) (p.expr u activation) (q.expr e (environment_of scope activation))

  module _ (depth : ℕ) (p : slots.Parts H) (outside : Outside (Named H)) (q : names.Parts H) (calls : SimCalls (slots_view table) p.outside outside) (below : SimExprs depth p q)
      (scope : Scope) (activation : Activation) (low : IsBelow (length activation) scope) where
    all_sim : (k : ℕ) → k ≤ depth → (us : List code.Expr) (es : List Expr) → AllStand (ExprStandsTo around units table k scope) us es → AllSim (slots_view table) (slots.exprs units p us activation) (names.exprs (keeping_free around) outside q es (environment_of scope activation))
    all_sim k le [] [] h = none
    all_sim k le (u ∷ us) (e ∷ es) h = one (below k le scope activation u e low h.0) (all_sim k le us es h.1)
    all_sim k le [] (e ∷ es) h = absurd h
    all_sim k le (u ∷ us) [] h = absurd h

    -- what a name stands for on both sides
    pub same_referent : (n : Name) (text : List ℕ) → NameStands around units table scope n text → activations.referent activation n.binding ≡ referent (keeping_free around) (environment_of scope activation) text
    same_referent n text h = ap (activations.referent activation) h.1 ∙ referent_same around activation text scope low

    read_sim : (n : Name) (text : List ℕ) → NameStands around units table scope n text → Sim (slots_view table) (read_name p.outside n.text (activations.referent activation n.binding)) (read_name outside text (referent (keeping_free around) (environment_of scope activation) text))
    read_sim n text h =
        subst (λ (z : List ℕ). Sim (slots_view table) (read_name p.outside z (activations.referent activation n.binding)) (read_name outside text (referent (keeping_free around) (environment_of scope activation) text))) (sym h.0)
        (subst (λ (z : Referent). Sim (slots_view table) (read_name p.outside text z) (read_name outside text (referent (keeping_free around) (environment_of scope activation) text))) (sym (same_referent n text h)) (name_sim (slots_view table) p.outside outside calls text (referent (keeping_free around) (environment_of scope activation) text)))

    -- ---- targets and callees

    target_at : (k : ℕ) → k ≤ depth → (u : ExprLayer) (e : ExprKindLayer Tree) → ExprStands around units table (ExprStandsTo around units table k) scope u e
        → Sim (slots_view table) (slots.target_at units p u activation) (names.target_at (keeping_free around) outside q e (environment_of scope activation))
    target_at k le (Expr-F.Name n) (ExprKind-F.Name text) h =
        subst (λ (z : List ℕ). Sim (slots_view {H = H} table) (λ s. gives (reference.Name z (activations.referent activation n.binding)) s) (λ s. gives (reference.Name text (referent (keeping_free around) (environment_of scope activation) text)) s)) (sym h.0)
        (subst (λ (z : Referent). Sim (slots_view {H = H} table) (λ s. gives (reference.Name text z) s) (λ s. gives (reference.Name text (referent (keeping_free around) (environment_of scope activation) text)) s)) (sym (same_referent n text h)) (sim_pure (slots_view table) (reference.Name text (referent (keeping_free around) (environment_of scope activation) text))))
    target_at k le (Expr-F.Index u v) (ExprKind-F.Index a b) h =
        sim_bind (slots_view table) (below k le scope activation u a low h.0) (λ base.
        sim_bind (slots_view table) (below k le scope activation v b low h.1) (λ key. sim_pure (slots_view table) (reference.Property base key)))
    target_at k le (Expr-F.Num n) (ExprKind-F.Num m) h = sim_pure (slots_view table) (reference.Property value.Undefined value.Undefined)
    target_at k le (Expr-F.Expr::Text n) (ExprKind-F.ExprKind::Text m) h = sim_pure (slots_view table) (reference.Property value.Undefined value.Undefined)
    target_at k le (Expr-F.Bool n) (ExprKind-F.Bool m) h = sim_pure (slots_view table) (reference.Property value.Undefined value.Undefined)
    target_at k le Expr-F.Null ExprKind-F.Null h = sim_pure (slots_view table) (reference.Property value.Undefined value.Undefined)
    target_at k le Expr-F.Undefined ExprKind-F.Undefined h = sim_pure (slots_view table) (reference.Property value.Undefined value.Undefined)
    target_at k le Expr-F.Undefined (ExprKind-F.ExprKind::Dollar at) h = sim_pure (slots_view table) (reference.Property value.Undefined value.Undefined)
    target_at k le Expr-F.Undefined (ExprKind-F.Stray a) h = sim_pure (slots_view table) (reference.Property value.Undefined value.Undefined)
    target_at k le (Expr-F.Arr us) (ExprKind-F.Arr es) h = sim_pure (slots_view table) (reference.Property value.Undefined value.Undefined)
    target_at k le (Expr-F.Obj us) (ExprKind-F.Obj es) h = sim_pure (slots_view table) (reference.Property value.Undefined value.Undefined)
    target_at k le (Expr-F.Fun n) (ExprKind-F.Fun f) h = sim_pure (slots_view table) (reference.Property value.Undefined value.Undefined)
    target_at k le (Expr-F.Unary op u) (ExprKind-F.Unary other e) h = sim_pure (slots_view table) (reference.Property value.Undefined value.Undefined)
    target_at k le (Expr-F.Step op u) (ExprKind-F.Step other e) h = sim_pure (slots_view table) (reference.Property value.Undefined value.Undefined)
    target_at k le (Expr-F.Binary op u v) (ExprKind-F.Binary other a b) h = sim_pure (slots_view table) (reference.Property value.Undefined value.Undefined)
    target_at k le (Expr-F.And u v) (ExprKind-F.And a b) h = sim_pure (slots_view table) (reference.Property value.Undefined value.Undefined)
    target_at k le (Expr-F.Or u v) (ExprKind-F.Or a b) h = sim_pure (slots_view table) (reference.Property value.Undefined value.Undefined)
    target_at k le (Expr-F.Cond u v w) (ExprKind-F.Cond a b c) h = sim_pure (slots_view table) (reference.Property value.Undefined value.Undefined)
    target_at k le (Expr-F.Assign op u v) (ExprKind-F.Assign other a b) h = sim_pure (slots_view table) (reference.Property value.Undefined value.Undefined)
    target_at k le (Expr-F.Call u us) (ExprKind-F.Call a es) h = sim_pure (slots_view table) (reference.Property value.Undefined value.Undefined)
    target_at k le (Expr-F.Tilde id us) (ExprKind-F.ExprKind::Tilde other) h = sim_pure (slots_view table) (reference.Property value.Undefined value.Undefined)
    target_at k le (Expr-F.Element tag xs cs) (ExprKind-F.Markup m) h = sim_pure (slots_view table) (reference.Property value.Undefined value.Undefined)
    target_at k le (Expr-F.Val d) (ExprKind-F.Val other) h = sim_pure (slots_view table) (reference.Property value.Undefined value.Undefined)
    target_at k le _ _ h = absurd h

    pub target_sim : (k : ℕ) → k ≤ depth → (u : code.Expr) (e : Expr) → ExprStandsTo around units table k scope u e → Sim (slots_view table) (slots.target units p u activation) (names.target (keeping_free around) outside q e (environment_of scope activation))
    unfolding slots.target
    target_sim zero le u e h = absurd h
    target_sim (suc k) le u e h = target_at k (omega (arith, le)) (code.out-Expr u) (expr_kind_of e) h

    callee_at : (k : ℕ) → k ≤ depth → (uu : code.Expr) (ee : Expr) → ExprStandsTo around units table (suc k) scope uu ee → Sim (slots_view table) (p.expr uu activation) (q.expr ee (environment_of scope activation))
        → (u : ExprLayer) (e : ExprKindLayer Tree) → ExprStands around units table (ExprStandsTo around units table k) scope u e
        → Sim (slots_view table) (slots.callee_at units p u uu activation) (names.callee_at (keeping_free around) outside q e ee (environment_of scope activation))
    callee_at k le uu ee whole plain (Expr-F.Index u v) (ExprKind-F.Index a b) h = sim_member_callee (slots_view table) p.outside outside calls (below k le scope activation u a low h.0) (below k le scope activation v b low h.1)
    callee_at k le uu ee whole plain (Expr-F.Name n) (ExprKind-F.Name text) h = sim_plain_callee (slots_view table) p.outside outside calls plain
    callee_at k le uu ee whole plain (Expr-F.Num n) (ExprKind-F.Num m) h = sim_plain_callee (slots_view table) p.outside outside calls plain
    callee_at k le uu ee whole plain (Expr-F.Expr::Text n) (ExprKind-F.ExprKind::Text m) h = sim_plain_callee (slots_view table) p.outside outside calls plain
    callee_at k le uu ee whole plain (Expr-F.Bool n) (ExprKind-F.Bool m) h = sim_plain_callee (slots_view table) p.outside outside calls plain
    callee_at k le uu ee whole plain Expr-F.Null ExprKind-F.Null h = sim_plain_callee (slots_view table) p.outside outside calls plain
    callee_at k le uu ee whole plain Expr-F.Undefined ExprKind-F.Undefined h = sim_plain_callee (slots_view table) p.outside outside calls plain
    callee_at k le uu ee whole plain Expr-F.Undefined (ExprKind-F.ExprKind::Dollar at) h = sim_plain_callee (slots_view table) p.outside outside calls plain
    callee_at k le uu ee whole plain Expr-F.Undefined (ExprKind-F.Stray a) h = sim_plain_callee (slots_view table) p.outside outside calls plain
    callee_at k le uu ee whole plain (Expr-F.Arr us) (ExprKind-F.Arr es) h = sim_plain_callee (slots_view table) p.outside outside calls plain
    callee_at k le uu ee whole plain (Expr-F.Obj us) (ExprKind-F.Obj es) h = sim_plain_callee (slots_view table) p.outside outside calls plain
    callee_at k le uu ee whole plain (Expr-F.Fun n) (ExprKind-F.Fun f) h = sim_plain_callee (slots_view table) p.outside outside calls plain
    callee_at k le uu ee whole plain (Expr-F.Unary op u) (ExprKind-F.Unary other e) h = sim_plain_callee (slots_view table) p.outside outside calls plain
    callee_at k le uu ee whole plain (Expr-F.Step op u) (ExprKind-F.Step other e) h = sim_plain_callee (slots_view table) p.outside outside calls plain
    callee_at k le uu ee whole plain (Expr-F.Binary op u v) (ExprKind-F.Binary other a b) h = sim_plain_callee (slots_view table) p.outside outside calls plain
    callee_at k le uu ee whole plain (Expr-F.And u v) (ExprKind-F.And a b) h = sim_plain_callee (slots_view table) p.outside outside calls plain
    callee_at k le uu ee whole plain (Expr-F.Or u v) (ExprKind-F.Or a b) h = sim_plain_callee (slots_view table) p.outside outside calls plain
    callee_at k le uu ee whole plain (Expr-F.Cond u v w) (ExprKind-F.Cond a b c) h = sim_plain_callee (slots_view table) p.outside outside calls plain
    callee_at k le uu ee whole plain (Expr-F.Assign op u v) (ExprKind-F.Assign other a b) h = sim_plain_callee (slots_view table) p.outside outside calls plain
    callee_at k le uu ee whole plain (Expr-F.Call u us) (ExprKind-F.Call a es) h = sim_plain_callee (slots_view table) p.outside outside calls plain
    callee_at k le uu ee whole plain (Expr-F.Tilde id us) (ExprKind-F.ExprKind::Tilde other) h = sim_plain_callee (slots_view table) p.outside outside calls plain
    callee_at k le uu ee whole plain (Expr-F.Element tag xs cs) (ExprKind-F.Markup m) h = sim_plain_callee (slots_view table) p.outside outside calls plain
    callee_at k le uu ee whole plain (Expr-F.Val d) (ExprKind-F.Val other) h = sim_plain_callee (slots_view table) p.outside outside calls plain
    callee_at k le uu ee whole plain _ _ h = absurd h

    pub callee_sim : (k : ℕ) → k ≤ depth → (u : code.Expr) (e : Expr) → ExprStandsTo around units table k scope u e → Sim (slots_view table) (slots.callee units p u activation) (names.callee_at (keeping_free around) outside q (expr_kind_of e) e (environment_of scope activation))
    unfolding slots.callee
    callee_sim zero le u e h = absurd h
    callee_sim (suc k) le u e h = callee_at k (omega (arith, le)) u e h (below (suc k) le scope activation u e low h) (code.out-Expr u) (expr_kind_of e) h

    -- ---- properties of literals, attributes and children

    entry_sim : (k : ℕ) → k ≤ depth → (u : Entry) (e : Prop) → EntryStands around units table (ExprStandsTo around units table k) scope u e → Sim (slots_view table) (slots.entry units p u activation) (names.entry (keeping_free around) outside q e (environment_of scope activation))
    entry_sim k le u e h =
        subst (λ (z : List ℕ). Sim (slots_view table) (slots.entry units p u activation) (forms.entry z (q.expr (out-Prop e).value (environment_of scope activation)))) h.0 (sim_entry (slots_view table) (out-Entry u).name (below k le scope activation (out-Entry u).value (out-Prop e).value low h.1))

    entries_sim : (k : ℕ) → k ≤ depth → (us : List Entry) (es : List Prop) → AllStand (EntryStands around units table (ExprStandsTo around units table k) scope) us es
        → AllSim (slots_view table) (map (λ u. slots.entry units p u activation) us) (map (λ e. names.entry (keeping_free around) outside q e (environment_of scope activation)) es)
    entries_sim k le [] [] h = none
    entries_sim k le (u ∷ us) (e ∷ es) h = one (entry_sim k le u e h.0) (entries_sim k le us es h.1)
    entries_sim k le [] (e ∷ es) h = absurd h
    entries_sim k le (u ∷ us) [] h = absurd h

    value_at : (k : ℕ) → k ≤ depth → (u : PieceLayer) (e : MarkupValueLayer Tree) → PieceStandsForValue around units table (ExprStandsTo around units table k) scope u e
        → Sim (slots_view table) (slots.piece_at units p u activation) (names.attribute_value (keeping_free around) outside q e (environment_of scope activation))
    value_at k le (Piece-F.Piece::Text text) (MarkupValue-F.Quoted quoted) h = subst (λ (z : List ℕ). Sim (slots_view {H = H} table) (λ s. gives (value.Text text) s) (λ s. gives (value.Text z) s)) h (sim_pure (slots_view table) (value.Text text))
    value_at k le (Piece-F.Expr u) (MarkupValue-F.MarkupValue::Tilde e) h = below k le scope activation u e low h
    value_at k le (Piece-F.Expr u) (MarkupValue-F.MarkupValue::Dollar e) h = below k le scope activation u e low h
    value_at k le _ _ h = absurd h

    child_at : (k : ℕ) → k ≤ depth → (u : PieceLayer) (e : MarkupChildLayer Tree) → PieceStandsForChild around units table (ExprStandsTo around units table k) scope u e
        → Sim (slots_view table) (slots.piece_at units p u activation) (names.child_at (keeping_free around) outside q e (environment_of scope activation))
    child_at k le (Piece-F.Piece::Text text) (MarkupChild-F.MarkupChild::Text other) h = subst (λ (z : List ℕ). Sim (slots_view {H = H} table) (λ s. gives (value.Text text) s) (λ s. gives (value.Text z) s)) h (sim_pure (slots_view table) (value.Text text))
    child_at k le (Piece-F.Expr u) (MarkupChild-F.Direct e) h = below k le scope activation u e low h
    child_at k le (Piece-F.Expr u) (MarkupChild-F.MarkupChild::Dollar e) h = below k le scope activation u e low h
    child_at k le _ _ h = absurd h

    attribute_sim : (k : ℕ) → k ≤ depth → (u : Attribute) (e : MarkupAttribute) → AttributeStands around units table (ExprStandsTo around units table k) scope u e
        → Sim (slots_view table) (slots.attribute units p u activation) (names.attribute (keeping_free around) outside q e (environment_of scope activation))
    unfolding slots.piece
    attribute_sim k le u e h =
        subst (λ (z : List ℕ). Sim (slots_view table) (slots.attribute units p u activation) (forms.attribute outside z (names.attribute_value (keeping_free around) outside q (out-MarkupValue (out-MarkupAttribute e).value) (environment_of scope activation)))) h.0
        (sim_attribute (slots_view table) p.outside outside (outside_sim (slots_view table) p.outside outside calls) (out-Attribute u).name (value_at k le (out-Piece (out-Attribute u).value) (out-MarkupValue (out-MarkupAttribute e).value) h.1))

    attributes_sim : (k : ℕ) → k ≤ depth → (us : List Attribute) (es : List MarkupAttribute) → AllStand (AttributeStands around units table (ExprStandsTo around units table k) scope) us es
        → AllSim (slots_view table) (map (λ u. slots.attribute units p u activation) us) (map (λ e. names.attribute (keeping_free around) outside q e (environment_of scope activation)) es)
    attributes_sim k le [] [] h = none
    attributes_sim k le (u ∷ us) (e ∷ es) h = one (attribute_sim k le u e h.0) (attributes_sim k le us es h.1)
    attributes_sim k le [] (e ∷ es) h = absurd h
    attributes_sim k le (u ∷ us) [] h = absurd h

    children_sim : (k : ℕ) → k ≤ depth → (us : List Piece) (es : List MarkupChild) → AllStand (λ a b. PieceStandsForChild around units table (ExprStandsTo around units table k) scope (out-Piece a) (out-MarkupChild b)) us es
        → AllSim (slots_view table) (map (λ u. slots.piece units p u activation) us) (map (λ e. names.child (keeping_free around) outside q e (environment_of scope activation)) es)
    unfolding slots.piece
    children_sim k le [] [] h = none
    children_sim k le (u ∷ us) (e ∷ es) h = one (child_at k le (out-Piece u) (out-MarkupChild e) h.0) (children_sim k le us es h.1)
    children_sim k le [] (e ∷ es) h = absurd h
    children_sim k le (u ∷ us) [] h = absurd h

    -- ---- the cases

    built_sim : (d : Data) → Sim (slots_view {H = H} table) (forms.built d) (forms.built d)
    built_sim d = sim_built (slots_view table) d

    assigned_at : (k : ℕ) → k ≤ depth → (op : Option Binary) (u v : code.Expr) (a b : Expr) → ExprStandsTo around units table k scope u a → ExprStandsTo around units table k scope v b
        → Sim (slots_view table) (slots.assigned_by units p op u v activation) (names.assigned_by (keeping_free around) outside q op a b (environment_of scope activation))
    assigned_at k le None u v a b h g = sim_assignment (slots_view table) p.outside outside (outside_sim (slots_view table) p.outside outside calls) (target_sim k le u a h) (below k le scope activation v b low g)
    assigned_at k le (Some op) u v a b h g = sim_update (slots_view table) p.outside outside (outside_sim (slots_view table) p.outside outside calls) op (target_sim k le u a h) (below k le scope activation v b low g)

    pub case_expr : (k : ℕ) → k ≤ depth → (u : ExprLayer) (e : ExprKindLayer Tree) → ExprStands around units table (ExprStandsTo around units table k) scope u e
        → Sim (slots_view table) (slots.expr_at units p u activation) (names.expr_at (keeping_free around) outside q e (environment_of scope activation))
    case_expr k le (Expr-F.Name n) (ExprKind-F.Name text) h = sim_looked_up (slots_view table) p.outside outside (outside_sim (slots_view table) p.outside outside calls) (read_sim n text h)
    case_expr k le (Expr-F.Num n) (ExprKind-F.Num m) h = subst (λ z. Sim (slots_view {H = H} table) (forms.constant (value.Num n)) (forms.constant (value.Num z))) h (sim_constant (slots_view table) (value.Num n))
    case_expr k le (Expr-F.Expr::Text n) (ExprKind-F.ExprKind::Text m) h = subst (λ (z : List ℕ). Sim (slots_view {H = H} table) (forms.constant (value.Text n)) (forms.constant (value.Text z))) h (sim_constant (slots_view table) (value.Text n))
    case_expr k le (Expr-F.Bool n) (ExprKind-F.Bool m) h = subst (λ z. Sim (slots_view {H = H} table) (forms.constant (value.Bool n)) (forms.constant (value.Bool z))) h (sim_constant (slots_view table) (value.Bool n))
    case_expr k le Expr-F.Null ExprKind-F.Null h = sim_constant (slots_view table) value.Null
    case_expr k le Expr-F.Undefined ExprKind-F.Undefined h = sim_constant (slots_view table) value.Undefined
    case_expr k le Expr-F.Undefined (ExprKind-F.ExprKind::Dollar at) h = sim_constant (slots_view table) value.Undefined
    case_expr k le Expr-F.Undefined (ExprKind-F.Stray a) h = sim_constant (slots_view table) value.Undefined
    case_expr k le (Expr-F.Arr us) (ExprKind-F.Arr es) h = sim_array (slots_view table) (all_sim k le us es h)
    case_expr k le (Expr-F.Obj us) (ExprKind-F.Obj es) h = sim_object (slots_view table) (entries_sim k le us es h)
    case_expr k le (Expr-F.Fun n) (ExprKind-F.Fun f) h = sim_function (slots_view table) (sim_capture around units table scope activation low n (own_name (out-Function f).name) f h)
    case_expr k le (Expr-F.Unary op u) (ExprKind-F.Unary other e) h = subst (λ z. Sim (slots_view table) (forms.unary op (p.expr u activation)) (forms.unary z (q.expr e (environment_of scope activation)))) h.0 (sim_unary (slots_view table) op (below k le scope activation u e low h.1))
    case_expr k le (Expr-F.Step op u) (ExprKind-F.Step other e) h = subst (λ z. Sim (slots_view table) (forms.count p.outside op (slots.target units p u activation)) (forms.count outside z (names.target (keeping_free around) outside q e (environment_of scope activation)))) h.0 (sim_count (slots_view table) p.outside outside (outside_sim (slots_view table) p.outside outside calls) op (target_sim k le u e h.1))
    case_expr k le (Expr-F.Binary op u v) (ExprKind-F.Binary other a b) h =
        subst (λ z. Sim (slots_view table) (forms.operation op (p.expr u activation) (p.expr v activation)) (forms.operation z (q.expr a (environment_of scope activation)) (q.expr b (environment_of scope activation)))) h.0 (sim_operation (slots_view table) op (below k le scope activation u a low h.1) (below k le scope activation v b low h.2))
    case_expr k le (Expr-F.And u v) (ExprKind-F.And a b) h = sim_conjunction (slots_view table) (below k le scope activation u a low h.0) (below k le scope activation v b low h.1)
    case_expr k le (Expr-F.Or u v) (ExprKind-F.Or a b) h = sim_disjunction (slots_view table) (below k le scope activation u a low h.0) (below k le scope activation v b low h.1)
    case_expr k le (Expr-F.Cond u v w) (ExprKind-F.Cond a b c) h = sim_conditional (slots_view table) (below k le scope activation u a low h.0) (below k le scope activation v b low h.1) (below k le scope activation w c low h.2)
    case_expr k le (Expr-F.Assign op u v) (ExprKind-F.Assign other a b) h =
        subst (λ (z : Option Binary). Sim (slots_view table) (slots.assigned_by units p op u v activation) (names.assigned_by (keeping_free around) outside q z a b (environment_of scope activation))) h.0 (assigned_at k le op u v a b h.1 h.2)
    case_expr k le (Expr-F.Index u v) (ExprKind-F.Index a b) h = sim_index (slots_view table) p.outside outside (outside_sim (slots_view table) p.outside outside calls) (below k le scope activation u a low h.0) (below k le scope activation v b low h.1)
    case_expr k le (Expr-F.Call u us) (ExprKind-F.Call a es) h = sim_call (slots_view table) p.outside outside calls (callee_sim k le u a h.0) (all_sim k le us es h.1)
    case_expr k le (Expr-F.Tilde id us) (ExprKind-F.ExprKind::Tilde other) h =
        subst (λ z. Sim (slots_view table) (forms.tilde p.outside id (slots.exprs units p us activation)) (forms.tilde outside z (names.exprs (keeping_free around) outside q (dollars_of (slice_get around.tildes other)) (environment_of scope activation)))) h.0
        (sim_tilde (slots_view table) p.outside outside (outside_sim (slots_view table) p.outside outside calls) id (all_sim k le us (dollars_of (slice_get around.tildes other)) (subst (λ z. AllStand (ExprStandsTo around units table k scope) us (dollars_of (slice_get around.tildes z))) h.0 h.1)))
    case_expr k le (Expr-F.Element tag xs cs) (ExprKind-F.Markup m) h =
        subst (λ (z : List ℕ). Sim (slots_view table) (forms.element p.outside tag (map (λ a. slots.attribute units p a activation) xs) (map (λ c. slots.piece units p c activation) cs)) (forms.element outside z (map (λ a. names.attribute (keeping_free around) outside q a (environment_of scope activation)) (out-Markup m).attributes) (map (λ c. names.child (keeping_free around) outside q c (environment_of scope activation)) (out-Markup m).children))) h.0
        (sim_element (slots_view table) p.outside outside (outside_sim (slots_view table) p.outside outside calls) tag (attributes_sim k le xs (out-Markup m).attributes h.1) (children_sim k le cs (out-Markup m).children h.2))
    case_expr k le (Expr-F.Val d) (ExprKind-F.Val other) h = subst (λ z. Sim (slots_view {H = H} table) (forms.built d) (forms.built z)) h (built_sim d)
    case_expr k le _ _ h = absurd h
