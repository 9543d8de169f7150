-- An expression does the same in environments that agree on the names that are free in it.
use Rattle.std.proofs.Common.{◌≡◌, ℕ, suc, List, [], ◌∷◌, ◌++◌, length, map, Option, Some, None, true, false, refl, sym, ap, ◌∙◌, subst}
use Rattle.std.specs.Prelude.{flat_map, slice_get}
use Rattle.mt_eval_meaning.specs.Free.{Names, Used, has, without, none, joined, finding, used_by_expr_kind, tilde_names, dollar_names, free_of}
use Rattle.mt_eval_meaning.specs.States.{keeping_free, kept_free, trim_closure}
use Rattle.mt_eval_agreement.proofs.Bound.{own_names}
use Rattle.mt_eval_agreement.proofs.Building.{sim_built}
use Rattle.mt_eval_agreement.proofs.Cuts.{Coincide, coincide_find, coincide_less, coincide_left, coincide_right, has_here, has_without, only_without, name_same}
use Rattle.mt_eval_agreement.proofs.Forms.{AllSim, none as no_parts, one, SimOutside, sim_constant, sim_unary, sim_operation, sim_conjunction, sim_disjunction, sim_conditional, sim_function, sim_array, sim_entry, sim_object, sim_index, sim_looked_up, sim_assignment, sim_update, sim_count, sim_tilde, sim_attribute, sim_element}
use Rattle.mt_eval_agreement.proofs.Nests.{names_of_dollars}
use Rattle.mt_eval_agreement.proofs.Outsides.{SimCalls, outside_sim, name_sim, sim_plain_callee, sim_member_callee, sim_call}
use Rattle.mt_eval_agreement.proofs.Trims.{trim_view, same_capture}
use Rattle.mt_eval_agreement.proofs.Uses.{expr_uses, function_uses, function_used, prop_uses, markup_uses, attribute_uses, child_uses}
use Rattle.mt_eval_agreement.proofs.Views.{Sim, sim_pure, sim_bind}
use Rattle.mt_eval_meaning.specs.Entering.{Closure, Named, closure, capture}
use Rattle.mt_eval_meaning.specs.Evaluation as names
use Rattle.mt_eval_meaning.specs.Evaluation.{expr_kind_of, dollars_of, own_name}
use Rattle.mt_eval_meaning.specs.Host.{Outside}
use Rattle.mt_eval_meaning.specs.Names.{Binding, Environment, Surroundings, find, referent, referent_outside, bound_or_outside}
use Rattle.mt_eval_meaning.specs.References.{read_name}
use Rattle.mt_eval_meaning.specs.Runs.{gives}
use Rattle.mt_eval_meaning.specs.declared.reference.Reference.TheVariants as reference
use Rattle.mt_eval_meaning.specs.declared.reference.Referent.{Referent}
use Rattle.mt_syntax.specs.Fold.{Tree, ExprKindLayer, MarkupChildLayer, MarkupValueLayer, on_expr, on_stmt, on_function, on_markup, on_markup_attribute, on_markup_child, on_prop}
use Rattle.mt_syntax.specs.Gathering.{all_of, of_markup_child, of_markup_value}
use Rattle.mt_syntax.specs.declared.program.Tilde.{Tilde}
use Rattle.mt_tree.specs.declared.operators.Binary.{Binary}
use Rattle.mt_syntax.specs.declared.tree.Expr.{Expr}
use Rattle.mt_syntax.specs.declared.tree.ExprKind.TheOpen.{ExprKind-F, MarkupChild-F, MarkupValue-F}
use Rattle.mt_syntax.specs.declared.tree.Function.{Function, out-Function}
use Rattle.mt_syntax.specs.declared.tree.Mark.{Mark}
use Rattle.mt_syntax.specs.declared.tree.Markup.{Markup, out-Markup}
use Rattle.mt_syntax.specs.declared.tree.MarkupAttribute.{MarkupAttribute, out-MarkupAttribute}
use Rattle.mt_syntax.specs.declared.tree.MarkupChild.{MarkupChild, out-MarkupChild}
use Rattle.mt_syntax.specs.declared.tree.MarkupValue.{out-MarkupValue}
use Rattle.mt_syntax.specs.declared.tree.Prop.{Prop, out-Prop}
use Rattle.mt_syntax.specs.declared.tree.Stmt.{Stmt}
use Rattle.mt_syntax_laws.proofs.Layers.{map_expr_kind, map_markup_child, map_markup_value}
use Rattle.mt_syntax_laws.proofs.Related.{on}
use Rattle.mt_value.specs.declared.value.Value.TheVariants as value

-- ---- the names of tildes, where those of their dollars are among them

abbrev pub tilde : Surroundings → ℕ → Names
tilde around = tilde_names around.tildes (suc (length around.tildes))

-- ---- names

outside_same : (around : Surroundings) (o : Option Binding) (name : List ℕ) → bound_or_outside o around name ≡ bound_or_outside o (keeping_free around) name
unfolding referent_outside
outside_same around (Some b) name = refl
outside_same around None name = refl

pub referent_same : (around : Surroundings) (free : Names) (env env' : Environment) (name : List ℕ) → Coincide [] free env env' → has free name ≡ true → referent around env name ≡ referent (keeping_free around) env' name
referent_same around free env env' name a h = ap (λ o. bound_or_outside o around name) (sym (coincide_find [] free env env' name a h refl)) ∙ outside_same around (find name env') name

-- ---- functions

-- what is free in a function that has a name inside is used in it, and isn't this name
pub free_parts : (around : Surroundings) (own : Option (List ℕ)) (f : Function) (y : List ℕ) → has (free_of around.tildes own f) y ≡ true → (has (on_function (finding (tilde around)) f).free y ≡ true) × (has (own_names own) y ≡ false)
unfolding free_of
free_parts around None f y h = only_without [] (on_function (finding (tilde around)) f).free y h
free_parts around (Some name) f y h = only_without (name ∷ []) (on_function (finding (tilde around)) f).free y h

pub free_from : (around : Surroundings) (own : Option (List ℕ)) (f : Function) (y : List ℕ) → has (on_function (finding (tilde around)) f).free y ≡ true → has (own_names own) y ≡ false → has (free_of around.tildes own f) y ≡ true
unfolding free_of
free_from around None f y h n = has_without [] (on_function (finding (tilde around)) f).free y n h
free_from around (Some name) f y h n = has_without (name ∷ []) (on_function (finding (tilde around)) f).free y n h

own_name_of : (around : Surroundings) (parameters : List Mark) (body : List Stmt) (m : Option Mark) → (function_used (tilde around) parameters body m).functions ≡ own_names (own_name m)
own_name_of around parameters body None = refl
own_name_of around parameters body (Some m) = refl

functions_of : (around : Surroundings) (f : Function) → (on_function (finding (tilde around)) f).functions ≡ own_names (own_name (out-Function f).name)
functions_of around f = ap (λ (u : Used). u.functions) (function_uses (tilde around) f) ∙ own_name_of around (out-Function f).parameters (out-Function f).body (out-Function f).name

free_in_expression : (around : Surroundings) (f : Function) (y : List ℕ) → has (free_of around.tildes (own_name (out-Function f).name) f) y ≡ true → has (without (on_function (finding (tilde around)) f).functions (on_function (finding (tilde around)) f).free) y ≡ true
free_in_expression around f y h =
    let parts = free_parts around (own_name (out-Function f).name) f y h in
    has_without (on_function (finding (tilde around)) f).functions (on_function (finding (tilde around)) f).free y (ap (λ (xs : Names). has xs y) (functions_of around f) ∙ parts.1) parts.0

-- ---- tildes

all_free : (around : Surroundings) (es : List Expr) → (all_of none joined (map (on_expr (finding (tilde around))) es)).free ≡ flat_map (λ e. (on_expr (finding (tilde around)) e).free) es
all_free around [] = refl
all_free around (e ∷ es) = ap (λ (xs : Names). (on_expr (finding (tilde around)) e).free ++ xs) (all_free around es)

dollars_free : (around : Surroundings) (o : Option Tilde) → (all_of none joined (map (on_expr (finding (tilde around))) (dollars_of o))).free ≡ dollar_names (tilde around) o
dollars_free around None = refl
dollars_free around (Some t) = all_free around t.dollars

free_in_tilde : (around : Surroundings) (id : ℕ) (y : List ℕ) → has (all_of none joined (map (on_expr (finding (tilde around))) (dollars_of (slice_get around.tildes id)))).free y ≡ true → has (tilde around id) y ≡ true
free_in_tilde around id y h = names_of_dollars around.tildes y id (sym (ap (λ (xs : Names). has xs y) (dollars_free around (slice_get around.tildes id))) ∙ h)

-- ---- parts that do the same where environments agree on what is free in them

pub record SameParts {H : Type 0} (around : Surroundings) (p q : names.Parts H) : Type 0 where
  pub expr : (e : Expr) (env env' : Environment) → Coincide [] (on_expr (finding (tilde around)) e).free env env' → Sim (trim_view around.tildes) (p.expr e env) (q.expr e env')
  pub stmt : (t : Stmt) (env env' : Environment) → Coincide [] (on_stmt (finding (tilde around)) t).free env env' → Sim (trim_view around.tildes) (p.stmt t env) (q.stmt t env')

pub closure_same : {H : Type 0} (around : Surroundings) → ((own : Option (List ℕ)) (f : Function) (env : Environment) → around.kept own f env ≡ env) → (own : Option (List ℕ)) (f : Function) (env env' : Environment) → Coincide [] (free_of around.tildes own f) env env'
    → Sim (trim_view {H = H} around.tildes) (capture (closure around own f env)) (capture (closure (keeping_free around) own f env'))
closure_same {H = H} around keeps own f env env' a =
    let is : trim_closure around.tildes (closure around own f env) ≡ closure (keeping_free around) own f env' =
    ap (λ (es : Environment). record { own = own; function = f; environment = es }) (ap (kept_free around.tildes own f) (keeps own f env) ∙ sym (a.cuts (free_of around.tildes own f) (λ y h. (h, refl)))) in
    subst (λ (c : Closure). Sim (trim_view {H = H} around.tildes) (capture (closure around own f env)) (capture c)) is (same_capture around.tildes (closure around own f env))

module _ {H : Type 0} (around : Surroundings) (keeps : (own : Option (List ℕ)) (f : Function) (env : Environment) → around.kept own f env ≡ env)
    (o o' : Outside (Named H)) (calls : SimCalls (trim_view around.tildes) o o') (p q : names.Parts H) (below : SameParts around p q) where
  abbrev right : Surroundings
  right = keeping_free around

  -- what a part of a tree uses
  abbrev used : Expr → Used
  used = on_expr (finding (tilde around))

  outs : SimOutside (trim_view around.tildes) o o'
  outs = outside_sim (trim_view around.tildes) o o' calls

  exprs_same : (es : List Expr) (env env' : Environment) → Coincide [] (all_of none joined (map used es)).free env env' → AllSim (trim_view around.tildes) (names.exprs around o p es env) (names.exprs right o' q es env')
  exprs_same [] env env' a = no_parts
  exprs_same (e ∷ es) env env' a =
      let rest = (all_of none joined (map used es)).free in
      one (below.expr e env env' (coincide_left (used e).free rest env env' a)) (exprs_same es env env' (coincide_right (used e).free rest env env' a))

  name_read : (text : List ℕ) (env env' : Environment) → Coincide [] (text ∷ []) env env' → Sim (trim_view around.tildes) (read_name o text (referent around env text)) (read_name o' text (referent right env' text))
  name_read text env env' a =
      subst (λ (r : Referent). Sim (trim_view around.tildes) (read_name o text (referent around env text)) (read_name o' text r)) (referent_same around (text ∷ []) env env' text a (has_here text [] text (name_same text)))
      (name_sim (trim_view around.tildes) o o' calls text (referent around env text))

  -- ---- targets and callees

  target_at_same : (x : ExprKindLayer Tree) (env env' : Environment) → Coincide [] (used_by_expr_kind (tilde around) (map_expr_kind (on (finding (tilde around))) x)).free env env'
      → Sim (trim_view around.tildes) (names.target_at around o p x env) (names.target_at right o' q x env')
  target_at_same (ExprKind-F.Name text) env env' a =
      subst (λ (r : Referent). Sim (trim_view {H = H} around.tildes) (λ s. gives (reference.Name text (referent around env text)) s) (λ s. gives (reference.Name text r) s)) (referent_same around (text ∷ []) env env' text a (has_here text [] text (name_same text)))
      (sim_pure (trim_view around.tildes) (reference.Name text (referent around env text)))
  target_at_same (ExprKind-F.Index b k) env env' a =
      sim_bind (trim_view around.tildes) (below.expr b env env' (coincide_left (used b).free (used k).free env env' a)) (λ base.
      sim_bind (trim_view around.tildes) (below.expr k env env' (coincide_right (used b).free (used k).free env env' a)) (λ key. sim_pure (trim_view around.tildes) (reference.Property base key)))
  target_at_same _ env env' a = sim_pure (trim_view around.tildes) (reference.Property value.Undefined value.Undefined)

  target_same : (e : Expr) (env env' : Environment) → Coincide [] (used e).free env env' → Sim (trim_view around.tildes) (names.target around o p e env) (names.target right o' q e env')
  target_same e env env' a = target_at_same (expr_kind_of e) env env' (subst (λ (u : Used). Coincide [] u.free env env') (expr_uses (tilde around) e) a)

  callee_at_same : (x : ExprKindLayer Tree) (e : Expr) (env env' : Environment) → Coincide [] (used_by_expr_kind (tilde around) (map_expr_kind (on (finding (tilde around))) x)).free env env' → Coincide [] (used e).free env env'
      → Sim (trim_view around.tildes) (names.callee_at around o p x e env) (names.callee_at right o' q x e env')
  callee_at_same (ExprKind-F.Index b k) e env env' a whole =
      sim_member_callee (trim_view around.tildes) o o' calls (below.expr b env env' (coincide_left (used b).free (used k).free env env' a)) (below.expr k env env' (coincide_right (used b).free (used k).free env env' a))
  callee_at_same _ e env env' a whole = sim_plain_callee (trim_view around.tildes) o o' calls (below.expr e env env' whole)

  callee_same : (e : Expr) (env env' : Environment) → Coincide [] (used e).free env env' → Sim (trim_view around.tildes) (names.callee_at around o p (expr_kind_of e) e env) (names.callee_at right o' q (expr_kind_of e) e env')
  callee_same e env env' a = callee_at_same (expr_kind_of e) e env env' (subst (λ (u : Used). Coincide [] u.free env env') (expr_uses (tilde around) e) a) a

  assigned_same : (op : Option Binary) (b e : Expr) (env env' : Environment) → Coincide [] ((used b).free ++ (used e).free) env env' → Sim (trim_view around.tildes) (names.assigned_by around o p op b e env) (names.assigned_by right o' q op b e env')
  assigned_same None b e env env' a =
      sim_assignment (trim_view around.tildes) o o' outs (target_same b env env' (coincide_left (used b).free (used e).free env env' a)) (below.expr e env env' (coincide_right (used b).free (used e).free env env' a))
  assigned_same (Some op) b e env env' a =
      sim_update (trim_view around.tildes) o o' outs op (target_same b env env' (coincide_left (used b).free (used e).free env env' a)) (below.expr e env env' (coincide_right (used b).free (used e).free env env' a))

  -- ---- properties of literals, attributes and children

  entries_same : (qs : List Prop) (env env' : Environment) → Coincide [] (all_of none joined (map (on_prop (finding (tilde around))) qs)).free env env' → AllSim (trim_view around.tildes) (map (λ r. names.entry around o p r env) qs) (map (λ r. names.entry right o' q r env') qs)
  entries_same [] env env' a = no_parts
  entries_same (r ∷ qs) env env' a =
      let first = (on_prop (finding (tilde around)) r).free in
      let rest = (all_of none joined (map (on_prop (finding (tilde around))) qs)).free in
      one (sim_entry (trim_view around.tildes) (out-Prop r).name (below.expr (out-Prop r).value env env' (subst (λ (u : Used). Coincide [] u.free env env') (prop_uses (tilde around) r) (coincide_left first rest env env' a))))
      (entries_same qs env env' (coincide_right first rest env env' a))

  value_same : (x : MarkupValueLayer Tree) (env env' : Environment) → Coincide [] (of_markup_value none joined (map_markup_value (on (finding (tilde around))) x)).free env env' → Sim (trim_view around.tildes) (names.attribute_value around o p x env) (names.attribute_value right o' q x env')
  value_same (MarkupValue-F.Quoted text) env env' a = sim_pure (trim_view around.tildes) (value.Text text)
  value_same (MarkupValue-F.MarkupValue::Tilde e) env env' a = below.expr e env env' a
  value_same (MarkupValue-F.MarkupValue::Dollar e) env env' a = below.expr e env env' a

  attributes_same : (xs : List MarkupAttribute) (env env' : Environment) → Coincide [] (all_of none joined (map (on_markup_attribute (finding (tilde around))) xs)).free env env'
      → AllSim (trim_view around.tildes) (map (λ x. names.attribute around o p x env) xs) (map (λ x. names.attribute right o' q x env') xs)
  attributes_same [] env env' a = no_parts
  attributes_same (x ∷ xs) env env' a =
      let first = (on_markup_attribute (finding (tilde around)) x).free in
      let rest = (all_of none joined (map (on_markup_attribute (finding (tilde around))) xs)).free in
      one (sim_attribute (trim_view around.tildes) o o' outs (out-MarkupAttribute x).name.name (value_same (out-MarkupValue (out-MarkupAttribute x).value) env env' (subst (λ (u : Used). Coincide [] u.free env env') (attribute_uses (tilde around) x) (coincide_left first rest env env' a))))
      (attributes_same xs env env' (coincide_right first rest env env' a))

  child_same : (x : MarkupChildLayer Tree) (env env' : Environment) → Coincide [] (of_markup_child none joined (map_markup_child (on (finding (tilde around))) x)).free env env' → Sim (trim_view around.tildes) (names.child_at around o p x env) (names.child_at right o' q x env')
  child_same (MarkupChild-F.MarkupChild::Text text) env env' a = sim_pure (trim_view around.tildes) (value.Text text)
  child_same (MarkupChild-F.Direct e) env env' a = below.expr e env env' a
  child_same (MarkupChild-F.MarkupChild::Dollar e) env env' a = below.expr e env env' a

  children_same : (xs : List MarkupChild) (env env' : Environment) → Coincide [] (all_of none joined (map (on_markup_child (finding (tilde around))) xs)).free env env'
      → AllSim (trim_view around.tildes) (map (λ x. names.child around o p x env) xs) (map (λ x. names.child right o' q x env') xs)
  children_same [] env env' a = no_parts
  children_same (x ∷ xs) env env' a =
      let first = (on_markup_child (finding (tilde around)) x).free in
      let rest = (all_of none joined (map (on_markup_child (finding (tilde around))) xs)).free in
      one (child_same (out-MarkupChild x) env env' (subst (λ (u : Used). Coincide [] u.free env env') (child_uses (tilde around) x) (coincide_left first rest env env' a)))
      (children_same xs env env' (coincide_right first rest env env' a))

  element_same : (m : Markup) (env env' : Environment) → Coincide [] (on_markup (finding (tilde around)) m).free env env' → Sim (trim_view around.tildes) (names.element around o p m env) (names.element right o' q m env')
  element_same m env env' a =
      let first = (all_of none joined (map (on_markup_attribute (finding (tilde around))) (out-Markup m).attributes)).free in
      let rest = (all_of none joined (map (on_markup_child (finding (tilde around))) (out-Markup m).children)).free in
      let parts : Coincide [] (first ++ rest) env env' = subst (λ (u : Used). Coincide [] u.free env env') (markup_uses (tilde around) m) a in
      sim_element (trim_view around.tildes) o o' outs (out-Markup m).tag (attributes_same (out-Markup m).attributes env env' (coincide_left first rest env env' parts)) (children_same (out-Markup m).children env env' (coincide_right first rest env env' parts))

  -- ---- the cases

  pub expr_same : (x : ExprKindLayer Tree) (env env' : Environment) → Coincide [] (used_by_expr_kind (tilde around) (map_expr_kind (on (finding (tilde around))) x)).free env env'
      → Sim (trim_view around.tildes) (names.expr_at around o p x env) (names.expr_at right o' q x env')
  expr_same (ExprKind-F.Name text) env env' a = sim_looked_up (trim_view around.tildes) o o' outs (name_read text env env' a)
  expr_same (ExprKind-F.Num n) env env' a = sim_constant (trim_view around.tildes) (value.Num n)
  expr_same (ExprKind-F.ExprKind::Text text) env env' a = sim_constant (trim_view around.tildes) (value.Text text)
  expr_same (ExprKind-F.Bool b) env env' a = sim_constant (trim_view around.tildes) (value.Bool b)
  expr_same ExprKind-F.Null env env' a = sim_constant (trim_view around.tildes) value.Null
  expr_same ExprKind-F.Undefined env env' a = sim_constant (trim_view around.tildes) value.Undefined
  expr_same (ExprKind-F.Arr es) env env' a = sim_array (trim_view around.tildes) (exprs_same es env env' a)
  expr_same (ExprKind-F.Obj qs) env env' a = sim_object (trim_view around.tildes) (entries_same qs env env' a)
  expr_same (ExprKind-F.Fun f) env env' a =
      sim_function (trim_view around.tildes) (closure_same around keeps (own_name (out-Function f).name) f env env'
      (coincide_less [] (without (on_function (finding (tilde around)) f).functions (on_function (finding (tilde around)) f).free) (free_of around.tildes (own_name (out-Function f).name) f) env env' (free_in_expression around f) a))
  expr_same (ExprKind-F.Unary op e) env env' a = sim_unary (trim_view around.tildes) op (below.expr e env env' a)
  expr_same (ExprKind-F.Step kind e) env env' a = sim_count (trim_view around.tildes) o o' outs kind (target_same e env env' a)
  expr_same (ExprKind-F.Binary op b c) env env' a =
      sim_operation (trim_view around.tildes) op (below.expr b env env' (coincide_left (used b).free (used c).free env env' a)) (below.expr c env env' (coincide_right (used b).free (used c).free env env' a))
  expr_same (ExprKind-F.And b c) env env' a =
      sim_conjunction (trim_view around.tildes) (below.expr b env env' (coincide_left (used b).free (used c).free env env' a)) (below.expr c env env' (coincide_right (used b).free (used c).free env env' a))
  expr_same (ExprKind-F.Or b c) env env' a =
      sim_disjunction (trim_view around.tildes) (below.expr b env env' (coincide_left (used b).free (used c).free env env' a)) (below.expr c env env' (coincide_right (used b).free (used c).free env env' a))
  expr_same (ExprKind-F.Cond b c d) env env' a =
      let rest : Coincide [] ((used c).free ++ (used d).free) env env' = coincide_right (used b).free ((used c).free ++ (used d).free) env env' a in
      sim_conditional (trim_view around.tildes) (below.expr b env env' (coincide_left (used b).free ((used c).free ++ (used d).free) env env' a)) (below.expr c env env' (coincide_left (used c).free (used d).free env env' rest))
      (below.expr d env env' (coincide_right (used c).free (used d).free env env' rest))
  expr_same (ExprKind-F.Assign op b c) env env' a = assigned_same op b c env env' a
  expr_same (ExprKind-F.Index b k) env env' a =
      sim_index (trim_view around.tildes) o o' outs (below.expr b env env' (coincide_left (used b).free (used k).free env env' a)) (below.expr k env env' (coincide_right (used b).free (used k).free env env' a))
  expr_same (ExprKind-F.Call f es) env env' a =
      let rest = (all_of none joined (map used es)).free in
      sim_call (trim_view around.tildes) o o' calls (callee_same f env env' (coincide_left (used f).free rest env env' a)) (exprs_same es env env' (coincide_right (used f).free rest env env' a))
  expr_same (ExprKind-F.ExprKind::Tilde id) env env' a =
      let es = dollars_of (slice_get around.tildes id) in
      sim_tilde (trim_view around.tildes) o o' outs id (exprs_same es env env' (coincide_less [] (tilde around id) (all_of none joined (map used es)).free env env' (free_in_tilde around id) a))
  expr_same (ExprKind-F.ExprKind::Dollar at) env env' a = sim_constant (trim_view around.tildes) value.Undefined
  expr_same (ExprKind-F.Stray e) env env' a = sim_constant (trim_view around.tildes) value.Undefined
  expr_same (ExprKind-F.Markup m) env env' a = element_same m env env' a
  expr_same (ExprKind-F.Val d) env env' a = sim_built (trim_view around.tildes) d
