-- What is gathered from a tree that the builder makes, at each node.
use Rattle.std.proofs.Common.{◌≡◌, ℕ, List, map, Option, None, Some, refl, sym, ap, ◌∙◌}
use Rattle.mt_tree.specs.declared.place.Place.{Place}
use Rattle.mt_syntax.specs.Fold.{Every, ExprKindLayer, MarkupChildLayer, MarkupValueLayer, StmtKindLayer, Steps, Tree, on_decl, on_expr, on_for_start, on_function, on_markup_attribute, on_markup_child, on_prop, on_stmt}
use Rattle.mt_syntax.specs.Gathering.{all_of, gathering, of_expr_kind, of_markup_child, of_markup_value, of_stmt_kind}
use Rattle.mt_syntax_laws.proofs.Layers.{map_expr_kind, map_stmt_kind, map_twice}
use Rattle.mt_syntax_laws.proofs.Related.{on, at_decl, at_expr, at_expr_kind, at_for_start, at_function, at_markup, at_markup_attribute, at_markup_child, at_markup_value, at_prop, at_stmt, at_stmt_kind}
use Rattle.mt_syntax.specs.declared.tree.Expr as syntax_expr
use Rattle.mt_syntax.specs.declared.tree.ExprKind.{roll-ExprKind}
use Rattle.mt_syntax.specs.declared.tree.ForStart as syntax_start
use Rattle.mt_syntax.specs.declared.tree.Mark as syntax_mark
use Rattle.mt_syntax.specs.declared.tree.MarkupChild.{MarkupChild}
use Rattle.mt_syntax.specs.declared.tree.MarkupValue.{MarkupValue}
use Rattle.mt_syntax.specs.declared.tree.Stmt as syntax_stmt
use Rattle.mt_syntax.specs.declared.tree.StmtKind.{roll-StmtKind}
use Rattle.mt_syntax.specs.declared.tree.ExprKind.TheOpen.{ExprKind-F, ForStart-F, MarkupChild-F, MarkupValue-F, StmtKind-F}
use Rattle.mt_grammar.specs.declared.terminal.Heading.{Heading}
use Rattle.mt_grammar.specs.declared.terminal.Heading.TheVariants as heading
use Rattle.mt_grammar.specs.Tree.{Key}
use Rattle.mt_parser_builder.specs.Syntax as made
use Rattle.mt_parser_builder.specs.Syntax.{mark_of}
use Rattle.mt_parser_builder.specs.Program.{attribute_of, decl_made, key_of, prop_of}
use Rattle.mt_parser.proofs.Joins.{Joins}

-- the nodes from which a gathering gives what their parts do
abbrev pub IsPlain : {X : Type 0} → ExprKindLayer (Every X) → Type 0
IsPlain (ExprKind-F.ExprKind::Tilde id) = ⊥
IsPlain (ExprKind-F.ExprKind::Dollar at) = ⊥
IsPlain (ExprKind-F.Stray a) = ⊥
IsPlain (ExprKind-F.Val d) = ⊥
IsPlain _ = Unit {0}

abbrev pub IsPlainChild : {X : Type 0} → MarkupChildLayer (Every X) → Type 0
IsPlainChild (MarkupChild-F.MarkupChild::Dollar a) = ⊥
IsPlainChild _ = Unit {0}

abbrev pub IsPlainValue : {X : Type 0} → MarkupValueLayer (Every X) → Type 0
IsPlainValue (MarkupValue-F.MarkupValue::Dollar a) = ⊥
IsPlainValue _ = Unit {0}

-- A gathering that has steps of its own at some nodes, by a value of V. `wrap` is what a statement or an expression makes of its kind's result.
pub record Gathering (V X : Type 0) : Type 0 where
  pub none : X
  pub join : X → X → X
  pub wrap : X → X
  pub kind : V → ExprKindLayer (Every X) → X
  pub child : V → MarkupChildLayer (Every X) → X
  pub value : V → MarkupValueLayer (Every X) → X
  pub joins : Joins none join
  pub kinds : (v : V) (x : ExprKindLayer (Every X)) → IsPlain x → kind v x ≡ of_expr_kind none join x
  pub children : (v : V) (x : MarkupChildLayer (Every X)) → IsPlainChild x → child v x ≡ of_markup_child none join x
  pub values : (v : V) (x : MarkupValueLayer (Every X)) → IsPlainValue x → value v x ≡ of_markup_value none join x

module _ {V X : Type 0} (g : Gathering V X) where
  abbrev pub steps : V → Steps (Every X)
  steps v = record (gathering g.none g.join) { expr_kind = g.kind v; markup_child = g.child v; markup_value = g.value v; expr = λ e. g.wrap e.kind; stmt = λ s. g.wrap s.kind }

  -- ---- what each part gives

  abbrev pub in_expr : syntax_expr.Expr → V → X
  in_expr e v = on_expr (steps v) e

  abbrev pub in_stmt : syntax_stmt.Stmt → V → X
  in_stmt s v = on_stmt (steps v) s

  abbrev pub in_optional : Option syntax_expr.Expr → V → X
  in_optional None v = g.none
  in_optional (Some e) v = in_expr e v

  -- what the items of a row give
  abbrev pub all_in : {T : Type 0} → (T → V → X) → List T → V → X
  all_in f xs v = all_of g.none g.join (map (λ x. f x v) xs)

  abbrev pub in_prop : Key × syntax_expr.Expr → V → X
  in_prop q v = on_prop (steps v) (prop_of q)

  abbrev pub in_attribute : syntax_mark.Mark × MarkupValue → V → X
  in_attribute a v = on_markup_attribute (steps v) (attribute_of a)

  abbrev pub in_child : MarkupChild → V → X
  in_child c v = on_markup_child (steps v) c

  abbrev pub in_decl : syntax_mark.Mark × Option syntax_expr.Expr → V → X
  in_decl d v = on_decl (steps v) (decl_made d)

  abbrev pub in_start : syntax_start.ForStart → V → X
  in_start a v = on_for_start (steps v) a

  pub at_made : (p : Place) (layer : ExprKindLayer Tree) (v : V) → in_expr (made.expr p layer) v ≡ g.wrap (g.kind v (map_expr_kind (on (steps v)) layer))
  at_made p layer v = at_expr (steps v) (record { place = p; kind = roll-ExprKind layer }) ∙ ap g.wrap (at_expr_kind (steps v) layer)

  pub at_made_stmt : (p : Place) (layer : StmtKindLayer Tree) (v : V) → in_stmt (made.stmt p layer) v ≡ g.wrap (of_stmt_kind g.none g.join (map_stmt_kind (on (steps v)) layer))
  at_made_stmt p layer v = at_stmt (steps v) (record { place = p; kind = roll-StmtKind layer }) ∙ ap g.wrap (at_stmt_kind (steps v) layer)

  -- ---- what the parts of a node give

  pub function_is : (called : Option syntax_mark.Mark) (ms : List syntax_mark.Mark) (body : List syntax_stmt.Stmt) (v : V) → on_function (steps v) (made.function called ms body) ≡ all_in in_stmt body v
  function_is called ms body v = at_function (steps v) (record { name = called; parameters = ms; body = body })

  pub expression_is : (called : Option syntax_mark.Mark) (ms : List syntax_mark.Mark) (body : List syntax_stmt.Stmt) (v : V)
      → g.kind v (map_expr_kind (on (steps v)) (ExprKind-F.Fun (made.function called ms body))) ≡ all_in in_stmt body v
  expression_is called ms body v = g.kinds v (map_expr_kind (on (steps v)) (ExprKind-F.Fun (made.function called ms body))) tt ∙ function_is called ms body v

  pub declared_is : (h : Heading) (called : Option syntax_mark.Mark) (ms : List syntax_mark.Mark) (body : List syntax_stmt.Stmt) (v : V)
      → of_stmt_kind g.none g.join (map_stmt_kind (on (steps v)) (made.declared_kind h (made.function called ms body))) ≡ all_in in_stmt body v
  declared_is heading.Service called ms body v = function_is called ms body v
  declared_is _ called ms body v = function_is called ms body v

  pub props_are : (ps : List (Key × syntax_expr.Expr)) (v : V) → g.kind v (map_expr_kind (on (steps v)) (ExprKind-F.Obj (map prop_of ps))) ≡ all_in in_prop ps v
  props_are ps v = g.kinds v (map_expr_kind (on (steps v)) (ExprKind-F.Obj (map prop_of ps))) tt ∙ ap (all_of g.none g.join) (map_twice prop_of (on_prop (steps v)) ps)

  pub markup_is : (tag : List ℕ) (ats : List (syntax_mark.Mark × MarkupValue)) (cs : List MarkupChild) (v : V)
      → g.kind v (map_expr_kind (on (steps v)) (ExprKind-F.Markup (made.markup tag (map attribute_of ats) cs))) ≡ g.join (all_in in_attribute ats v) (all_in in_child cs v)
  markup_is tag ats cs v =
      g.kinds v (map_expr_kind (on (steps v)) (ExprKind-F.Markup (made.markup tag (map attribute_of ats) cs))) tt
      ∙ at_markup (steps v) (record { tag = tag; attributes = map attribute_of ats; children = cs })
      ∙ ap (λ x. g.join (all_of g.none g.join x) (all_in in_child cs v)) (map_twice attribute_of (on_markup_attribute (steps v)) ats)

  pub decls_are : (ds : List (syntax_mark.Mark × Option syntax_expr.Expr)) (v : V) → all_of g.none g.join (map (on_decl (steps v)) (map decl_made ds)) ≡ all_in in_decl ds v
  decls_are ds v = ap (all_of g.none g.join) (map_twice decl_made (on_decl (steps v)) ds)

  pub prop_is : (key : Key) (e : syntax_expr.Expr) (v : V) → in_expr e v ≡ in_prop (key, e) v
  prop_is key e v = sym (at_prop (steps v) (record { name = key_of key; value = e }))

  pub quoted_is : (m : syntax_mark.Mark) (cs : List ℕ) (v : V) → g.none ≡ in_attribute (m, made.quoted_value cs) v
  quoted_is m cs v = sym (at_markup_attribute (steps v) (record { name = m; value = made.quoted_value cs }) ∙ at_markup_value (steps v) (MarkupValue-F.Quoted cs) ∙ g.values v (MarkupValue-F.Quoted cs) tt)

  pub tilde_value_is : (m : syntax_mark.Mark) (e : syntax_expr.Expr) (v : V) → in_expr e v ≡ in_attribute (m, made.tilde_value e) v
  tilde_value_is m e v =
      sym (at_markup_attribute (steps v) (record { name = m; value = made.tilde_value e }) ∙ at_markup_value (steps v) (MarkupValue-F.MarkupValue::Tilde e) ∙ g.values v (MarkupValue-F.MarkupValue::Tilde (in_expr e v)) tt)

  pub dollar_value_is : (m : syntax_mark.Mark) (e : syntax_expr.Expr) (v : V) → g.value v (MarkupValue-F.MarkupValue::Dollar (in_expr e v)) ≡ in_attribute (m, made.dollar_value e) v
  dollar_value_is m e v = sym (at_markup_attribute (steps v) (record { name = m; value = made.dollar_value e }) ∙ at_markup_value (steps v) (MarkupValue-F.MarkupValue::Dollar e))

  pub text_child_is : (cs : List ℕ) (v : V) → g.none ≡ in_child (made.text_child cs) v
  text_child_is cs v = sym (at_markup_child (steps v) (MarkupChild-F.MarkupChild::Text cs) ∙ g.children v (MarkupChild-F.MarkupChild::Text cs) tt)

  pub direct_child_is : (e : syntax_expr.Expr) (v : V) → in_expr e v ≡ in_child (made.direct_child e) v
  direct_child_is e v = sym (at_markup_child (steps v) (MarkupChild-F.Direct e) ∙ g.children v (MarkupChild-F.Direct (in_expr e v)) tt)

  pub dollar_child_is : (e : syntax_expr.Expr) (v : V) → g.child v (MarkupChild-F.MarkupChild::Dollar (in_expr e v)) ≡ in_child (made.dollar_child e) v
  dollar_child_is e v = sym (at_markup_child (steps v) (MarkupChild-F.MarkupChild::Dollar e))

  pub decl_is : (m : syntax_mark.Mark) (o : Option syntax_expr.Expr) (v : V) → in_optional o v ≡ in_decl (m, o) v
  decl_is m None v = sym (at_decl (steps v) (record { name = m; value = None }))
  decl_is m (Some e) v = sym (at_decl (steps v) (record { name = m; value = Some e }))

  pub start_is : (o : Option syntax_expr.Expr) (v : V) → in_optional o v ≡ in_start (made.start_of o) v
  start_is None v = sym (at_for_start (steps v) ForStart-F.Absent)
  start_is (Some e) v = sym (at_for_start (steps v) (ForStart-F.ForStart::Expr e))

  pub start_with_is : (ds : List (syntax_mark.Mark × Option syntax_expr.Expr)) (v : V) → all_in in_decl ds v ≡ in_start (made.start_with (map decl_made ds)) v
  start_with_is ds v = sym (at_for_start (steps v) (ForStart-F.ForStart::Var (map decl_made ds)) ∙ decls_are ds v)

  pub return_is : (o : Option syntax_expr.Expr) (v : V) → of_stmt_kind g.none g.join (map_stmt_kind (on (steps v)) (StmtKind-F.Return o)) ≡ in_optional o v
  return_is None v = refl
  return_is (Some e) v = refl

  pub for_is : (a : syntax_start.ForStart) (b c : Option syntax_expr.Expr) (d : syntax_stmt.Stmt) (v : V)
      → of_stmt_kind g.none g.join (map_stmt_kind (on (steps v)) (StmtKind-F.For a b c d)) ≡ g.join (in_start a v) (g.join (in_optional b v) (g.join (in_optional c v) (in_stmt d v)))
  for_is a None None d v = refl
  for_is a None (Some c) d v = refl
  for_is a (Some b) None d v = refl
  for_is a (Some b) (Some c) d v = refl
