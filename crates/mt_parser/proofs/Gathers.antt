-- What is gathered from the trees that a spelled tree makes, where rules relate it to the node and to what was found before and behind it.
use Rattle.std.proofs.Common.{◌≡◌, ℕ, List, [], ◌∷◌, ◌++◌, map, length, Option, None, Some, refl, sym, ap, ◌∙◌, subst}
use Rattle.mt_tree.specs.declared.place.Place.{Place}
use Rattle.mt_syntax.specs.Fold.{ExprKindLayer, StmtKindLayer, Tree, on_expr, on_stmt}
use Rattle.mt_syntax.specs.Gathering.{all_of, of_expr_kind, of_stmt_kind}
use Rattle.mt_syntax_laws.proofs.Layers.{map_expr_kind, map_stmt_kind}
use Rattle.mt_syntax_laws.proofs.Related.{on}
use Rattle.mt_syntax.specs.declared.tree.Expr as syntax_expr
use Rattle.mt_syntax.specs.declared.tree.Stmt as syntax_stmt
use Rattle.mt_syntax.specs.declared.tree.ExprKind.TheOpen.{ExprKind-F, MarkupChild-F, MarkupValue-F, StmtKind-F}
use Rattle.mt_grammar.specs.declared.terminal.Constant.{Constant}
use Rattle.mt_grammar.specs.declared.terminal.Constant.TheVariants as constant_word
use Rattle.mt_grammar.specs.declared.terminal.Infix.{Infix}
use Rattle.mt_grammar.specs.declared.terminal.Infix.TheVariants as infix_op
use Rattle.mt_grammar.specs.declared.terminal.Jump.{Jump}
use Rattle.mt_grammar.specs.declared.terminal.Jump.TheVariants as jump_word
use Rattle.mt_grammar.specs.Depth.{counted_place}
use Rattle.mt_grammar.specs.Nodes.{Node}
use Rattle.mt_grammar.specs.Nodes as n
use Rattle.mt_grammar.specs.ParseTree.{ParseTree, parse_tree, ParseTrees, no_trees, trees_and, title_trees, names_trees, key_tree, expr_tree, attribute_tree, child_tree, decl_tree, optional_tree, start_tree, stmt_tree, exprs_trees, attributes_trees, children_trees, decls_trees, stmts_trees, props_trees}
use Rattle.mt_grammar.specs.Tree.{Title, a_service, a_declaration, a_named_expression, an_expression, heading_of, Key, plain, quoted, Names, no_names, names_and, names_count, Expr, name, number, text, property, constant, array, object, function, unary, step, operation, condition, assign, index, call, tilde, dollar, element, Exprs, no_exprs, exprs_and, exprs_count, Props, no_props, props_and, props_count, Attribute, attribute_plain, attribute_quoted, attribute_tilde, attribute_dollar, Attributes, no_attributes, attributes_and, attributes_count, Child, child_text, child_direct, child_dollar, Children, no_children, children_and, children_count, Decl, decl_only, decl_as, Decls, no_decls, decls_and, decls_count, Optional, absent, present, Start, start_optional, start_vars, Stmt, expression, var, declare, if_only, if_else, while, for, return, jump, throw, try, block, empty, Stmts, no_stmts, stmts_and, stmts_count}
use Rattle.mt_parser_marks.specs.Values.{name_of, number_of, text_of, quoted_of, child_text_of}
use Rattle.mt_parser_builder.specs.declared.tier.Tier.{Tier}
use Rattle.mt_parser_builder.specs.declared.tier.Tier.TheVariants as tier
use Rattle.mt_parser_builder.specs.Syntax as made
use Rattle.mt_parser_builder.specs.Syntax.{mark_of}
use Rattle.mt_parser_builder.specs.Found.{Found, next_tilde, within, tilde_made, dollar_made}
use Rattle.mt_parser_builder.specs.Program.{attribute_name, attribute_of, attributes_of, child_of, children_of, decl_made, decl_of, decls_of, expr_of, exprs_of, name_of_title, names_of, optional_of, prop_of, props_of, start_of, stmt_of, stmts_of, value_of}
use Rattle.mt_parser.proofs.Joins.{all_and_last}
use Rattle.mt_parser.proofs.Gathering.{Gathering, IsPlain, all_in, at_made, at_made_stmt, decl_is, declared_is, decls_are, direct_child_is, dollar_child_is, dollar_value_is, expression_is, for_is, in_attribute, in_child, in_decl, in_expr, in_optional, in_prop, in_start, in_stmt, markup_is, prop_is, props_are, quoted_is, return_is, start_is, start_with_is, steps, text_child_is, tilde_value_is}

-- a node that is a statement or an expression, and one that is not
abbrev pub Counts : Option Place → Type 0
Counts None = ⊥
Counts (Some p) = Unit {0}

abbrev pub Passes : Option Place → Type 0
Passes None = Unit {0}
Passes (Some p) = ⊥

-- a row of one node
abbrev pub only : ParseTree → ParseTrees
only r = trees_and no_trees r

-- `Of r k s x t`: the node r in code of the tier k gives x, from s to t. `Row` says the same of a row of nodes.
module _ {V X : Type 0} (g : Gathering V X) (Of : ParseTree → Tier → Found → (V → X) → Found → Type 0) (Row : ParseTrees → Tier → Found → (V → X) → Found → Type 0) where
  pub record Rules : Type 0 where
    pub nothing : (k : Tier) (s : Found) → Row no_trees k s (λ v. g.none) s
    pub behind : (rs : ParseTrees) (r : ParseTree) (k : Tier) (s : Found) (x : V → X) (t : Found) (y : V → X) (u : Found) → Row rs k s x t → Of r k t y u → Row (trees_and rs r) k s (λ v. g.join (x v) (y v)) u
    pub counted : (z : Node) (rs : ParseTrees) (k : Tier) (s : Found) (x : V → X) (t : Found) → Counts (counted_place z) → Row rs k s x t → Of (parse_tree z rs) k s (λ v. g.wrap (x v)) t
    pub passed : (z : Node) (rs : ParseTrees) (k : Tier) (s : Found) (x : V → X) (t : Found) → Passes (counted_place z) → Row rs k s x t → Of (parse_tree z rs) k s x t
    pub at_tilde : (p : Place) (i : ℕ) (rs : ParseTrees) (k : Tier) (s : Found) (body : List syntax_stmt.Stmt) (t : Found)
        → Row rs tier.Client (within s) (λ v. all_of g.none g.join (map (on_stmt (steps g v)) body)) t
        → Of (parse_tree (n.Tilde p i) rs) k s (λ v. g.wrap (g.kind v (ExprKind-F.ExprKind::Tilde (next_tilde s)))) (tilde_made p s (body, t)).1
    pub at_dollar : (p : Place) (rs : ParseTrees) (s : Found) (e : syntax_expr.Expr) (t : Found) → Row rs tier.Server s (λ v. on_expr (steps g v) e) t
        → Of (parse_tree (n.Dollar p) rs) tier.Client s (λ v. g.wrap (g.kind v (ExprKind-F.ExprKind::Dollar (length t.dollars)))) (dollar_made tier.Client p (e, t)).1
    pub at_stray : (p : Place) (rs : ParseTrees) (s : Found) (x : V → X) (t : Found) → Row rs tier.Server s x t → Of (parse_tree (n.Dollar p) rs) tier.Server s (λ v. g.wrap (g.kind v (ExprKind-F.Stray (x v)))) t
    pub at_child : (rs : ParseTrees) (k : Tier) (s : Found) (x : V → X) (t : Found) → Row rs tier.Server s x t → Of (parse_tree n.ChildDollar rs) k s (λ v. g.child v (MarkupChild-F.MarkupChild::Dollar (x v))) t
    pub at_value : (rs : ParseTrees) (k : Tier) (s : Found) (x : V → X) (t : Found) → Row rs tier.Server s x t → Of (parse_tree n.AttributeDollar rs) k s (λ v. g.value v (MarkupValue-F.MarkupValue::Dollar (x v))) t

  module _ (rules : Rules) where
    of_same : {r : ParseTree} {k : Tier} {s : Found} {x y : V → X} {t : Found} → ((v : V) → x v ≡ y v) → Of r k s x t → Of r k s y t
    of_same {r} {k} {s} {x} {y} {t} e = subst (λ z. Of r k s z t) (λ i v. e v i)

    row_same : {rs : ParseTrees} {k : Tier} {s : Found} {x y : V → X} {t : Found} → ((v : V) → x v ≡ y v) → Row rs k s x t → Row rs k s y t
    row_same {rs} {k} {s} {x} {y} {t} e = subst (λ z. Row rs k s z t) (λ i v. e v i)

    -- ---- rows

    single : {r : ParseTree} {k : Tier} {s : Found} {x : V → X} {t : Found} → Of r k s x t → Row (only r) k s x t
    single {r} {k} {s} {x} {t} a = row_same (λ v. g.joins.left (x v)) (rules.behind no_trees r k s (λ v. g.none) s x t (rules.nothing k s) a)

    next : {rs : ParseTrees} {r : ParseTree} {k : Tier} {s : Found} {x : V → X} {t : Found} {y : V → X} {u : Found} → Row rs k s x t → Of r k t y u → Row (trees_and rs r) k s (λ v. g.join (x v) (y v)) u
    next {rs} {r} {k} {s} {x} {t} {y} {u} a b = rules.behind rs r k s x t y u a b

    -- two joined at the end are one result
    last_two : {rs : ParseTrees} {k : Tier} {s : Found} {x y z : V → X} {t : Found} → Row rs k s (λ v. g.join (g.join (x v) (y v)) (z v)) t → Row rs k s (λ v. g.join (x v) (g.join (y v) (z v))) t
    last_two {x = x} {y} {z} a = row_same (λ v. g.joins.along (x v) (y v) (z v)) a

    -- a node that gives nothing
    empty_behind : {rs : ParseTrees} {r : ParseTree} {k : Tier} {s : Found} {x : V → X} {t u : Found} → Row rs k s x t → Of r k t (λ v. g.none) u → Row (trees_and rs r) k s x u
    empty_behind {x = x} a b = row_same (λ v. g.joins.right (x v)) (next a b)

    word : (z : Node) (k : Tier) (s : Found) → Passes (counted_place z) → Of (parse_tree z no_trees) k s (λ v. g.none) s
    word z k s h = rules.passed z no_trees k s (λ v. g.none) s h (rules.nothing k s)

    -- a node behind a word
    behind_word : {r : ParseTree} (z : Node) (k : Tier) (s : Found) {x : V → X} {t : Found} → Passes (counted_place z) → Of r k s x t → Row (trees_and (only (parse_tree z no_trees)) r) k s x t
    behind_word z k s {x} h a = row_same (λ v. g.joins.left (x v)) (next (single (word z k s h)) a)

    title_gathers : (h : Title) (k : Tier) (s : Found) → Row (title_trees h no_trees) k s (λ v. g.none) s
    title_gathers (a_service m) k s = single (word (n.Word m) k s tt)
    title_gathers (a_declaration m) k s = single (word (n.Word m) k s tt)
    title_gathers (a_named_expression m) k s = single (word (n.Word m) k s tt)
    title_gathers an_expression k s = rules.nothing k s

    names_gather : (ns : Names) {rs : ParseTrees} {k : Tier} {s : Found} {x : V → X} {t : Found} → Row rs k s x t → Row (names_trees ns rs) k s x t
    names_gather no_names a = a
    names_gather (names_and ns m) {k = k} {t = t} a = empty_behind (names_gather ns a) (word (n.Word m) k t tt)

    key_gathers : (key : Key) (k : Tier) (s : Found) → Of (key_tree key) k s (λ v. g.none) s
    key_gathers (plain m) k s = word (n.Word m) k s tt
    key_gathers (quoted m) k s = word (n.QuotedKey m) k s tt

    -- ---- nodes

    row_more : {T : Type 0} (f : T → V → X) (rs : ParseTrees) (r : ParseTree) (k : Tier) (s : Found) (x : V → X) (items : List T) (t : Found) (item : T) (u : Found)
        → Row rs k s (λ v. g.join (x v) (all_in g f items v)) t → Of r k t (f item) u → Row (trees_and rs r) k s (λ v. g.join (x v) (all_in g f (items ++ item ∷ []) v)) u
    row_more f rs r k s x items t item u a b =
        row_same (λ v. g.joins.along (x v) (all_in g f items v) (f item v) ∙ ap (g.join (x v)) (sym (all_and_last g.none g.join g.joins (λ z. f z v) items item))) (next a b)

    -- a row behind nothing
    alone : {T : Type 0} (f : T → V → X) (rs : ParseTrees) (k : Tier) (s : Found) (items : List T) (t : Found) → Row rs k s (λ v. g.join g.none (all_in g f items v)) t → Row rs k s (all_in g f items) t
    alone f rs k s items t = row_same (λ v. g.joins.left (all_in g f items v))

    no_items : {rs : ParseTrees} {k : Tier} {s : Found} {x : V → X} {t : Found} → Row rs k s x t → Row rs k s (λ v. g.join (x v) g.none) t
    no_items {x = x} = row_same (λ v. sym (g.joins.right (x v)))

    expr_node : (z : Node) (p : Place) (layer : ExprKindLayer Tree) {rs : ParseTrees} {k : Tier} {s : Found} {x : V → X} {t : Found} → Counts (counted_place z)
        → ((v : V) → g.kind v (map_expr_kind (on (steps g v)) layer) ≡ x v) → Row rs k s x t → Of (parse_tree z rs) k s (in_expr g (made.expr p layer)) t
    expr_node z p layer {rs} {k} {s} {x} {t} h e a = of_same (λ v. sym (at_made g p layer v ∙ ap g.wrap (e v))) (rules.counted z rs k s x t h a)

    plain_expr : (z : Node) (p : Place) (layer : ExprKindLayer Tree) {rs : ParseTrees} {k : Tier} {s : Found} {t : Found} → Counts (counted_place z) → ((v : V) → IsPlain (map_expr_kind (on (steps g v)) layer))
        → Row rs k s (λ v. of_expr_kind g.none g.join (map_expr_kind (on (steps g v)) layer)) t → Of (parse_tree z rs) k s (in_expr g (made.expr p layer)) t
    plain_expr z p layer h all_plain a = expr_node z p layer h (λ v. g.kinds v (map_expr_kind (on (steps g v)) layer) (all_plain v)) a

    stmt_node : (z : Node) (p : Place) (layer : StmtKindLayer Tree) {rs : ParseTrees} {k : Tier} {s : Found} {x : V → X} {t : Found} → Counts (counted_place z)
        → ((v : V) → of_stmt_kind g.none g.join (map_stmt_kind (on (steps g v)) layer) ≡ x v) → Row rs k s x t → Of (parse_tree z rs) k s (in_stmt g (made.stmt p layer)) t
    stmt_node z p layer {rs} {k} {s} {x} {t} h e a =
        of_same (λ v. sym (at_made_stmt g p layer v ∙ ap g.wrap (e v))) (rules.counted z rs k s x t h a)

    constant_gathers : (p : Place) (c : Constant) (k : Tier) (s : Found) → Of (parse_tree (n.Constant p c) no_trees) k s (in_expr g (made.expr p (made.constant_kind c))) s
    constant_gathers p constant_word.True k s = plain_expr (n.Constant p constant_word.True) p (made.constant_kind constant_word.True) tt (λ v. tt) (rules.nothing k s)
    constant_gathers p constant_word.False k s = plain_expr (n.Constant p constant_word.False) p (made.constant_kind constant_word.False) tt (λ v. tt) (rules.nothing k s)
    constant_gathers p constant_word.Null k s = plain_expr (n.Constant p constant_word.Null) p (made.constant_kind constant_word.Null) tt (λ v. tt) (rules.nothing k s)
    constant_gathers p constant_word.Undefined k s = plain_expr (n.Constant p constant_word.Undefined) p (made.constant_kind constant_word.Undefined) tt (λ v. tt) (rules.nothing k s)

    infix_gathers : (p : Place) (o : Infix) (a b : syntax_expr.Expr) {rs : ParseTrees} {k : Tier} {s : Found} {t : Found} → Row rs k s (λ v. g.join (in_expr g a v) (in_expr g b v)) t
        → Of (parse_tree (n.Operation p o) rs) k s (in_expr g (made.expr p (made.infix_kind o a b))) t
    infix_gathers p infix_op.Or a b h = plain_expr (n.Operation p infix_op.Or) p (made.infix_kind infix_op.Or a b) tt (λ v. tt) h
    infix_gathers p infix_op.And a b h = plain_expr (n.Operation p infix_op.And) p (made.infix_kind infix_op.And a b) tt (λ v. tt) h
    infix_gathers p (infix_op.Binary o) a b h = plain_expr (n.Operation p (infix_op.Binary o)) p (made.infix_kind (infix_op.Binary o) a b) tt (λ v. tt) h

    jump_gathers : (p : Place) (j : Jump) (k : Tier) (s : Found) → Of (parse_tree (n.Jump p j) no_trees) k s (in_stmt g (made.stmt p (made.jump_kind j))) s
    jump_gathers p jump_word.Break k s = stmt_node (n.Jump p jump_word.Break) p (made.jump_kind jump_word.Break) tt (λ v. refl) (rules.nothing k s)
    jump_gathers p jump_word.Continue k s = stmt_node (n.Jump p jump_word.Continue) p (made.jump_kind jump_word.Continue) tt (λ v. refl) (rules.nothing k s)

    -- ---- each spelled tree

    mutual
      unfolding expr_of expr_tree

      expr_gathers : (e : Expr) (k : Tier) (s : Found) → Of (expr_tree e) k s (in_expr g (expr_of k e s).0) (expr_of k e s).1
      expr_gathers (name m) k s = plain_expr (n.Name m) m.place (ExprKind-F.Name (name_of m.text)) tt (λ v. tt) (rules.nothing k s)
      expr_gathers (number m) k s = plain_expr (n.Number m) m.place (ExprKind-F.Num (number_of m.text)) tt (λ v. tt) (rules.nothing k s)
      expr_gathers (text m) k s = plain_expr (n.Text m) m.place (ExprKind-F.ExprKind::Text (text_of m.text)) tt (λ v. tt) (rules.nothing k s)
      expr_gathers (property m) k s = plain_expr (n.Property m) m.place (ExprKind-F.ExprKind::Text (name_of m.text)) tt (λ v. tt) (rules.nothing k s)
      expr_gathers (constant p c) k s = constant_gathers p c k s
      expr_gathers (array p es) k s =
          let r = exprs_of k es s in
          plain_expr (n.Array p (exprs_count es)) p (ExprKind-F.Arr r.0) tt (λ v. tt) (alone (in_expr g) (exprs_trees es no_trees) k s r.0 r.1 (exprs_gather es k s no_trees s (λ v. g.none) (rules.nothing k s)))
      expr_gathers (object p ps) k s =
          let r = props_of k ps s in
          expr_node (n.Object p (props_count ps)) p (ExprKind-F.Obj (map prop_of r.0)) tt (props_are g r.0) (alone (in_prop g) (props_trees ps no_trees) k s r.0 r.1 (props_gather ps k s no_trees s (λ v. g.none) (rules.nothing k s)))
      expr_gathers (function p h ns ss) k s =
          let r = stmts_of k ss s in let rs = names_trees ns (title_trees h no_trees) in
          expr_node (n.Function p (heading_of h) (names_count ns) (stmts_count ss)) p (ExprKind-F.Fun (made.function (name_of_title h) (names_of ns) r.0)) tt (expression_is g (name_of_title h) (names_of ns) r.0)
          (alone (in_stmt g) (stmts_trees ss rs) k s r.0 r.1 (stmts_gather ss k s rs s (λ v. g.none) (names_gather ns (title_gathers h k s))))
      expr_gathers (unary p u a) k s = plain_expr (n.Unary p u) p (ExprKind-F.Unary u (expr_of k a s).0) tt (λ v. tt) (single (expr_gathers a k s))
      expr_gathers (step p d a) k s = plain_expr (n.Step p d) p (ExprKind-F.Step d (expr_of k a s).0) tt (λ v. tt) (single (expr_gathers a k s))
      expr_gathers (operation p o a b) k s =
          let x = expr_of k a s in infix_gathers p o x.0 (expr_of k b x.1).0 (next (single (expr_gathers a k s)) (expr_gathers b k x.1))
      expr_gathers (condition p a b c) k s =
          let x = expr_of k a s in let y = expr_of k b x.1 in
          plain_expr (n.Condition p) p (ExprKind-F.Cond x.0 y.0 (expr_of k c y.1).0) tt (λ v. tt) (last_two (next (next (single (expr_gathers a k s)) (expr_gathers b k x.1)) (expr_gathers c k y.1)))
      expr_gathers (assign p o a b) k s =
          let x = expr_of k a s in plain_expr (n.Assign p o) p (ExprKind-F.Assign o x.0 (expr_of k b x.1).0) tt (λ v. tt) (next (single (expr_gathers a k s)) (expr_gathers b k x.1))
      expr_gathers (index p a b) k s =
          let x = expr_of k a s in plain_expr (n.Index p) p (ExprKind-F.Index x.0 (expr_of k b x.1).0) tt (λ v. tt) (next (single (expr_gathers a k s)) (expr_gathers b k x.1))
      expr_gathers (call p a es) k s =
          let x = expr_of k a s in
          plain_expr (n.Call p (exprs_count es)) p (ExprKind-F.Call x.0 (exprs_of k es x.1).0) tt (λ v. tt) (exprs_gather es k s (only (expr_tree a)) x.1 (in_expr g x.0) (single (expr_gathers a k s)))
      expr_gathers (tilde p ss) k s =
          let r = stmts_of tier.Client ss (within s) in
          of_same (λ v. sym (at_made g p (ExprKind-F.ExprKind::Tilde (next_tilde s)) v)) (rules.at_tilde p (stmts_count ss) (stmts_trees ss no_trees) k s r.0 r.1
          (alone (in_stmt g) (stmts_trees ss no_trees) tier.Client (within s) r.0 r.1 (stmts_gather ss tier.Client (within s) no_trees (within s) (λ v. g.none) (rules.nothing tier.Client (within s)))))
      expr_gathers (dollar p e) tier.Client s =
          let x = expr_of tier.Server e s in
          of_same (λ v. sym (at_made g p (ExprKind-F.ExprKind::Dollar (length x.1.dollars)) v)) (rules.at_dollar p (only (expr_tree e)) s x.0 x.1 (single (expr_gathers e tier.Server s)))
      expr_gathers (dollar p e) tier.Server s =
          let x = expr_of tier.Server e s in of_same (λ v. sym (at_made g p (ExprKind-F.Stray x.0) v)) (rules.at_stray p (only (expr_tree e)) s (in_expr g x.0) x.1 (single (expr_gathers e tier.Server s)))
      expr_gathers (element m ats cs) k s =
          let a = attributes_of k ats s in let c = children_of k cs a.1 in let rs = only (parse_tree (n.Word m) no_trees) in
          expr_node (n.Element m.place (attributes_count ats) (children_count cs)) m.place (ExprKind-F.Markup (made.markup (name_of m.text) (map attribute_of a.0) c.0)) tt (markup_is g (name_of m.text) a.0 c.0)
          (children_gather cs k s (attributes_trees ats rs) a.1 (all_in g (in_attribute g) a.0)
          (alone (in_attribute g) (attributes_trees ats rs) k s a.0 a.1 (attributes_gather ats k s rs s (λ v. g.none) (single (word (n.Word m) k s tt)))))

      exprs_gather : (es : Exprs) (k : Tier) (s : Found) (rs : ParseTrees) (t : Found) (x : V → X) → Row rs k s x t → Row (exprs_trees es rs) k s (λ v. g.join (x v) (all_in g (in_expr g) (exprs_of k es t).0 v)) (exprs_of k es t).1
      exprs_gather no_exprs k s rs t x a = no_items a
      exprs_gather (exprs_and es e) k s rs t x a =
          let r = exprs_of k es t in let y = expr_of k e r.1 in row_more (in_expr g) (exprs_trees es rs) (expr_tree e) k s x r.0 r.1 y.0 y.1 (exprs_gather es k s rs t x a) (expr_gathers e k r.1)

      props_gather : (ps : Props) (k : Tier) (s : Found) (rs : ParseTrees) (t : Found) (x : V → X) → Row rs k s x t → Row (props_trees ps rs) k s (λ v. g.join (x v) (all_in g (in_prop g) (props_of k ps t).0 v)) (props_of k ps t).1
      props_gather no_props k s rs t x a = no_items a
      props_gather (props_and ps key e) k s rs t x a =
          let r = props_of k ps t in let y = expr_of k e r.1 in
          row_more (in_prop g) (trees_and (props_trees ps rs) (key_tree key)) (expr_tree e) k s x r.0 r.1 (key, y.0) y.1
          (empty_behind (props_gather ps k s rs t x a) (key_gathers key k r.1)) (of_same (prop_is g key y.0) (expr_gathers e k r.1))

      attribute_gathers : (a : Attribute) (k : Tier) (s : Found) → Of (attribute_tree a) k s (in_attribute g (attribute_name a, (value_of k a s).0)) (value_of k a s).1
      attribute_gathers (attribute_plain m) k s = of_same (quoted_is g (mark_of m) []) (word (n.AttributeName m) k s tt)
      attribute_gathers (attribute_quoted m w) k s =
          of_same (quoted_is g (mark_of m) (quoted_of w.text)) (rules.passed (n.AttributeQuoted w) (only (parse_tree (n.AttributeName m) no_trees)) k s (λ v. g.none) s tt (single (word (n.AttributeName m) k s tt)))
      attribute_gathers (attribute_tilde m e) k s =
          let x = expr_of k e s in
          of_same (tilde_value_is g (mark_of m) x.0) (rules.passed n.AttributeTilde (trees_and (only (parse_tree (n.AttributeName m) no_trees)) (expr_tree e)) k s (in_expr g x.0) x.1 tt (behind_word (n.AttributeName m) k s tt (expr_gathers e k s)))
      attribute_gathers (attribute_dollar m e) k s =
          let x = expr_of tier.Server e s in
          of_same (dollar_value_is g (mark_of m) x.0) (rules.at_value (trees_and (only (parse_tree (n.AttributeName m) no_trees)) (expr_tree e)) k s (in_expr g x.0) x.1 (behind_word (n.AttributeName m) tier.Server s tt (expr_gathers e tier.Server s)))

      attributes_gather : (ats : Attributes) (k : Tier) (s : Found) (rs : ParseTrees) (t : Found) (x : V → X) → Row rs k s x t
          → Row (attributes_trees ats rs) k s (λ v. g.join (x v) (all_in g (in_attribute g) (attributes_of k ats t).0 v)) (attributes_of k ats t).1
      attributes_gather no_attributes k s rs t x a = no_items a
      attributes_gather (attributes_and ats b) k s rs t x a =
          let r = attributes_of k ats t in let y = value_of k b r.1 in
          row_more (in_attribute g) (attributes_trees ats rs) (attribute_tree b) k s x r.0 r.1 (attribute_name b, y.0) y.1 (attributes_gather ats k s rs t x a) (attribute_gathers b k r.1)

      child_gathers : (c : Child) (k : Tier) (s : Found) → Of (child_tree c) k s (in_child g (child_of k c s).0) (child_of k c s).1
      child_gathers (child_text m) k s = of_same (text_child_is g (child_text_of m.text)) (word (n.ChildText m) k s tt)
      child_gathers (child_direct e) k s =
          let x = expr_of k e s in of_same (direct_child_is g x.0) (rules.passed n.ChildDirect (only (expr_tree e)) k s (in_expr g x.0) x.1 tt (single (expr_gathers e k s)))
      child_gathers (child_dollar e) k s =
          let x = expr_of tier.Server e s in of_same (dollar_child_is g x.0) (rules.at_child (only (expr_tree e)) k s (in_expr g x.0) x.1 (single (expr_gathers e tier.Server s)))

      children_gather : (cs : Children) (k : Tier) (s : Found) (rs : ParseTrees) (t : Found) (x : V → X) → Row rs k s x t
          → Row (children_trees cs rs) k s (λ v. g.join (x v) (all_in g (in_child g) (children_of k cs t).0 v)) (children_of k cs t).1
      children_gather no_children k s rs t x a = no_items a
      children_gather (children_and cs c) k s rs t x a =
          let r = children_of k cs t in let y = child_of k c r.1 in row_more (in_child g) (children_trees cs rs) (child_tree c) k s x r.0 r.1 y.0 y.1 (children_gather cs k s rs t x a) (child_gathers c k r.1)

      decl_gathers : (d : Decl) (k : Tier) (s : Found) → Of (decl_tree d) k s (in_decl g (decl_of k d s).0) (decl_of k d s).1
      decl_gathers (decl_only m) k s = of_same (decl_is g (mark_of m) None) (word (n.DeclName m) k s tt)
      decl_gathers (decl_as m e) k s =
          let x = expr_of k e s in
          of_same (decl_is g (mark_of m) (Some x.0)) (rules.passed n.DeclValue (trees_and (only (parse_tree (n.DeclName m) no_trees)) (expr_tree e)) k s (in_expr g x.0) x.1 tt (behind_word (n.DeclName m) k s tt (expr_gathers e k s)))

      decls_gather : (ds : Decls) (k : Tier) (s : Found) (rs : ParseTrees) (t : Found) (x : V → X) → Row rs k s x t → Row (decls_trees ds rs) k s (λ v. g.join (x v) (all_in g (in_decl g) (decls_of k ds t).0 v)) (decls_of k ds t).1
      decls_gather no_decls k s rs t x a = no_items a
      decls_gather (decls_and ds d) k s rs t x a =
          let r = decls_of k ds t in let y = decl_of k d r.1 in row_more (in_decl g) (decls_trees ds rs) (decl_tree d) k s x r.0 r.1 y.0 y.1 (decls_gather ds k s rs t x a) (decl_gathers d k r.1)

      optional_gathers : (o : Optional) (k : Tier) (s : Found) → Of (optional_tree o) k s (in_optional g (optional_of k o s).0) (optional_of k o s).1
      optional_gathers absent k s = word n.Absent k s tt
      optional_gathers (present e) k s = let x = expr_of k e s in rules.passed n.Present (only (expr_tree e)) k s (in_expr g x.0) x.1 tt (single (expr_gathers e k s))

      start_gathers : (a : Start) (k : Tier) (s : Found) → Of (start_tree a) k s (in_start g (start_of k a s).0) (start_of k a s).1
      start_gathers (start_optional o) k s =
          let x = optional_of k o s in of_same (start_is g x.0) (rules.passed n.StartOptional (only (optional_tree o)) k s (in_optional g x.0) x.1 tt (single (optional_gathers o k s)))
      start_gathers (start_vars ds) k s =
          let x = decls_of k ds s in
          of_same (start_with_is g x.0) (rules.passed (n.StartVars (decls_count ds)) (decls_trees ds no_trees) k s (all_in g (in_decl g) x.0) x.1 tt
          (alone (in_decl g) (decls_trees ds no_trees) k s x.0 x.1 (decls_gather ds k s no_trees s (λ v. g.none) (rules.nothing k s))))

      stmt_gathers : (z : Stmt) (k : Tier) (s : Found) → Of (stmt_tree z) k s (in_stmt g (stmt_of k z s).0) (stmt_of k z s).1
      stmt_gathers (expression p e) k s = stmt_node (n.Expression p) p (StmtKind-F.StmtKind::Expr (expr_of k e s).0) tt (λ v. refl) (single (expr_gathers e k s))
      stmt_gathers (var p d ds) k s =
          let x = decls_of k ds s in
          stmt_node (n.Var p d (decls_count ds)) p (StmtKind-F.StmtKind::Var d (map decl_made x.0)) tt (decls_are g x.0) (alone (in_decl g) (decls_trees ds no_trees) k s x.0 x.1 (decls_gather ds k s no_trees s (λ v. g.none) (rules.nothing k s)))
      stmt_gathers (declare p h ns ss) k s =
          let r = stmts_of k ss s in let rs = names_trees ns (title_trees h no_trees) in
          stmt_node (n.Declare p (heading_of h) (names_count ns) (stmts_count ss)) p (made.declared_kind (heading_of h) (made.function (name_of_title h) (names_of ns) r.0)) tt (declared_is g (heading_of h) (name_of_title h) (names_of ns) r.0)
          (alone (in_stmt g) (stmts_trees ss rs) k s r.0 r.1 (stmts_gather ss k s rs s (λ v. g.none) (names_gather ns (title_gathers h k s))))
      stmt_gathers (if_only p e b) k s =
          let x = expr_of k e s in let y = stmt_of k b x.1 in
          stmt_node (n.If p) p (StmtKind-F.If x.0 y.0 None) tt (λ v. ap (g.join (in_expr g x.0 v)) (g.joins.right (in_stmt g y.0 v))) (next (single (expr_gathers e k s)) (stmt_gathers b k x.1))
      stmt_gathers (if_else p e b c) k s =
          let x = expr_of k e s in let y = stmt_of k b x.1 in
          stmt_node (n.IfElse p) p (StmtKind-F.If x.0 y.0 (Some (stmt_of k c y.1).0)) tt (λ v. refl) (last_two (next (next (single (expr_gathers e k s)) (stmt_gathers b k x.1)) (stmt_gathers c k y.1)))
      stmt_gathers (while p e b) k s =
          let x = expr_of k e s in stmt_node (n.While p) p (StmtKind-F.While x.0 (stmt_of k b x.1).0) tt (λ v. refl) (next (single (expr_gathers e k s)) (stmt_gathers b k x.1))
      stmt_gathers (for p a b c d) k s =
          let x = start_of k a s in let y = optional_of k b x.1 in let z = optional_of k c y.1 in let u = stmt_of k d z.1 in
          stmt_node (n.For p) p (StmtKind-F.For x.0 y.0 z.0 u.0) tt (for_is g x.0 y.0 z.0 u.0)
          (last_two (last_two (next (next (next (single (start_gathers a k s)) (optional_gathers b k x.1)) (optional_gathers c k y.1)) (stmt_gathers d k z.1))))
      stmt_gathers (return p o) k s = let x = optional_of k o s in stmt_node (n.Return p) p (StmtKind-F.Return x.0) tt (return_is g x.0) (single (optional_gathers o k s))
      stmt_gathers (jump p j) k s = jump_gathers p j k s
      stmt_gathers (throw p e) k s = stmt_node (n.Throw p) p (StmtKind-F.Throw (expr_of k e s).0) tt (λ v. refl) (single (expr_gathers e k s))
      stmt_gathers (try p a m b) k s =
          let x = stmt_of k a s in
          stmt_node (n.Try p) p (StmtKind-F.Try x.0 (mark_of m) (stmt_of k b x.1).0) tt (λ v. refl) (next (empty_behind (single (stmt_gathers a k s)) (word (n.Word m) k x.1 tt)) (stmt_gathers b k x.1))
      stmt_gathers (block p ss) k s =
          let r = stmts_of k ss s in
          stmt_node (n.Block p (stmts_count ss)) p (StmtKind-F.Block r.0) tt (λ v. refl) (alone (in_stmt g) (stmts_trees ss no_trees) k s r.0 r.1 (stmts_gather ss k s no_trees s (λ v. g.none) (rules.nothing k s)))
      stmt_gathers (empty p) k s = stmt_node (n.Empty p) p StmtKind-F.Empty tt (λ v. refl) (rules.nothing k s)

      stmts_gather : (ss : Stmts) (k : Tier) (s : Found) (rs : ParseTrees) (t : Found) (x : V → X) → Row rs k s x t → Row (stmts_trees ss rs) k s (λ v. g.join (x v) (all_in g (in_stmt g) (stmts_of k ss t).0 v)) (stmts_of k ss t).1
      stmts_gather no_stmts k s rs t x a = no_items a
      stmts_gather (stmts_and ss z) k s rs t x a =
          let r = stmts_of k ss t in let y = stmt_of k z r.1 in row_more (in_stmt g) (stmts_trees ss rs) (stmt_tree z) k s x r.0 r.1 y.0 y.1 (stmts_gather ss k s rs t x a) (stmt_gathers z k r.1)

    -- a row of statements by itself
    pub body_gathers : (ss : Stmts) (k : Tier) (s : Found) → Row (stmts_trees ss no_trees) k s (λ v. all_of g.none g.join (map (on_stmt (steps g v)) (stmts_of k ss s).0)) (stmts_of k ss s).1
    body_gathers ss k s = let r = stmts_of k ss s in alone (in_stmt g) (stmts_trees ss no_trees) k s r.0 r.1 (stmts_gather ss k s no_trees s (λ v. g.none) (rules.nothing k s))

    -- an expression by itself
    pub one_gathers : (e : Expr) (k : Tier) (s : Found) → Of (expr_tree e) k s (λ v. on_expr (steps g v) (expr_of k e s).0) (expr_of k e s).1
    one_gathers = expr_gathers
