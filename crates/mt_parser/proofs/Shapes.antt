-- What the builder makes of spelled trees of the grammar's form has that form, and the tildes and dollars that it finds are derived.
use Rattle.std.proofs.Common.{◌≡◌, ℕ, Bool, true, false, not, ◌&&◌, List, [], map, length, Option, None, Some, refl, sym, ap, ◌∙◌}
use Rattle.std.specs.List.{list_all}
use Rattle.std.proofs.lemmas.Bool.{and_from}
use Rattle.std.proofs.lemmas.List.Folds.{list_all-map}
use Rattle.std.specs.Str.{all_scalars, encode_utf8_all}
use Rattle.mt_tree.specs.Tables.{is_void_tag}
use Rattle.mt_tree.specs.declared.place.Place.{Place}
use Rattle.mt_syntax.specs.Fold.{ExprKindLayer, StmtKindLayer, Tree, on_decl, on_expr, on_for_start, on_function, on_markup_attribute, on_markup_child, on_markup_value, on_prop, on_stmt}
use Rattle.mt_syntax.specs.Names.{is_attribute_name, is_name, is_tag_name}
use Rattle.mt_syntax.specs.Shape.{Part, all_fit, decls_fit, expr_kind_part, is_some_item, is_direct, is_block, is_named, is_statement, is_tilde, is_valued, mark_fits, opens_none, shaping, stmt_kind_part, texts_apart}
use Rattle.mt_syntax_laws.proofs.Layers.{map_expr_kind, map_stmt_kind, map_twice}
use Rattle.mt_syntax_laws.proofs.Related.{on, at_decl, at_for_start, at_function, at_markup, at_markup_attribute, at_markup_child, at_markup_value, at_prop}
use Rattle.mt_syntax.specs.declared.tree.Expr as syntax_expr
use Rattle.mt_syntax.specs.declared.tree.ForStart as syntax_start
use Rattle.mt_syntax.specs.declared.tree.Mark as syntax_mark
use Rattle.mt_syntax.specs.declared.tree.MarkupChild.{MarkupChild}
use Rattle.mt_syntax.specs.declared.tree.MarkupValue.{MarkupValue}
use Rattle.mt_syntax.specs.declared.tree.Stmt as syntax_stmt
use Rattle.mt_tree.specs.declared.operators.VarKind.{VarKind}
use Rattle.mt_tree.specs.declared.operators.VarKind.TheVariants as var_kind
use Rattle.mt_syntax.specs.declared.tree.ExprKind.TheOpen.{ExprKind-F, ForStart-F, MarkupChild-F, MarkupValue-F, StmtKind-F}
use Rattle.mt_grammar.specs.declared.terminal.Constant.{Constant}
use Rattle.mt_grammar.specs.declared.terminal.Constant.TheVariants as constant_word
use Rattle.mt_grammar.specs.declared.terminal.Infix.{Infix}
use Rattle.mt_grammar.specs.declared.terminal.Infix.TheVariants as infix_op
use Rattle.mt_grammar.specs.declared.terminal.Jump.{Jump}
use Rattle.mt_grammar.specs.declared.terminal.Jump.TheVariants as jump_word
use Rattle.mt_grammar.specs.Tree.{Mark, Title, a_service, a_declaration, a_named_expression, an_expression, heading_of, Key, plain, quoted, Names, no_names, names_and, Expr, name, number, text, property, constant, array, object, function, unary, step, operation, condition, assign, index, call, tilde, dollar, element, Exprs, no_exprs, exprs_and, Props, no_props, props_and, Attribute, attribute_plain, attribute_quoted, attribute_tilde, attribute_dollar, Attributes, no_attributes, attributes_and, Child, child_text, child_direct, child_dollar, Children, no_children, children_and, Decl, decl_only, decl_as, Decls, no_decls, decls_and, Optional, absent, present, Start, start_optional, start_vars, Stmt, expression, var, declare, if_only, if_else, while, for, return, jump, throw, try, block, empty, Stmts, no_stmts, stmts_and}
use Rattle.mt_parser_marks.specs.Values.{name_of, number_of, text_of, quoted_of, child_text_of}
use Rattle.mt_parser_builder.specs.declared.tier.Tier.{Tier}
use Rattle.mt_parser_builder.specs.declared.tier.Tier.TheVariants as tier
use Rattle.mt_parser_builder.specs.Found.{Found, next_tilde, within}
use Rattle.mt_parser_builder.specs.Syntax as made
use Rattle.mt_parser_builder.specs.Syntax.{mark_of}
use Rattle.mt_parser_builder.specs.Program.{attribute_name, attribute_of, attributes_of, child_of, children_of, decl_made, decl_of, decls_of, expr_of, exprs_of, key_of, name_of_title, names_of, optional_of, prop_of, props_of, start_of, stmt_of, stmts_of, value_of}
use Rattle.mt_parser.proofs.Finding.{Made, before_test, both, good_dollar, good_tilde, same, unchanged, with_test}
use Rattle.mt_parser.proofs.Fits.{AttributeFits, AttributesFit, ChildFits, ChildrenFit, DeclFits, DeclaresBy, DeclsFit, ExprFits, ExprsFit, HaveValues, IsNamed, IsSomeDecl, NamesFit, OptionalFits, PropsFit, StartFits, StmtFits, StmtsFit, TagFits, TitleFits, has_child}
use Rattle.mt_parser.proofs.Looks.{apart_look, block_look, direct_look, some_child, some_decl, statements_look, target_look, tilde_look, values_look}
use Rattle.mt_parser.proofs.Parts.{all_also, all_fit_more, at_node, at_statement, decls_are, list_all_more}
use Rattle.mt_parser.proofs.Spelled.{child_text_scalars, decoded_scalars, number_is, quoted_scalars, text_scalars}
use Rattle.mt_parser.proofs.Tiers.{server_expr}

-- ---- nodes

abbrev fits_expr : syntax_expr.Expr → Bool
fits_expr e = (on_expr shaping e).fits

abbrev fits_stmt : syntax_stmt.Stmt → Bool
fits_stmt s = (on_stmt shaping s).fits

abbrev fits_optional : Option syntax_expr.Expr → Bool
fits_optional None = true
fits_optional (Some e) = fits_expr e

abbrev in_prop : Key × syntax_expr.Expr → Part
in_prop q = on_prop shaping (prop_of q)

abbrev in_attribute : syntax_mark.Mark × MarkupValue → Part
in_attribute a = on_markup_attribute shaping (attribute_of a)

abbrev in_decl : syntax_mark.Mark × Option syntax_expr.Expr → Part
in_decl d = on_decl shaping (decl_made d)

node : (p : Place) (layer : ExprKindLayer Tree) {s t : Found} → Made (expr_kind_part (map_expr_kind (on shaping) layer)).fits s t → Made (fits_expr (made.expr p layer)) s t
node p layer = same (ap (λ q. q.fits) (sym (at_node p layer)))

statement : (p : Place) (layer : StmtKindLayer Tree) {s t : Found} → Made (stmt_kind_part (map_stmt_kind (on shaping) layer)).fits s t → Made (fits_stmt (made.stmt p layer)) s t
statement p layer = same (ap (λ q. q.fits) (sym (at_statement p layer)))

constant_made : (p : Place) (c : Constant) (s : Found) → Made (fits_expr (made.expr p (made.constant_kind c))) s s
constant_made p constant_word.True s = node p (made.constant_kind constant_word.True) (unchanged s refl)
constant_made p constant_word.False s = node p (made.constant_kind constant_word.False) (unchanged s refl)
constant_made p constant_word.Null s = node p (made.constant_kind constant_word.Null) (unchanged s refl)
constant_made p constant_word.Undefined s = node p (made.constant_kind constant_word.Undefined) (unchanged s refl)

infix_made : (p : Place) (o : Infix) (a b : syntax_expr.Expr) {s t : Found} → Made (fits_expr a && fits_expr b) s t → Made (fits_expr (made.expr p (made.infix_kind o a b))) s t
infix_made p infix_op.Or a b m = node p (made.infix_kind infix_op.Or a b) m
infix_made p infix_op.And a b m = node p (made.infix_kind infix_op.And a b) m
infix_made p (infix_op.Binary o) a b m = node p (made.infix_kind (infix_op.Binary o) a b) m

jump_made : (p : Place) (j : Jump) (s : Found) → Made (fits_stmt (made.stmt p (made.jump_kind j))) s s
jump_made p jump_word.Break s = statement p (made.jump_kind jump_word.Break) (unchanged s refl)
jump_made p jump_word.Continue s = statement p (made.jump_kind jump_word.Continue) (unchanged s refl)

-- ---- functions

names_fit : (ns : Names) → NamesFit ns → list_all mark_fits (names_of ns) ≡ true
names_fit no_names h = refl
names_fit (names_and ns m) h = list_all_more mark_fits (names_of ns) (mark_of m) (names_fit ns h.0) h.1

function_made : (h : Title) (ns : Names) (body : List syntax_stmt.Stmt) {s t : Found} → TitleFits h → NamesFit ns → Made (all_fit (map (on_stmt shaping) body)) s t
    → Made (on_function shaping (made.function (name_of_title h) (names_of ns) body)).fits s t
function_made (a_service m) ns body f g b =
    same (ap (λ q. q.fits) (sym (at_function shaping (record { name = Some (mark_of m); parameters = names_of ns; body = body })))) (with_test (and_from (is_name (name_of m.text)) (list_all mark_fits (names_of ns)) f (names_fit ns g)) b)
function_made (a_declaration m) ns body f g b =
    same (ap (λ q. q.fits) (sym (at_function shaping (record { name = Some (mark_of m); parameters = names_of ns; body = body })))) (with_test (and_from (is_name (name_of m.text)) (list_all mark_fits (names_of ns)) f (names_fit ns g)) b)
function_made (a_named_expression m) ns body f g b =
    same (ap (λ q. q.fits) (sym (at_function shaping (record { name = Some (mark_of m); parameters = names_of ns; body = body })))) (with_test (and_from (is_name (name_of m.text)) (list_all mark_fits (names_of ns)) f (names_fit ns g)) b)
function_made an_expression ns body f g b =
    same (ap (λ q. q.fits) (sym (at_function shaping (record { name = None; parameters = names_of ns; body = body })))) (with_test (names_fit ns g) b)

named_look : (m : syntax_mark.Mark) (ms : List syntax_mark.Mark) (body : List syntax_stmt.Stmt) → is_named (on_function shaping (made.function (Some m) ms body)).look ≡ true
named_look m ms body = ap (λ q. is_named q.look) (at_function shaping (record { name = Some m; parameters = ms; body = body }))

declared_made : (p : Place) (h : Title) (ns : Names) (body : List syntax_stmt.Stmt) {s t : Found} → IsNamed h → TitleFits h → NamesFit ns → Made (all_fit (map (on_stmt shaping) body)) s t
    → Made (fits_stmt (made.stmt p (made.declared_kind (heading_of h) (made.function (name_of_title h) (names_of ns) body)))) s t
declared_made p (a_service m) ns body n f g b =
    statement p (StmtKind-F.Service (made.function (Some (mark_of m)) (names_of ns) body)) (with_test (named_look (mark_of m) (names_of ns) body) (function_made (a_service m) ns body f g b))
declared_made p (a_declaration m) ns body n f g b =
    statement p (StmtKind-F.Function (made.function (Some (mark_of m)) (names_of ns) body)) (with_test (named_look (mark_of m) (names_of ns) body) (function_made (a_declaration m) ns body f g b))
declared_made p (a_named_expression m) ns body n f g b =
    statement p (StmtKind-F.Function (made.function (Some (mark_of m)) (names_of ns) body)) (with_test (named_look (mark_of m) (names_of ns) body) (function_made (a_named_expression m) ns body f g b))
declared_made p an_expression ns body n f g b = absurd n

-- ---- parts of other nodes

key_scalars : (key : Key) → all_scalars (key_of key) ≡ true
key_scalars (plain m) = decoded_scalars m.text
key_scalars (quoted m) = text_scalars m.text

prop_made : (key : Key) (e : syntax_expr.Expr) {s t : Found} → Made (fits_expr e) s t → Made (in_prop (key, e)).fits s t
prop_made key e m = same (ap (λ q. q.fits) (sym (at_prop shaping (record { name = key_of key; value = e })))) (with_test (key_scalars key) m)

attribute_made : (m : syntax_mark.Mark) (v : MarkupValue) {s t : Found} → is_attribute_name m.name ≡ true → Made (on_markup_value shaping v).fits s t → Made (in_attribute (m, v)).fits s t
attribute_made m v h x = same (ap (λ q. q.fits) (sym (at_markup_attribute shaping (record { name = m; value = v })))) (with_test h x)

quoted_made : (cs : List ℕ) (s : Found) → all_scalars cs ≡ true → Made (on_markup_value shaping (made.quoted_value cs)).fits s s
quoted_made cs s h = same (ap (λ q. q.fits) (sym (at_markup_value shaping (MarkupValue-F.Quoted cs)))) (unchanged s h)

tilde_value_made : (e : syntax_expr.Expr) {s t : Found} → is_tilde (on_expr shaping e).look ≡ true → Made (fits_expr e) s t → Made (on_markup_value shaping (made.tilde_value e)).fits s t
tilde_value_made e h m = same (ap (λ q. q.fits) (sym (at_markup_value shaping (MarkupValue-F.MarkupValue::Tilde e)))) (with_test h m)

dollar_value_made : (e : syntax_expr.Expr) {s t : Found} → Made (fits_expr e) s t → Made (on_markup_value shaping (made.dollar_value e)).fits s t
dollar_value_made e = same (ap (λ q. q.fits) (sym (at_markup_value shaping (MarkupValue-F.MarkupValue::Dollar e))))

text_child_made : (cs : List ℕ) (s : Found) → is_some_item cs ≡ true → all_scalars cs ≡ true → opens_none cs ≡ true → Made (on_markup_child shaping (made.text_child cs)).fits s s
text_child_made cs s f g h = same (ap (λ q. q.fits) (sym (at_markup_child shaping (MarkupChild-F.MarkupChild::Text cs)))) (unchanged s (and_from (is_some_item cs && all_scalars cs) (opens_none cs) (and_from (is_some_item cs) (all_scalars cs) f g) h))

direct_child_made : (e : syntax_expr.Expr) {s t : Found} → is_direct (on_expr shaping e).look ≡ true → Made (fits_expr e) s t → Made (on_markup_child shaping (made.direct_child e)).fits s t
direct_child_made e h m = same (ap (λ q. q.fits) (sym (at_markup_child shaping (MarkupChild-F.Direct e)))) (with_test h m)

dollar_child_made : (e : syntax_expr.Expr) {s t : Found} → Made (fits_expr e) s t → Made (on_markup_child shaping (made.dollar_child e)).fits s t
dollar_child_made e = same (ap (λ q. q.fits) (sym (at_markup_child shaping (MarkupChild-F.MarkupChild::Dollar e))))

decl_made_is : (m : Mark) (o : Option syntax_expr.Expr) {s t : Found} → is_name (name_of m.text) ≡ true → Made (fits_optional o) s t → Made (in_decl (mark_of m, o)).fits s t
decl_made_is m None h x = same (ap (λ q. q.fits) (sym (at_decl shaping (record { name = mark_of m; value = None })))) (with_test h x)
decl_made_is m (Some e) h x = same (ap (λ q. q.fits) (sym (at_decl shaping (record { name = mark_of m; value = Some e })))) (with_test h x)

start_made : (o : Option syntax_expr.Expr) {s t : Found} → Made (fits_optional o) s t → Made (on_for_start shaping (made.start_of o)).fits s t
start_made None = same (ap (λ q. q.fits) (sym (at_for_start shaping ForStart-F.Absent)))
start_made (Some e) = same (ap (λ q. q.fits) (sym (at_for_start shaping (ForStart-F.ForStart::Expr e))))

return_made : (p : Place) (o : Option syntax_expr.Expr) {s t : Found} → Made (fits_optional o) s t → Made (fits_stmt (made.stmt p (StmtKind-F.Return o))) s t
return_made p None = statement p (StmtKind-F.Return None)
return_made p (Some e) = statement p (StmtKind-F.Return (Some e))

for_made : (p : Place) (a : syntax_start.ForStart) (b c : Option syntax_expr.Expr) (d : syntax_stmt.Stmt) {s t : Found}
    → Made ((((on_for_start shaping a).fits && fits_optional b) && fits_optional c) && (is_block (on_stmt shaping d).look && fits_stmt d)) s t → Made (fits_stmt (made.stmt p (StmtKind-F.For a b c d))) s t
for_made p a None None d = statement p (StmtKind-F.For a None None d)
for_made p a None (Some c) d = statement p (StmtKind-F.For a None (Some c) d)
for_made p a (Some b) None d = statement p (StmtKind-F.For a (Some b) None d)
for_made p a (Some b) (Some c) d = statement p (StmtKind-F.For a (Some b) (Some c) d)

-- a tag that is void has no children
void_fits : (m : Mark) (cs : Children) (k : Tier) (s : Found) → TagFits m.text → (is_void_tag m.text && has_child cs) ≡ false
    → not (is_void_tag (encode_utf8_all (name_of m.text)) && is_some_item (map (on_markup_child shaping) (children_of k cs s).0)) ≡ true
void_fits m cs k s tag void =
    ap not (ap (λ t. is_void_tag t && is_some_item (map (on_markup_child shaping) (children_of k cs s).0)) tag.spelled ∙ ap (λ b. is_void_tag m.text && b) (some_child cs k s) ∙ void)

markup_made : (p : Place) (tag : List ℕ) (ats : List (syntax_mark.Mark × MarkupValue)) (cs : List MarkupChild) {s t u : Found} → is_tag_name tag ≡ true → Made (all_fit (map in_attribute ats)) s t
    → Made (all_fit (map (on_markup_child shaping) cs)) t u → texts_apart (map (on_markup_child shaping) cs) ≡ true
    → not (is_void_tag (encode_utf8_all tag) && is_some_item (map (on_markup_child shaping) cs)) ≡ true → Made (fits_expr (made.expr p (ExprKind-F.Markup (made.markup tag (map attribute_of ats) cs)))) s u
markup_made p tag ats cs h a c apart void =
    node p (ExprKind-F.Markup (made.markup tag (map attribute_of ats) cs))
    (same (ap (λ q. q.fits) (sym (at_markup shaping (record { tag = tag; attributes = map attribute_of ats; children = cs }))))
    (before_test void (before_test apart (both (with_test h (same (ap all_fit (sym (map_twice attribute_of (on_markup_attribute shaping) ats))) a)) c))))

-- a row of declarations by a word
decls_made : (d : VarKind) (ds : Decls) (k : Tier) (s : Found) {t : Found} → IsSomeDecl ds → (d ≡ var_kind.Const → HaveValues ds) → Made (all_fit (map in_decl (decls_of k ds s).0)) s t
    → Made (decls_fit d (map (on_decl shaping) (map decl_made (decls_of k ds s).0))) s t
decls_made d ds k s some values m =
    let r = (decls_of k ds s).0 in
    same (ap (decls_fit d) (sym (map_twice decl_made (on_decl shaping) r))) (record {
      fit = decls_are d (map in_decl r) (some_decl ds some k s) (λ e. list_all-map (λ (p : Part). is_valued p.look) in_decl r ∙ values_look ds (values e) k s) m.fit;
      before = m.before;
      good = m.good;
    })

-- a block's statements
all_statements : (body : List syntax_stmt.Stmt) → list_all (λ p. is_statement p.look) (map (on_stmt shaping) body) ≡ true → all_fit (map (on_stmt shaping) body) ≡ true
    → list_all (λ s. is_statement s.look && s.fits) (map (on_stmt shaping) body) ≡ true
all_statements body h g = all_also (λ p. is_statement p.look) (map (on_stmt shaping) body) h g

var_made : (p : Place) (d : VarKind) (ds : Decls) (k : Tier) (s : Found) {t : Found} → DeclaresBy d ds → Made (all_fit (map in_decl (decls_of k ds s).0)) s t
    → Made (fits_stmt (made.stmt p (StmtKind-F.StmtKind::Var d (map decl_made (decls_of k ds s).0)))) s t
var_made p d ds k s h m =
    statement p (StmtKind-F.StmtKind::Var d (map decl_made (decls_of k ds s).0))
    (decls_made d ds k s (some d h) (valued d h) m)
  where
    some : (d : VarKind) → DeclaresBy d ds → IsSomeDecl ds
    some var_kind.Const h = h.0
    some var_kind.Var h = h
    some var_kind.Let h = h

    valued : (d : VarKind) → DeclaresBy d ds → d ≡ var_kind.Const → HaveValues ds
    valued var_kind.Const h e = h.1
    valued var_kind.Var h e = absurd cc
    valued var_kind.Let h e = absurd cc

-- ---- each spelled tree

mutual
  unfolding expr_of

  expr_made : (e : Expr) → ExprFits e → (k : Tier) (s : Found) → Made (fits_expr (expr_of k e s).0) s (expr_of k e s).1
  expr_made (name m) h k s = node m.place (ExprKind-F.Name (name_of m.text)) (unchanged s h)
  expr_made (number m) h k s = node m.place (ExprKind-F.Num (number_of m.text)) (unchanged s (number_is m.text))
  expr_made (text m) h k s = node m.place (ExprKind-F.ExprKind::Text (text_of m.text)) (unchanged s (text_scalars m.text))
  expr_made (property m) h k s = node m.place (ExprKind-F.ExprKind::Text (name_of m.text)) (unchanged s (decoded_scalars m.text))
  expr_made (constant p c) h k s = constant_made p c s
  expr_made (array p es) h k s = node p (ExprKind-F.Arr (exprs_of k es s).0) (exprs_made es h k s)
  expr_made (object p ps) h k s =
      let r = props_of k ps s in node p (ExprKind-F.Obj (map prop_of r.0)) (same (ap all_fit (sym (map_twice prop_of (on_prop shaping) r.0))) (props_made ps h k s))
  expr_made (function p t ns ss) h k s =
      let r = stmts_of k ss s in node p (ExprKind-F.Fun (made.function (name_of_title t) (names_of ns) r.0)) (function_made t ns r.0 h.0 h.1 (stmts_made ss h.2 k s))
  expr_made (unary p u a) h k s = node p (ExprKind-F.Unary u (expr_of k a s).0) (expr_made a h k s)
  expr_made (step p d a) h k s = node p (ExprKind-F.Step d (expr_of k a s).0) (with_test (target_look a h.0 k s) (expr_made a h.1 k s))
  expr_made (operation p o a b) h k s =
      let x = expr_of k a s in infix_made p o x.0 (expr_of k b x.1).0 (both (expr_made a h.0 k s) (expr_made b h.1 k x.1))
  expr_made (condition p a b c) h k s =
      let x = expr_of k a s in let y = expr_of k b x.1 in
      node p (ExprKind-F.Cond x.0 y.0 (expr_of k c y.1).0) (both (both (expr_made a h.0 k s) (expr_made b h.1 k x.1)) (expr_made c h.2 k y.1))
  expr_made (assign p o a b) h k s =
      let x = expr_of k a s in
      node p (ExprKind-F.Assign o x.0 (expr_of k b x.1).0) (both (with_test h.0 (with_test (target_look a h.1 k s) (expr_made a h.2 k s))) (expr_made b h.3 k x.1))
  expr_made (index p a b) h k s = let x = expr_of k a s in node p (ExprKind-F.Index x.0 (expr_of k b x.1).0) (both (expr_made a h.0 k s) (expr_made b h.1 k x.1))
  expr_made (call p a es) h k s = let x = expr_of k a s in node p (ExprKind-F.Call x.0 (exprs_of k es x.1).0) (both (expr_made a h.0 k s) (exprs_made es h.1 k x.1))
  expr_made (tilde p ss) h k s =
      record { fit = ap (λ q. q.fits) (at_node p (ExprKind-F.ExprKind::Tilde (next_tilde s))); before = refl; good = λ g. good_tilde p ss s (stmts_made ss h tier.Client (within s)) g }
  expr_made (dollar p e) h tier.Client s =
      let x = expr_of tier.Server e s in let m = expr_made e h tier.Server s in
      record { fit = ap (λ q. q.fits) (at_node p (ExprKind-F.ExprKind::Dollar (length x.1.dollars))); before = m.before; good = λ g. good_dollar p x.0 x.1 m.fit (server_expr e s) (m.good g) }
  expr_made (dollar p e) h tier.Server s = node p (ExprKind-F.Stray (expr_of tier.Server e s).0) (expr_made e h tier.Server s)
  expr_made (element m ats cs) h k s =
      let a = attributes_of k ats s in
      markup_made m.place (name_of m.text) a.0 (children_of k cs a.1).0 h.0.is_tag (attributes_made ats h.1 k s) (children_made cs h.2 k a.1) (apart_look cs h.3 k a.1) (void_fits m cs k a.1 h.0 h.4)

  exprs_made : (es : Exprs) → ExprsFit es → (k : Tier) (s : Found) → Made (all_fit (map (on_expr shaping) (exprs_of k es s).0)) s (exprs_of k es s).1
  exprs_made no_exprs h k s = unchanged s refl
  exprs_made (exprs_and es e) h k s =
      let r = exprs_of k es s in same (sym (all_fit_more (on_expr shaping) r.0 (expr_of k e r.1).0)) (both (exprs_made es h.0 k s) (expr_made e h.1 k r.1))

  props_made : (ps : Props) → PropsFit ps → (k : Tier) (s : Found) → Made (all_fit (map in_prop (props_of k ps s).0)) s (props_of k ps s).1
  props_made no_props h k s = unchanged s refl
  props_made (props_and ps key e) h k s =
      let r = props_of k ps s in let x = expr_of k e r.1 in
      same (sym (all_fit_more in_prop r.0 (key, x.0))) (both (props_made ps h.0 k s) (prop_made key x.0 (expr_made e h.1 k r.1)))

  attribute_made_of : (a : Attribute) → AttributeFits a → (k : Tier) (s : Found) → Made (in_attribute (attribute_name a, (value_of k a s).0)).fits s (value_of k a s).1
  attribute_made_of (attribute_plain m) h k s = attribute_made (mark_of m) (made.quoted_value []) h (quoted_made [] s refl)
  attribute_made_of (attribute_quoted m v) h k s = attribute_made (mark_of m) (made.quoted_value (quoted_of v.text)) h (quoted_made (quoted_of v.text) s (quoted_scalars v.text))
  attribute_made_of (attribute_tilde m e) h k s =
      let x = expr_of k e s in attribute_made (mark_of m) (made.tilde_value x.0) h.0 (tilde_value_made x.0 (tilde_look e h.1 k s) (expr_made e h.2 k s))
  attribute_made_of (attribute_dollar m e) h k s =
      let x = expr_of tier.Server e s in attribute_made (mark_of m) (made.dollar_value x.0) h.0 (dollar_value_made x.0 (expr_made e h.1 tier.Server s))

  attributes_made : (ats : Attributes) → AttributesFit ats → (k : Tier) (s : Found) → Made (all_fit (map in_attribute (attributes_of k ats s).0)) s (attributes_of k ats s).1
  attributes_made no_attributes h k s = unchanged s refl
  attributes_made (attributes_and ats a) h k s =
      let r = attributes_of k ats s in
      same (sym (all_fit_more in_attribute r.0 (attribute_name a, (value_of k a r.1).0))) (both (attributes_made ats h.0 k s) (attribute_made_of a h.1 k r.1))

  child_made : (c : Child) → ChildFits c → (k : Tier) (s : Found) → Made (on_markup_child shaping (child_of k c s).0).fits s (child_of k c s).1
  child_made (child_text m) h k s = text_child_made (child_text_of m.text) s h.some (child_text_scalars m.text) h.opens
  child_made (child_direct e) h k s = let x = expr_of k e s in direct_child_made x.0 (direct_look e h.0 k s) (expr_made e h.1 k s)
  child_made (child_dollar e) h k s = dollar_child_made (expr_of tier.Server e s).0 (expr_made e h tier.Server s)

  children_made : (cs : Children) → ChildrenFit cs → (k : Tier) (s : Found) → Made (all_fit (map (on_markup_child shaping) (children_of k cs s).0)) s (children_of k cs s).1
  children_made no_children h k s = unchanged s refl
  children_made (children_and cs c) h k s =
      let r = children_of k cs s in same (sym (all_fit_more (on_markup_child shaping) r.0 (child_of k c r.1).0)) (both (children_made cs h.0 k s) (child_made c h.1 k r.1))

  decl_made_of : (d : Decl) → DeclFits d → (k : Tier) (s : Found) → Made (in_decl (decl_of k d s).0).fits s (decl_of k d s).1
  decl_made_of (decl_only m) h k s = decl_made_is m None h (unchanged s refl)
  decl_made_of (decl_as m e) h k s = decl_made_is m (Some (expr_of k e s).0) h.0 (expr_made e h.1 k s)

  decls_made_of : (ds : Decls) → DeclsFit ds → (k : Tier) (s : Found) → Made (all_fit (map in_decl (decls_of k ds s).0)) s (decls_of k ds s).1
  decls_made_of no_decls h k s = unchanged s refl
  decls_made_of (decls_and ds d) h k s =
      let r = decls_of k ds s in same (sym (all_fit_more in_decl r.0 (decl_of k d r.1).0)) (both (decls_made_of ds h.0 k s) (decl_made_of d h.1 k r.1))

  optional_made : (o : Optional) → OptionalFits o → (k : Tier) (s : Found) → Made (fits_optional (optional_of k o s).0) s (optional_of k o s).1
  optional_made absent h k s = unchanged s refl
  optional_made (present e) h k s = expr_made e h k s

  start_made_of : (a : Start) → StartFits a → (k : Tier) (s : Found) → Made (on_for_start shaping (start_of k a s).0).fits s (start_of k a s).1
  start_made_of (start_optional o) h k s = start_made (optional_of k o s).0 (optional_made o h k s)
  start_made_of (start_vars ds) h k s =
      same (ap (λ q. q.fits) (sym (at_for_start shaping (ForStart-F.ForStart::Var (map decl_made (decls_of k ds s).0))))) (decls_made var_kind.Var ds k s h.0 (λ e. absurd cc) (decls_made_of ds h.1 k s))

  stmt_made : (z : Stmt) → StmtFits z → (k : Tier) (s : Found) → Made (fits_stmt (stmt_of k z s).0) s (stmt_of k z s).1
  stmt_made (expression p e) h k s = statement p (StmtKind-F.StmtKind::Expr (expr_of k e s).0) (expr_made e h k s)
  stmt_made (var p d ds) h k s = var_made p d ds k s h.0 (decls_made_of ds h.1 k s)
  stmt_made (declare p t ns ss) h k s = declared_made p t ns (stmts_of k ss s).0 h.0 h.1 h.2 (stmts_made ss h.3 k s)
  stmt_made (if_only p e b) h k s =
      let x = expr_of k e s in
      statement p (StmtKind-F.If x.0 (stmt_of k b x.1).0 None) (before_test refl (both (expr_made e h.0 k s) (with_test (block_look b h.1 k x.1) (stmt_made b h.2 k x.1))))
  stmt_made (if_else p e b c) h k s =
      let x = expr_of k e s in let y = stmt_of k b x.1 in
      statement p (StmtKind-F.If x.0 y.0 (Some (stmt_of k c y.1).0)) (both (both (expr_made e h.0 k s) (with_test (block_look b h.1 k x.1) (stmt_made b h.2 k x.1))) (with_test (block_look c h.3 k y.1) (stmt_made c h.4 k y.1)))
  stmt_made (while p e b) h k s =
      let x = expr_of k e s in statement p (StmtKind-F.While x.0 (stmt_of k b x.1).0) (both (expr_made e h.0 k s) (with_test (block_look b h.1 k x.1) (stmt_made b h.2 k x.1)))
  stmt_made (for p a b c d) h k s =
      let x = start_of k a s in let y = optional_of k b x.1 in let z = optional_of k c y.1 in
      for_made p x.0 y.0 z.0 (stmt_of k d z.1).0
      (both (both (both (start_made_of a h.0 k s) (optional_made b h.1 k x.1)) (optional_made c h.2 k y.1)) (with_test (block_look d h.3 k z.1) (stmt_made d h.4 k z.1)))
  stmt_made (return p o) h k s = return_made p (optional_of k o s).0 (optional_made o h k s)
  stmt_made (jump p j) h k s = jump_made p j s
  stmt_made (throw p e) h k s = statement p (StmtKind-F.Throw (expr_of k e s).0) (expr_made e h k s)
  stmt_made (try p a m b) h k s =
      let x = stmt_of k a s in
      statement p (StmtKind-F.Try x.0 (mark_of m) (stmt_of k b x.1).0) (both (before_test h.2 (with_test (block_look a h.0 k s) (stmt_made a h.1 k s))) (with_test (block_look b h.3 k x.1) (stmt_made b h.4 k x.1)))
  stmt_made (block p ss) h k s =
      let m = stmts_made ss h.1 k s in
      statement p (StmtKind-F.Block (stmts_of k ss s).0) (record { fit = all_statements (stmts_of k ss s).0 (statements_look ss h.0 k s) m.fit; before = m.before; good = m.good })
  stmt_made (empty p) h k s = statement p StmtKind-F.Empty (unchanged s refl)

  pub stmts_made : (ss : Stmts) → StmtsFit ss → (k : Tier) (s : Found) → Made (all_fit (map (on_stmt shaping) (stmts_of k ss s).0)) s (stmts_of k ss s).1
  stmts_made no_stmts h k s = unchanged s refl
  stmts_made (stmts_and ss z) h k s =
      let r = stmts_of k ss s in same (sym (all_fit_more (on_stmt shaping) r.0 (stmt_of k z r.1).0)) (both (stmts_made ss h.0 k s) (stmt_made z h.1 k r.1))
