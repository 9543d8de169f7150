-- The trees that the grammar derives from tokens have its form, where the texts of the tokens do.
use Rattle.std.proofs.Common.{◌≡◌, ℕ, Bool, true, false, ◌&&◌, refl, sym, ap, ◌∙◌}
use Rattle.std.proofs.lemmas.Bool.{and_right, both_ways, true≢false}
use Rattle.mt_tree.specs.declared.operators.VarKind.{VarKind}
use Rattle.mt_tree.specs.declared.operators.VarKind.TheVariants as var_kind
use Rattle.mt_grammar.specs.declared.terminal.Terminal.{Terminal}
use Rattle.mt_grammar.specs.Token.{Tokens}
use Rattle.mt_grammar.specs.Tree.{Title, a_service, a_declaration, a_named_expression, an_expression, heading_of, Names, Expr, tilde, Exprs, Props, Attribute, Attributes, Child, Children, children_and, Decl, Decls, Optional, Start, Stmt, block, Stmts}
use Rattle.mt_grammar.specs.Grammar.{needs_value, is_expression, Ends, semicolon, before_brace, ReadsNames, first_name, next_name, Parameters, no_parameters, parameters, Head, h_service, h_declaration, h_named, h_expression, Reads, r_assign, r_up, r_condition, r_operation, r_unary, r_step_before, r_step_after, r_dot, r_index, r_call_none, r_call, r_name, r_number, r_text, r_constant, r_paren, r_array_none, r_array, r_array_comma, r_object_none, r_object, r_object_comma, r_function, r_tilde, r_dollar, r_element, ReadsList, first_expr, next_expr, ReadsProps, first_prop, next_prop, ReadsFunction, function_of, ReadsTilde, tilde_of, ReadsDollar, dollar_of, ReadsElement, e_self, e_void, e_children, ReadsAttribute, a_plain, a_quoted, a_tilde, a_dollar, ReadsAttributes, no_attribute, next_attribute, ReadsChild, c_text, c_element, c_tilde, c_dollar, ReadsChildren, no_child, next_child, ReadsDecl, d_only, d_as, ReadsDecls, first_decl, next_decl, ReadsOptional, o_absent, o_present, ReadsStart, f_optional, f_vars, ReadsBlock, block_of, ReadsBody, b_block, b_single, ReadsStmt, s_var, s_if, s_if_else, s_while, s_for, s_return, s_return_value, s_jump, s_throw, s_try, s_block, s_empty, s_expression, ReadsStmts, no_stmt, next_stmt, ReadsItem, i_function, i_statement, ReadsItems, no_item, next_item, IsProgram}
use Rattle.mt_parser.proofs.Fits.{AreApart, AreStatements, AttributeFits, AttributesFit, ChildFits, ChildrenFit, DeclFits, DeclaresBy, DeclsFit, ExprFits, ExprsFit, HasValue, HaveValues, IsBlock, IsDirect, IsNamed, IsSomeDecl, IsStatement, IsTilde, NamesFit, OptionalFits, PropsFit, StartFits, StmtFits, StmtsFit, TitleFits, ends_in_text, has_child, is_text}
use Rattle.mt_parser.proofs.Terminals.{AllFit, NoTextNext, assignment_fits, attribute_fits, is_text_token, name_fits, tag_fits, text_fits}

ends : {ts rest : Tokens} → Ends ts rest → AllFit ts → AllFit rest
ends (semicolon e) f = f.2
ends (before_brace e) f = f

names : {ts rest : Tokens} {ns : Names} → ReadsNames ts rest ns → AllFit ts → NamesFit ns × AllFit rest
names (first_name {t} e) f = ((tt, name_fits t e f.0), f.2)
names (next_name {t = t} d e g) f = let a = names d f in ((a.0, name_fits t g a.1.2.0), a.1.2.2)

list : {ts rest : Tokens} {ns : Names} → Parameters ts rest ns → AllFit ts → NamesFit ns × AllFit rest
list (no_parameters e) f = (tt, f.2)
list (parameters d e) f = let a = names d f in (a.0, a.1.2)

head : {h : Title} {ts rest : Tokens} → Head h ts rest → AllFit ts → TitleFits h × AllFit rest
head (h_service {n = n} e g o) f = (name_fits n g f.2.0, f.2.2.2)
head (h_declaration {n = n} e g o) f = (name_fits n g f.2.0, f.2.2.2)
head (h_named {n = n} e g o) f = (name_fits n g f.2.0, f.2.2.2)
head (h_expression e o) f = (tt, f.2.2)

named : (h : Title) → is_expression (heading_of h) ≡ false → IsNamed h
named (a_service m) e = tt
named (a_declaration m) e = tt
named (a_named_expression m) e = tt
named an_expression e = absurd cc

-- what a declaration of each word has
record DeclIs (d : VarKind) (x : Decl) (rest : Tokens) : Type 0 where
  fits : DeclFits x
  value : d ≡ var_kind.Const → HasValue x
  left : AllFit rest

record DeclsAre (d : VarKind) (ds : Decls) (rest : Tokens) : Type 0 where
  fit : DeclsFit ds
  some : IsSomeDecl ds
  values : d ≡ var_kind.Const → HaveValues ds
  left : AllFit rest

declares : (d : VarKind) (ds : Decls) → IsSomeDecl ds → (d ≡ var_kind.Const → HaveValues ds) → DeclaresBy d ds
declares var_kind.Const ds some values = (some, values refl)
declares var_kind.Var ds some values = some
declares var_kind.Let ds some values = some

-- a child: its form, and that no text stands directly before or behind it where it is one
record ChildIs (c : Child) (ts rest : Tokens) : Type 0 where
  fits : ChildFits c
  left : AllFit rest
  text_first : is_text c ≡ true → NoTextNext ts → ⊥
  none_behind : is_text c ≡ true → NoTextNext rest

record ChildrenAre (cs : Children) (rest : Tokens) : Type 0 where
  fit : ChildrenFit cs
  apart : AreApart cs
  left : AllFit rest
  none_behind : ends_in_text cs ≡ true → NoTextNext rest

not_both : (a b : Bool) → (a ≡ true → b ≡ true → ⊥) → (a && b) ≡ false
not_both true true h = absurd (h refl refl)
not_both true false h = refl
not_both false b h = refl

with_child : {cs : Children} {c : Child} {mid rest : Tokens} → ChildrenAre cs mid → ChildIs c mid rest → ChildrenAre (children_and cs c) rest
with_child {cs} {c} a b = record {
  fit = (a.fit, b.fits);
  apart = (a.apart, not_both (ends_in_text cs) (is_text c) (λ e g. b.text_first g (a.none_behind e)));
  left = b.left;
  none_behind = b.none_behind;
}

other_child : (c : Child) (ts rest : Tokens) → ChildFits c → is_text c ≡ false → AllFit rest → ChildIs c ts rest
other_child c ts rest h e f = record { fits = h; left = f; text_first = λ g. absurd (both_ways (is_text c) e g); none_behind = λ g. absurd (both_ways (is_text c) e g) }

tilde_is_direct : (e : Expr) → IsTilde e → IsDirect e
tilde_is_direct (tilde p ss) h = tt
tilde_is_direct _ h = absurd h

block_is_statement : (s : Stmt) → IsBlock s → IsStatement s
block_is_statement (block p ss) h = tt
block_is_statement _ h = absurd h

mutual
  reads : {l : ℕ} {ts rest : Tokens} {e : Expr} → Reads l ts rest e → AllFit ts → ExprFits e × AllFit rest
  reads (r_assign {t = t} o da h q de) f = let a = reads da f in let b = reads de a.1.2 in ((assignment_fits t o q, h, a.0, b.0), b.1)
  reads (r_up d) f = reads d f
  reads (r_condition da hq db hc dd) f = let a = reads da f in let b = reads db a.1.2 in let c = reads dd b.1.2 in ((a.0, b.0, c.0), c.1)
  reads (r_operation o level da q db) f = let a = reads da f in let b = reads db a.1.2 in ((a.0, b.0), b.1)
  reads (r_unary u q d) f = reads d f.2
  reads (r_step_before d q da h) f = let a = reads da f.2 in ((h, a.0), a.1)
  reads (r_step_after d da h q) f = let a = reads da f in ((h, a.0), a.1.2)
  reads (r_dot da q h) f = let a = reads da f in ((a.0, tt), a.1.2.2)
  reads (r_index da q di r) f = let a = reads da f in let b = reads di a.1.2 in ((a.0, b.0), b.1.2)
  reads (r_call_none da q r) f = let a = reads da f in ((a.0, tt), a.1.2.2)
  reads (r_call da q des r) f = let a = reads da f in let b = reads_list des a.1.2 in ((a.0, b.0), b.1.2)
  reads (r_name {t = t} q) f = (name_fits t q f.0, f.2)
  reads (r_number q) f = (tt, f.2)
  reads (r_text q) f = (tt, f.2)
  reads (r_constant v q) f = (tt, f.2)
  reads (r_paren q d r) f = let a = reads d f.2 in (a.0, a.1.2)
  reads (r_array_none q r) f = (tt, f.2.2)
  reads (r_array q des r) f = let a = reads_list des f.2 in (a.0, a.1.2)
  reads (r_array_comma q des r z) f = let a = reads_list des f.2 in (a.0, a.1.2.2)
  reads (r_object_none q r) f = (tt, f.2.2)
  reads (r_object q dps r) f = let a = reads_props dps f.2 in (a.0, a.1.2)
  reads (r_object_comma q dps r z) f = let a = reads_props dps f.2 in (a.0, a.1.2.2)
  reads (r_function d g) f = let a = reads_function d f in ((a.0, a.1, a.2), a.3)
  reads (r_tilde d) f = let a = reads_tilde d f in (a.1, a.2)
  reads (r_dollar d) f = reads_dollar d f
  reads (r_element d) f = let a = reads_element d f in (a.1, a.2)

  reads_list : {ts rest : Tokens} {es : Exprs} → ReadsList ts rest es → AllFit ts → ExprsFit es × AllFit rest
  reads_list (first_expr d) f = let a = reads d f in ((tt, a.0), a.1)
  reads_list (next_expr des q d) f = let a = reads_list des f in let b = reads d a.1.2 in ((a.0, b.0), b.1)

  reads_props : {ts rest : Tokens} {ps : Props} → ReadsProps ts rest ps → AllFit ts → PropsFit ps × AllFit rest
  reads_props (first_prop x q d) f = let a = reads d f.2.2 in ((tt, a.0), a.1)
  reads_props (next_prop dps q x r d) f = let a = reads_props dps f in let b = reads d a.1.2.2.2 in ((a.0, b.0), b.1)

  reads_function : {h : Title} {ts rest : Tokens} {ns : Names} {ss : Stmts} → ReadsFunction h ts rest ns ss → AllFit ts → TitleFits h × NamesFit ns × StmtsFit ss × AllFit rest
  reads_function (function_of dh dp o d c) f = let a = head dh f in let b = list dp a.1 in let e = reads_items d b.1.2 in (a.0, b.0, e.0, e.1.2)

  reads_tilde : {ts rest : Tokens} {e : Expr} → ReadsTilde ts rest e → AllFit ts → IsTilde e × ExprFits e × AllFit rest
  reads_tilde (tilde_of o d c) f = let a = reads_items d f.2 in (tt, a.0, a.1.2)

  reads_dollar : {ts rest : Tokens} {e : Expr} → ReadsDollar ts rest e → AllFit ts → ExprFits e × AllFit rest
  reads_dollar (dollar_of o d c) f = let a = reads d f.2 in (a.0, a.1.2)

  reads_element : {ts rest : Tokens} {e : Expr} → ReadsElement ts rest e → AllFit ts → IsDirect e × ExprFits e × AllFit rest
  reads_element (e_self {o = o} q d c) f = let a = reads_attributes d f.2 in (tt, (tag_fits o q f.0, a.0, tt, tt, and_right _ false refl), a.1.2)
  reads_element (e_void {o = o} q d c v) f = let a = reads_attributes d f.2 in (tt, (tag_fits o q f.0, a.0, tt, tt, and_right _ false refl), a.1.2)
  reads_element (e_children {o = o} {cs = cs} q d c v dc z same) f =
      let a = reads_attributes d f.2 in let b = reads_children dc a.1.2 in (tt, (tag_fits o q f.0, a.0, b.fit, b.apart, ap (λ t. t && has_child cs) v), b.left.2)

  reads_attribute : {ts rest : Tokens} {a : Attribute} → ReadsAttribute ts rest a → AllFit ts → AttributeFits a × AllFit rest
  reads_attribute (a_plain {t = t} q) f = (attribute_fits t q f.0, f.2)
  reads_attribute (a_quoted {t = t} q z v) f = (attribute_fits t q f.0, f.2.2.2)
  reads_attribute (a_tilde {t = t} q z d) f = let a = reads_tilde d f.2.2 in ((attribute_fits t q f.0, a.0, a.1), a.2)
  reads_attribute (a_dollar {t = t} q z d) f = let a = reads_dollar d f.2.2 in ((attribute_fits t q f.0, a.0), a.1)

  reads_attributes : {ts rest : Tokens} {ats : Attributes} → ReadsAttributes ts rest ats → AllFit ts → AttributesFit ats × AllFit rest
  reads_attributes no_attribute f = (tt, f)
  reads_attributes (next_attribute ds d) f = let a = reads_attributes ds f in let b = reads_attribute d a.1 in ((a.0, b.0), b.1)

  reads_child : {ts rest : Tokens} {c : Child} → ReadsChild ts rest c → AllFit ts → ChildIs c ts rest
  reads_child (c_text {t = t} q) f = record { fits = text_fits t q f.0; left = f.2; text_first = λ e g. g (is_text_token t q); none_behind = λ e. f.1 (is_text_token t q) }
  reads_child (c_element d) f = let a = reads_element d f in other_child _ _ _ (a.0, a.1) refl a.2
  reads_child (c_tilde d) f = let a = reads_tilde d f in other_child _ _ _ (tilde_is_direct _ a.0, a.1) refl a.2
  reads_child (c_dollar d) f = let a = reads_dollar d f in other_child _ _ _ a.0 refl a.1

  reads_children : {ts rest : Tokens} {cs : Children} → ReadsChildren ts rest cs → AllFit ts → ChildrenAre cs rest
  reads_children no_child f = record { fit = tt; apart = tt; left = f; none_behind = λ e. absurd cc }
  reads_children (next_child ds d) f = let a = reads_children ds f in with_child a (reads_child d a.left)

  reads_decl : {d : VarKind} {ts rest : Tokens} {x : Decl} → ReadsDecl d ts rest x → AllFit ts → DeclIs d x rest
  reads_decl (d_only {t = t} q v) f = record { fits = name_fits t q f.0; value = λ e. absurd (true≢false (ap needs_value (sym e) ∙ v)); left = f.2 }
  reads_decl (d_as {t = t} q z d) f = let a = reads d f.2.2 in record { fits = (name_fits t q f.0, a.0); value = λ e. tt; left = a.1 }

  reads_decls : {d : VarKind} {ts rest : Tokens} {ds : Decls} → ReadsDecls d ts rest ds → AllFit ts → DeclsAre d ds rest
  reads_decls (first_decl d) f = let a = reads_decl d f in record { fit = (tt, a.fits); some = tt; values = λ e. (tt, a.value e); left = a.left }
  reads_decls (next_decl ds q d) f = let a = reads_decls ds f in let b = reads_decl d a.left.2 in record { fit = (a.fit, b.fits); some = tt; values = λ e. (a.values e, b.value e); left = b.left }

  reads_optional : {y : Terminal} {ts rest : Tokens} {o : Optional} → ReadsOptional y ts rest o → AllFit ts → OptionalFits o × AllFit rest
  reads_optional (o_absent q) f = (tt, f.2)
  reads_optional (o_present d q) f = let a = reads d f in (a.0, a.1.2)

  reads_start : {ts rest : Tokens} {a : Start} → ReadsStart ts rest a → AllFit ts → StartFits a × AllFit rest
  reads_start (f_optional d) f = reads_optional d f
  reads_start (f_vars v d c) f = let a = reads_decls d f.2 in ((a.some, a.fit), a.left.2)

  reads_block : {ts rest : Tokens} {s : Stmt} → ReadsBlock ts rest s → AllFit ts → IsBlock s × StmtFits s × AllFit rest
  reads_block (block_of o d c) f = let a = reads_stmts d f.2 in (tt, (a.0, a.1), a.2.2)

  reads_body : {ts rest : Tokens} {s : Stmt} → ReadsBody ts rest s → AllFit ts → IsBlock s × StmtFits s × AllFit rest
  reads_body (b_block d) f = reads_block d f
  reads_body (b_single h d) f = let a = reads_stmt d f in (tt, ((tt, a.0), (tt, a.1)), a.2)

  reads_stmt : {ts rest : Tokens} {s : Stmt} → ReadsStmt ts rest s → AllFit ts → IsStatement s × StmtFits s × AllFit rest
  reads_stmt (s_var {ds = ds} d q dd z) f = let a = reads_decls dd f.2 in (tt, (declares d ds a.some a.values, a.fit), ends z a.left)
  reads_stmt (s_if i o d c db n) f = let a = reads d f.2.2 in let b = reads_body db a.1.2 in (tt, (a.0, b.0, b.1), b.2)
  reads_stmt (s_if_else i o d c db w dc) f = let a = reads d f.2.2 in let b = reads_body db a.1.2 in let e = reads_body dc b.2.2 in (tt, (a.0, b.0, b.1, e.0, e.1), e.2)
  reads_stmt (s_while i o d c db) f = let a = reads d f.2.2 in let b = reads_body db a.1.2 in (tt, (a.0, b.0, b.1), b.2)
  reads_stmt (s_for i o da db dc dd) f =
      let a = reads_start da f.2.2 in let b = reads_optional db a.1 in let c = reads_optional dc b.1 in let e = reads_body dd c.1 in (tt, (a.0, b.0, c.0, e.0, e.1), e.2)
  reads_stmt (s_return q z) f = (tt, tt, ends z f.2)
  reads_stmt (s_return_value q d z) f = let a = reads d f.2 in (tt, a.0, ends z a.1)
  reads_stmt (s_jump j q z) f = (tt, tt, ends z f.2)
  reads_stmt (s_throw q d z) f = let a = reads d f.2 in (tt, a.0, ends z a.1)
  reads_stmt (s_try {n = n} q da w o g c db) f =
      let a = reads_block da f.2 in let b = reads_block db a.2.2.2.2.2 in (tt, (a.0, a.1, name_fits n g a.2.2.2.0, b.0, b.1), b.2)
  reads_stmt (s_block d) f = let a = reads_block d f in (block_is_statement _ a.0, a.1, a.2)
  reads_stmt (s_empty q) f = (tt, tt, f.2)
  reads_stmt (s_expression h d z) f = let a = reads d f in (tt, a.0, ends z a.1)

  reads_stmts : {ts rest : Tokens} {ss : Stmts} → ReadsStmts ts rest ss → AllFit ts → AreStatements ss × StmtsFit ss × AllFit rest
  reads_stmts no_stmt f = (tt, tt, f)
  reads_stmts (next_stmt ds d) f = let a = reads_stmts ds f in let b = reads_stmt d a.2 in ((a.0, b.0), (a.1, b.1), b.2)

  reads_item : {ts rest : Tokens} {s : Stmt} → ReadsItem ts rest s → AllFit ts → StmtFits s × AllFit rest
  reads_item (i_function {h = h} d g) f = let a = reads_function d f in ((named h g, a.0, a.1, a.2), a.3)
  reads_item (i_statement d) f = let a = reads_stmt d f in (a.1, a.2)

  reads_items : {ts rest : Tokens} {ss : Stmts} → ReadsItems ts rest ss → AllFit ts → StmtsFit ss × AllFit rest
  reads_items no_item f = (tt, f)
  reads_items (next_item ds d) f = let a = reads_items ds f in let b = reads_item d a.1 in ((a.0, b.0), b.1)

pub program_fits : {ts : Tokens} {ss : Stmts} → IsProgram ts ss → AllFit ts → StmtsFit ss
program_fits d f = (reads_items d f).0
