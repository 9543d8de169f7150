-- What the parts that the builder makes look like.
use Rattle.std.proofs.Common.{◌≡◌, true, ◌&&◌, List, [], ◌∷◌, ◌++◌, map, None, Some, refl, sym, ap, ◌∙◌}
use Rattle.std.specs.List.{list_all}
use Rattle.std.proofs.lemmas.List.Folds.{list_all-map}
use Rattle.std.proofs.lemmas.List.{map-append}
use Rattle.mt_syntax.specs.Fold.{on_decl, on_expr, on_markup_child, on_stmt}
use Rattle.mt_syntax.specs.Shape.{Part, is_block, is_direct, is_some_item, is_statement, is_target, is_text, is_tilde, is_valued, shaping, texts_apart}
use Rattle.mt_syntax_laws.proofs.Related.{at_decl, at_markup_child}
use Rattle.mt_syntax.specs.declared.tree.ExprKind.TheOpen.{ExprKind-F, MarkupChild-F, StmtKind-F}
use Rattle.mt_grammar.specs.declared.terminal.Jump.TheVariants as jump_word
use Rattle.mt_grammar.specs.Tree.{Expr, name, number, text, property, constant, array, object, function, unary, step, operation, condition, assign, index, call, tilde, dollar, element, Child, child_text, child_direct, child_dollar, Children, no_children, children_and, Decl, decl_only, decl_as, Decls, no_decls, decls_and, Stmt, expression, var, declare, if_only, if_else, while, for, return, jump, throw, try, block, empty, Stmts, no_stmts, stmts_and}
use Rattle.mt_grammar.specs.Tree as spelled
use Rattle.mt_parser_marks.specs.Values.{name_of, child_text_of}
use Rattle.mt_parser_builder.specs.declared.tier.Tier.{Tier}
use Rattle.mt_parser_builder.specs.declared.tier.Tier.TheVariants as tier
use Rattle.mt_parser_builder.specs.Found.{Found, next_tilde}
use Rattle.mt_parser_builder.specs.Syntax as made
use Rattle.mt_parser_builder.specs.Syntax.{mark_of}
use Rattle.mt_parser_builder.specs.Program.{attribute_of, attributes_of, child_of, children_of, decl_made, decl_of, decls_of, expr_of, optional_of, start_of, stmt_of, stmts_of}
use Rattle.mt_parser.proofs.Fits.{AreStatements, HasValue, HaveValues, IsBlock, IsDirect, IsStatement, IsTilde}
use Rattle.mt_parser.proofs.Fits as fits
use Rattle.mt_parser.proofs.Parts.{apart_more, at_node, at_statement, last_is_text, last_more, list_all_more, some_item}

pub target_look : (e : Expr) → spelled.is_target e ≡ true → (k : Tier) (s : Found) → is_target (on_expr shaping (expr_of k e s).0).look ≡ true
unfolding expr_of
target_look (name m) h k s = ap (λ p. is_target p.look) (at_node m.place (ExprKind-F.Name (name_of m.text)))
target_look (index p a b) h k s = let x = expr_of k a s in ap (λ p. is_target p.look) (at_node p (ExprKind-F.Index x.0 (expr_of k b x.1).0))
target_look _ h k s = absurd cc

pub tilde_look : (e : Expr) → IsTilde e → (k : Tier) (s : Found) → is_tilde (on_expr shaping (expr_of k e s).0).look ≡ true
unfolding expr_of
tilde_look (tilde p ss) h k s = ap (λ p. is_tilde p.look) (at_node p (ExprKind-F.ExprKind::Tilde (next_tilde s)))
tilde_look _ h k s = absurd h

pub direct_look : (e : Expr) → IsDirect e → (k : Tier) (s : Found) → is_direct (on_expr shaping (expr_of k e s).0).look ≡ true
unfolding expr_of
direct_look (tilde p ss) h k s = ap (λ p. is_direct p.look) (at_node p (ExprKind-F.ExprKind::Tilde (next_tilde s)))
direct_look (element m ats cs) h k s =
    let a = attributes_of k ats s in
    ap (λ p. is_direct p.look) (at_node m.place (ExprKind-F.Markup (made.markup (name_of m.text) (map attribute_of a.0) (children_of k cs a.1).0)))
direct_look _ h k s = absurd h

pub block_look : (z : Stmt) → IsBlock z → (k : Tier) (s : Found) → is_block (on_stmt shaping (stmt_of k z s).0).look ≡ true
unfolding stmt_of
block_look (block p ss) h k s = ap (λ p. is_block p.look) (at_statement p (StmtKind-F.Block (stmts_of k ss s).0))
block_look _ h k s = absurd h

pub statement_look : (z : Stmt) → IsStatement z → (k : Tier) (s : Found) → is_statement (on_stmt shaping (stmt_of k z s).0).look ≡ true
unfolding stmt_of
statement_look (expression p e) h k s = ap (λ p. is_statement p.look) (at_statement p (StmtKind-F.StmtKind::Expr (expr_of k e s).0))
statement_look (var p d ds) h k s = ap (λ p. is_statement p.look) (at_statement p (StmtKind-F.StmtKind::Var d (map decl_made (decls_of k ds s).0)))
statement_look (declare p d ns ss) h k s = absurd h
statement_look (if_only p e b) h k s = let x = expr_of k e s in ap (λ p. is_statement p.look) (at_statement p (StmtKind-F.If x.0 (stmt_of k b x.1).0 None))
statement_look (if_else p e b c) h k s =
    let x = expr_of k e s in let y = stmt_of k b x.1 in ap (λ p. is_statement p.look) (at_statement p (StmtKind-F.If x.0 y.0 (Some (stmt_of k c y.1).0)))
statement_look (while p e b) h k s = let x = expr_of k e s in ap (λ p. is_statement p.look) (at_statement p (StmtKind-F.While x.0 (stmt_of k b x.1).0))
statement_look (for p a b c d) h k s =
    let x = start_of k a s in let y = optional_of k b x.1 in let z = optional_of k c y.1 in
    ap (λ p. is_statement p.look) (at_statement p (StmtKind-F.For x.0 y.0 z.0 (stmt_of k d z.1).0))
statement_look (return p o) h k s = ap (λ p. is_statement p.look) (at_statement p (StmtKind-F.Return (optional_of k o s).0))
statement_look (jump p jump_word.Break) h k s = ap (λ p. is_statement p.look) (at_statement p (made.jump_kind jump_word.Break))
statement_look (jump p jump_word.Continue) h k s = ap (λ p. is_statement p.look) (at_statement p (made.jump_kind jump_word.Continue))
statement_look (throw p e) h k s = ap (λ p. is_statement p.look) (at_statement p (StmtKind-F.Throw (expr_of k e s).0))
statement_look (try p a m b) h k s = let x = stmt_of k a s in ap (λ p. is_statement p.look) (at_statement p (StmtKind-F.Try x.0 (mark_of m) (stmt_of k b x.1).0))
statement_look (block p ss) h k s = ap (λ p. is_statement p.look) (at_statement p (StmtKind-F.Block (stmts_of k ss s).0))
statement_look (empty p) h k s = ap (λ p. is_statement p.look) (at_statement p StmtKind-F.Empty)

pub statements_look : (ss : Stmts) → AreStatements ss → (k : Tier) (s : Found) → list_all (λ p. is_statement p.look) (map (on_stmt shaping) (stmts_of k ss s).0) ≡ true
unfolding stmts_of
statements_look no_stmts h k s = refl
statements_look (stmts_and ss z) h k s =
    let r = stmts_of k ss s in let x = stmt_of k z r.1 in
    list_all-map (λ (p : Part). is_statement p.look) (on_stmt shaping) (r.0 ++ x.0 ∷ [])
    ∙ list_all_more (λ t. is_statement (on_stmt shaping t).look) r.0 x.0 (sym (list_all-map (λ (p : Part). is_statement p.look) (on_stmt shaping) r.0) ∙ statements_look ss h.0 k s) (statement_look z h.1 k r.1)

pub valued_look : (d : Decl) → HasValue d → (k : Tier) (s : Found) → is_valued (on_decl shaping (decl_made (decl_of k d s).0)).look ≡ true
unfolding decl_of
valued_look (decl_only m) h k s = absurd h
valued_look (decl_as m e) h k s = ap (λ p. is_valued p.look) (at_decl shaping (record { name = mark_of m; value = Some (expr_of k e s).0 }))

pub values_look : (ds : Decls) → HaveValues ds → (k : Tier) (s : Found) → list_all (λ d. is_valued (on_decl shaping (decl_made d)).look) (decls_of k ds s).0 ≡ true
unfolding decls_of
values_look no_decls h k s = refl
values_look (decls_and ds d) h k s =
    let r = decls_of k ds s in list_all_more (λ d. is_valued (on_decl shaping (decl_made d)).look) r.0 (decl_of k d r.1).0 (values_look ds h.0 k s) (valued_look d h.1 k r.1)

child_look : (c : Child) (k : Tier) (s : Found) → is_text (on_markup_child shaping (child_of k c s).0).look ≡ fits.is_text c
unfolding child_of
child_look (child_text m) k s = ap (λ p. is_text p.look) (at_markup_child shaping (MarkupChild-F.MarkupChild::Text (child_text_of m.text)))
child_look (child_direct e) k s = ap (λ p. is_text p.look) (at_markup_child shaping (MarkupChild-F.Direct (expr_of k e s).0))
child_look (child_dollar e) k s = ap (λ p. is_text p.look) (at_markup_child shaping (MarkupChild-F.MarkupChild::Dollar (expr_of tier.Server e s).0))

abbrev parts_of : Tier → Children → Found → List Part
parts_of k cs s = map (on_markup_child shaping) (children_of k cs s).0

last_look : (cs : Children) (k : Tier) (s : Found) → last_is_text (parts_of k cs s) ≡ fits.ends_in_text cs
unfolding children_of
last_look no_children k s = refl
last_look (children_and cs c) k s =
    let r = children_of k cs s in let x = child_of k c r.1 in
    ap last_is_text (map-append (on_markup_child shaping) r.0 (x.0 ∷ [])) ∙ last_more (map (on_markup_child shaping) r.0) (on_markup_child shaping x.0) ∙ child_look c k r.1

pub apart_look : (cs : Children) → fits.AreApart cs → (k : Tier) (s : Found) → texts_apart (parts_of k cs s) ≡ true
unfolding children_of
apart_look no_children h k s = refl
apart_look (children_and cs c) h k s =
    let r = children_of k cs s in let x = child_of k c r.1 in
    let apart = ap (λ b. b && is_text (on_markup_child shaping x.0).look) (last_look cs k s) ∙ ap (λ b. fits.ends_in_text cs && b) (child_look c k r.1) ∙ h.1 in
    ap texts_apart (map-append (on_markup_child shaping) r.0 (x.0 ∷ [])) ∙ apart_more (map (on_markup_child shaping) r.0) (on_markup_child shaping x.0) (apart_look cs h.0 k s) apart

pub some_child : (cs : Children) (k : Tier) (s : Found) → is_some_item (parts_of k cs s) ≡ fits.has_child cs
unfolding children_of
some_child no_children k s = refl
some_child (children_and cs c) k s = let r = children_of k cs s in some_item (on_markup_child shaping) r.0 (child_of k c r.1).0

pub some_decl : (ds : Decls) → fits.IsSomeDecl ds → (k : Tier) (s : Found) → is_some_item (map (λ d. on_decl shaping (decl_made d)) (decls_of k ds s).0) ≡ true
unfolding decls_of
some_decl no_decls h k s = absurd h
some_decl (decls_and ds d) h k s = let r = decls_of k ds s in some_item (λ d. on_decl shaping (decl_made d)) r.0 (decl_of k d r.1).0
