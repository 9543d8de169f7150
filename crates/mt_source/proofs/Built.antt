-- Where each text of a spelled tree has at most a number of bytes, each text of its program has at most as many units of UTF-16.
use Rattle.std.proofs.Common.{ℕ, ◌≤◌, List, map, Option}
use Rattle.std.proofs.Math.Nat.{max-le}
use Rattle.mt_syntax.specs.Depth.{greatest}
use Rattle.mt_syntax.specs.declared.tree.Mark.{Mark}
use Rattle.mt_syntax.specs.declared.tree.MarkupChild.{MarkupChild}
use Rattle.mt_syntax.specs.declared.tree.MarkupValue.{MarkupValue}
use Rattle.mt_syntax.specs.declared.tree.Expr as syntax_expr
use Rattle.mt_grammar.specs.Tree.{heading_of, Key, Expr, name, number, text, property, constant, array, object, function, unary, step, operation, condition, assign, index, call, tilde, dollar, element, Exprs, no_exprs, exprs_and, Props, no_props, props_and, Attribute, attribute_plain, attribute_quoted, attribute_tilde, attribute_dollar, Attributes, no_attributes, attributes_and, Child, child_text, child_direct, child_dollar, Children, no_children, children_and, Decl, decl_only, decl_as, Decls, no_decls, decls_and, Optional, absent, present, Start, start_optional, start_vars, Stmt, expression, var, declare, if_only, if_else, while, for, return, jump, throw, try, block, empty, Stmts, no_stmts, stmts_and}
use Rattle.mt_parser_builder.specs.declared.tier.Tier.{Tier}
use Rattle.mt_parser_builder.specs.declared.tier.Tier.TheVariants as tier
use Rattle.mt_parser_builder.specs.Found.{Found, within}
use Rattle.mt_parser_builder.specs.Program.{name_of_title, names_of, key_of, attribute_name, prop_of, attribute_of, decl_made, expr_of, exprs_of, props_of, value_of, attributes_of, child_of, children_of, decl_of, decls_of, optional_of, start_of, stmt_of, stmts_of, nothing_found, program_of}
use Rattle.mt_parser_builder.specs.Syntax as made
use Rattle.mt_syntax.specs.Texts.{longest_text}
use Rattle.mt_source.proofs.Bounds.{least, and_last, and_last_made}
use Rattle.mt_source.proofs.Marks.{ShortExpr, ShortExprs, ShortProps, ShortAttribute, ShortAttributes, ShortChild, ShortChildren, ShortDecl, ShortDecls, ShortOptional, ShortStart, ShortStmt, ShortStmts}
use Rattle.mt_source.proofs.Nodes.{in_expr, in_exprs, in_prop, in_value, in_attribute, in_child, in_decl, in_optional, in_start, in_stmt, in_stmts, expr_node, stmt_node, start_node, value_node, child_node, decl_node, prop_node, attribute_node, function_node, markup_node}
use Rattle.mt_source.proofs.Parts.{name_fits, text_fits, quoted_fits, child_text_fits, title_fits, names_fit, key_fits, attribute_name_fits, constant_fits, operation_fits, jump_fits, declared_fits, start_fits, return_fits, for_fits}
use Rattle.mt_source.proofs.Kept.{Kept, Fits, nothing_kept, tilde_fits, dollar_fits}

abbrev in_props : List (Key × syntax_expr.Expr) → ℕ
in_props ps = greatest (map in_prop (map prop_of ps))

abbrev in_attributes : List (Mark × MarkupValue) → ℕ
in_attributes ats = greatest (map in_attribute (map attribute_of ats))

abbrev in_children : List MarkupChild → ℕ
in_children cs = greatest (map in_child cs)

abbrev in_decl_parts : Mark × Option syntax_expr.Expr → ℕ
in_decl_parts d = in_decl (decl_made d)

abbrev in_decls : List (Mark × Option syntax_expr.Expr) → ℕ
in_decls ds = greatest (map in_decl (map decl_made ds))

module _ (limit : ℕ) where
  mutual
    unfolding expr_of

    expr_fits : (k : Tier) (e : Expr) (s : Found) → ShortExpr limit e → Kept limit s → Fits limit in_expr (expr_of k e s)
    expr_fits k (name m) s h f = (expr_node limit m.place _ (name_fits limit m h), f)
    expr_fits k (number m) s h f = (expr_node limit m.place _ (least limit), f)
    expr_fits k (text m) s h f = (expr_node limit m.place _ (text_fits limit m h), f)
    expr_fits k (property m) s h f = (expr_node limit m.place _ (name_fits limit m h), f)
    expr_fits k (constant p c) s h f = (constant_fits limit p c, f)
    expr_fits k (array p es) s h f = let x = exprs_fit k es s h f in (expr_node limit p _ x.0, x.1)
    expr_fits k (object p ps) s h f = let x = props_fit k ps s h f in (expr_node limit p _ x.0, x.1)
    expr_fits k (function p t ns ss) s h f =
        let x = stmts_fit k ss s h.2 f in
        (expr_node limit p _ (function_node limit (name_of_title t) (names_of ns) (stmts_of k ss s).0 (max-le (title_fits limit t h.0) (max-le (names_fit limit ns h.1) x.0))), x.1)
    expr_fits k (unary p u a) s h f = let x = expr_fits k a s h f in (expr_node limit p _ x.0, x.1)
    expr_fits k (step p d a) s h f = let x = expr_fits k a s h f in (expr_node limit p _ x.0, x.1)
    expr_fits k (operation p o a b) s h f =
        let x = expr_fits k a s h.0 f in let y = expr_fits k b (expr_of k a s).1 h.1 x.1 in (operation_fits limit p o (expr_of k a s).0 (expr_of k b (expr_of k a s).1).0 x.0 y.0, y.1)
    expr_fits k (condition p a b c) s h f =
        let x = expr_fits k a s h.0 f in let y = expr_fits k b (expr_of k a s).1 h.1 x.1 in let z = expr_fits k c (expr_of k b (expr_of k a s).1).1 h.2 y.1 in
        (expr_node limit p _ (max-le x.0 (max-le y.0 z.0)), z.1)
    expr_fits k (assign p o a b) s h f = let x = expr_fits k a s h.0 f in let y = expr_fits k b (expr_of k a s).1 h.1 x.1 in (expr_node limit p _ (max-le x.0 y.0), y.1)
    expr_fits k (index p a b) s h f = let x = expr_fits k a s h.0 f in let y = expr_fits k b (expr_of k a s).1 h.1 x.1 in (expr_node limit p _ (max-le x.0 y.0), y.1)
    expr_fits k (call p a es) s h f = let x = expr_fits k a s h.0 f in let y = exprs_fit k es (expr_of k a s).1 h.1 x.1 in (expr_node limit p _ (max-le x.0 y.0), y.1)
    expr_fits k (tilde p ss) s h f = tilde_fits limit p s (stmts_of tier.Client ss (within s)) f (stmts_fit tier.Client ss (within s) h (nothing_kept limit (within s).before))
    expr_fits k (dollar p e) s h f = dollar_fits limit k p (expr_of tier.Server e s) (expr_fits tier.Server e s h f)
    expr_fits k (element m ats cs) s h f =
        let x = attributes_fit k ats s h.1 f in let y = children_fit k cs (attributes_of k ats s).1 h.2 x.1 in
        (expr_node limit m.place _ (markup_node limit _ _ _ (max-le (name_fits limit m h.0) (max-le x.0 y.0))), y.1)

    exprs_fit : (k : Tier) (es : Exprs) (s : Found) → ShortExprs limit es → Kept limit s → Fits limit in_exprs (exprs_of k es s)
    exprs_fit k no_exprs s h f = (least limit, f)
    exprs_fit k (exprs_and es e) s h f =
        let x = exprs_fit k es s h.0 f in let y = expr_fits k e (exprs_of k es s).1 h.1 x.1 in (and_last in_expr limit (exprs_of k es s).0 (expr_of k e (exprs_of k es s).1).0 x.0 y.0, y.1)

    props_fit : (k : Tier) (ps : Props) (s : Found) → ShortProps limit ps → Kept limit s → Fits limit in_props (props_of k ps s)
    props_fit k no_props s h f = (least limit, f)
    props_fit k (props_and ps key e) s h f =
        let x = props_fit k ps s h.0 f in let y = expr_fits k e (props_of k ps s).1 h.2 x.1 in let value = (expr_of k e (props_of k ps s).1).0 in
        (and_last_made in_prop limit prop_of (props_of k ps s).0 (key, value) x.0 (prop_node limit (key_of key) value (max-le (key_fits limit key h.1) y.0)), y.1)

    value_fits : (k : Tier) (a : Attribute) (s : Found) → ShortAttribute limit a → Kept limit s → Fits limit in_value (value_of k a s)
    value_fits k (attribute_plain m) s h f = (value_node limit _ (least limit), f)
    value_fits k (attribute_quoted m v) s h f = (value_node limit _ (quoted_fits limit v h.1), f)
    value_fits k (attribute_tilde m e) s h f = let x = expr_fits k e s h.1 f in (value_node limit _ x.0, x.1)
    value_fits k (attribute_dollar m e) s h f = let x = expr_fits tier.Server e s h.1 f in (value_node limit _ x.0, x.1)

    attributes_fit : (k : Tier) (ats : Attributes) (s : Found) → ShortAttributes limit ats → Kept limit s → Fits limit in_attributes (attributes_of k ats s)
    attributes_fit k no_attributes s h f = (least limit, f)
    attributes_fit k (attributes_and ats a) s h f =
        let x = attributes_fit k ats s h.0 f in let y = value_fits k a (attributes_of k ats s).1 h.1 x.1 in let value = (value_of k a (attributes_of k ats s).1).0 in
        (and_last_made in_attribute limit attribute_of (attributes_of k ats s).0 (attribute_name a, value) x.0 (attribute_node limit (attribute_name a) value (max-le (attribute_name_fits limit a h.1) y.0)), y.1)

    child_fits : (k : Tier) (c : Child) (s : Found) → ShortChild limit c → Kept limit s → Fits limit in_child (child_of k c s)
    child_fits k (child_text m) s h f = (child_node limit _ (child_text_fits limit m h), f)
    child_fits k (child_direct e) s h f = let x = expr_fits k e s h f in (child_node limit _ x.0, x.1)
    child_fits k (child_dollar e) s h f = let x = expr_fits tier.Server e s h f in (child_node limit _ x.0, x.1)

    children_fit : (k : Tier) (cs : Children) (s : Found) → ShortChildren limit cs → Kept limit s → Fits limit in_children (children_of k cs s)
    children_fit k no_children s h f = (least limit, f)
    children_fit k (children_and cs c) s h f =
        let x = children_fit k cs s h.0 f in let y = child_fits k c (children_of k cs s).1 h.1 x.1 in (and_last in_child limit (children_of k cs s).0 (child_of k c (children_of k cs s).1).0 x.0 y.0, y.1)

    decl_fits : (k : Tier) (d : Decl) (s : Found) → ShortDecl limit d → Kept limit s → Fits limit in_decl_parts (decl_of k d s)
    decl_fits k (decl_only m) s h f = (decl_node limit (made.mark_of m) _ (max-le (name_fits limit m h) (least limit)), f)
    decl_fits k (decl_as m e) s h f = let x = expr_fits k e s h.1 f in (decl_node limit (made.mark_of m) _ (max-le (name_fits limit m h.0) x.0), x.1)

    decls_fit : (k : Tier) (ds : Decls) (s : Found) → ShortDecls limit ds → Kept limit s → Fits limit in_decls (decls_of k ds s)
    decls_fit k no_decls s h f = (least limit, f)
    decls_fit k (decls_and ds d) s h f =
        let x = decls_fit k ds s h.0 f in let y = decl_fits k d (decls_of k ds s).1 h.1 x.1 in (and_last_made in_decl limit decl_made (decls_of k ds s).0 (decl_of k d (decls_of k ds s).1).0 x.0 y.0, y.1)

    optional_fits : (k : Tier) (o : Optional) (s : Found) → ShortOptional limit o → Kept limit s → Fits limit in_optional (optional_of k o s)
    optional_fits k absent s h f = (least limit, f)
    optional_fits k (present e) s h f = expr_fits k e s h f

    starts_fit : (k : Tier) (a : Start) (s : Found) → ShortStart limit a → Kept limit s → Fits limit in_start (start_of k a s)
    starts_fit k (start_optional o) s h f = let x = optional_fits k o s h f in (start_fits limit (optional_of k o s).0 x.0, x.1)
    starts_fit k (start_vars ds) s h f = let x = decls_fit k ds s h f in (start_node limit _ x.0, x.1)

    stmt_fits : (k : Tier) (t : Stmt) (s : Found) → ShortStmt limit t → Kept limit s → Fits limit in_stmt (stmt_of k t s)
    stmt_fits k (expression p e) s h f = let x = expr_fits k e s h f in (stmt_node limit p _ x.0, x.1)
    stmt_fits k (var p d ds) s h f = let x = decls_fit k ds s h f in (stmt_node limit p _ x.0, x.1)
    stmt_fits k (declare p t ns ss) s h f =
        let x = stmts_fit k ss s h.2 f in
        (declared_fits limit p (heading_of t) _ (function_node limit (name_of_title t) (names_of ns) (stmts_of k ss s).0 (max-le (title_fits limit t h.0) (max-le (names_fit limit ns h.1) x.0))), x.1)
    stmt_fits k (if_only p e b) s h f = let x = expr_fits k e s h.0 f in let y = stmt_fits k b (expr_of k e s).1 h.1 x.1 in (stmt_node limit p _ (max-le x.0 (max-le y.0 (least limit))), y.1)
    stmt_fits k (if_else p e b c) s h f =
        let x = expr_fits k e s h.0 f in let y = stmt_fits k b (expr_of k e s).1 h.1 x.1 in let z = stmt_fits k c (stmt_of k b (expr_of k e s).1).1 h.2 y.1 in
        (stmt_node limit p _ (max-le x.0 (max-le y.0 z.0)), z.1)
    stmt_fits k (while p e b) s h f = let x = expr_fits k e s h.0 f in let y = stmt_fits k b (expr_of k e s).1 h.1 x.1 in (stmt_node limit p _ (max-le x.0 y.0), y.1)
    stmt_fits k (for p a b c d) s h f =
        let x = starts_fit k a s h.0 f in let y = optional_fits k b (start_of k a s).1 h.1 x.1 in
        let z = optional_fits k c (optional_of k b (start_of k a s).1).1 h.2 y.1 in
        let w = stmt_fits k d (optional_of k c (optional_of k b (start_of k a s).1).1).1 h.3 z.1 in (for_fits limit p _ _ _ _ x.0 y.0 z.0 w.0, w.1)
    stmt_fits k (return p o) s h f = let x = optional_fits k o s h f in (return_fits limit p _ x.0, x.1)
    stmt_fits k (jump p j) s h f = (jump_fits limit p j, f)
    stmt_fits k (throw p e) s h f = let x = expr_fits k e s h f in (stmt_node limit p _ x.0, x.1)
    stmt_fits k (try p a m b) s h f =
        let x = stmt_fits k a s h.0 f in let y = stmt_fits k b (stmt_of k a s).1 h.2 x.1 in (stmt_node limit p _ (max-le (name_fits limit m h.1) (max-le x.0 y.0)), y.1)
    stmt_fits k (block p ss) s h f = let x = stmts_fit k ss s h f in (stmt_node limit p _ x.0, x.1)
    stmt_fits k (empty p) s h f = (stmt_node limit p _ (least limit), f)

    stmts_fit : (k : Tier) (ss : Stmts) (s : Found) → ShortStmts limit ss → Kept limit s → Fits limit in_stmts (stmts_of k ss s)
    stmts_fit k no_stmts s h f = (least limit, f)
    stmts_fit k (stmts_and ss t) s h f =
        let x = stmts_fit k ss s h.0 f in let y = stmt_fits k t (stmts_of k ss s).1 h.1 x.1 in (and_last in_stmt limit (stmts_of k ss s).0 (stmt_of k t (stmts_of k ss s).1).0 x.0 y.0, y.1)

  pub program_fits : (ss : Stmts) → ShortStmts limit ss → longest_text (program_of ss) ≤ limit
  program_fits ss h = let x = stmts_fit tier.Server ss nothing_found h (nothing_kept limit 0) in max-le x.0 x.1.tildes
