-- The tree, built from its nodes.
use Rattle.std.specs.Prelude.{ℕ, zero, suc, List, [], ◌∷◌, Option, Some, None, option_and_then}
use Rattle.mt_grammar.specs.declared.terminal.Heading.{Heading}
use Rattle.mt_grammar.specs.declared.terminal.Heading.TheVariants as heading
use Rattle.mt_tree.specs.declared.place.Place.{Place}
use Rattle.mt_grammar.specs.Tree.{Mark, Title, a_service, a_declaration, a_named_expression, an_expression, plain, quoted, Names, no_names, names_and, Expr, name, number, text, property, constant, array, object, function, unary, step, operation, condition, assign, index, call, tilde, dollar, element, Exprs, no_exprs, exprs_and, Props, no_props, props_and, Attribute, attribute_plain, attribute_quoted, attribute_tilde, attribute_dollar, Attributes, no_attributes, attributes_and, Child, child_text, child_direct, child_dollar, Children, no_children, children_and, Decl, decl_only, decl_as, Decls, no_decls, decls_and, Optional, absent, present, Start, start_optional, start_vars, Stmt, expression, var, declare, if_only, if_else, while, for, return, jump, throw, try, block, empty, Stmts, no_stmts, stmts_and}
use Rattle.mt_grammar.specs.Nodes.{Node, Nodes}
use Rattle.mt_grammar.specs.Nodes as n

pub data Value : Type 0 where
  of_expr : Expr → Value
  of_stmt : Stmt → Value
  of_word : Mark → Value
  of_quoted : Mark → Value
  of_attribute : Attribute → Value
  of_child : Child → Value
  of_decl : Decl → Value
  of_optional : Optional → Value
  of_start : Start → Value

abbrev pub Values : Type 0
Values = List Value

-- the last values of a given number, the last one on top

abbrev pub take_exprs : ℕ → Values → Option (Exprs × Values)
take_exprs zero vs = Some (no_exprs, vs)
take_exprs (suc i) (of_expr e ∷ vs) = option_and_then (λ r. Some (exprs_and r.0 e, r.1)) (take_exprs i vs)
take_exprs (suc i) _ = None

abbrev pub take_stmts : ℕ → Values → Option (Stmts × Values)
take_stmts zero vs = Some (no_stmts, vs)
take_stmts (suc i) (of_stmt s ∷ vs) = option_and_then (λ r. Some (stmts_and r.0 s, r.1)) (take_stmts i vs)
take_stmts (suc i) _ = None

abbrev pub take_names : ℕ → Values → Option (Names × Values)
take_names zero vs = Some (no_names, vs)
take_names (suc i) (of_word m ∷ vs) = option_and_then (λ r. Some (names_and r.0 m, r.1)) (take_names i vs)
take_names (suc i) _ = None

abbrev pub take_props : ℕ → Values → Option (Props × Values)
take_props zero vs = Some (no_props, vs)
take_props (suc i) (of_expr e ∷ of_word m ∷ vs) = option_and_then (λ r. Some (props_and r.0 (plain m) e, r.1)) (take_props i vs)
take_props (suc i) (of_expr e ∷ of_quoted m ∷ vs) = option_and_then (λ r. Some (props_and r.0 (quoted m) e, r.1)) (take_props i vs)
take_props (suc i) _ = None

abbrev pub take_attributes : ℕ → Values → Option (Attributes × Values)
take_attributes zero vs = Some (no_attributes, vs)
take_attributes (suc i) (of_attribute a ∷ vs) = option_and_then (λ r. Some (attributes_and r.0 a, r.1)) (take_attributes i vs)
take_attributes (suc i) _ = None

abbrev pub take_children : ℕ → Values → Option (Children × Values)
take_children zero vs = Some (no_children, vs)
take_children (suc i) (of_child c ∷ vs) = option_and_then (λ r. Some (children_and r.0 c, r.1)) (take_children i vs)
take_children (suc i) _ = None

abbrev pub take_decls : ℕ → Values → Option (Decls × Values)
take_decls zero vs = Some (no_decls, vs)
take_decls (suc i) (of_decl d ∷ vs) = option_and_then (λ r. Some (decls_and r.0 d, r.1)) (take_decls i vs)
take_decls (suc i) _ = None

abbrev pub take_title : Heading → Values → Option (Title × Values)
take_title heading.Expression vs = Some (an_expression, vs)
take_title heading.Service (of_word m ∷ vs) = Some (a_service m, vs)
take_title heading.Declaration (of_word m ∷ vs) = Some (a_declaration m, vs)
take_title heading.NamedExpression (of_word m ∷ vs) = Some (a_named_expression m, vs)
take_title _ _ = None

-- the title, the parameters and the statements of a function
abbrev pub take_function : Heading → ℕ → ℕ → Values → Option (Title × Names × Stmts × Values)
take_function h m i vs =
    option_and_then (λ r. option_and_then (λ q. option_and_then (λ u. Some (u.0, q.0, r.0, u.1)) (take_title h q.1)) (take_names m r.1)) (take_stmts i vs)

abbrev pub call_on : Place → Exprs × Values → Option Values
call_on p (es, of_expr e ∷ vs) = Some (of_expr (call p e es) ∷ vs)
call_on p _ = None

abbrev pub element_on : Attributes → Children → Values → Option Values
element_on ats cs (of_word m ∷ vs) = Some (of_expr (element m ats cs) ∷ vs)
element_on ats cs _ = None

abbrev pub apply : Node → Values → Option Values
apply (n.Name m) vs = Some (of_expr (name m) ∷ vs)
apply (n.Number m) vs = Some (of_expr (number m) ∷ vs)
apply (n.Text m) vs = Some (of_expr (text m) ∷ vs)
apply (n.Property m) vs = Some (of_expr (property m) ∷ vs)
apply (n.Constant p c) vs = Some (of_expr (constant p c) ∷ vs)
apply (n.Array p i) vs = option_and_then (λ r. Some (of_expr (array p r.0) ∷ r.1)) (take_exprs i vs)
apply (n.Object p i) vs = option_and_then (λ r. Some (of_expr (object p r.0) ∷ r.1)) (take_props i vs)
apply (n.Function p h m i) vs = option_and_then (λ r. Some (of_expr (function p r.0 r.1 r.2) ∷ r.3)) (take_function h m i vs)
apply (n.Unary p u) (of_expr a ∷ vs) = Some (of_expr (unary p u a) ∷ vs)
apply (n.Step p d) (of_expr a ∷ vs) = Some (of_expr (step p d a) ∷ vs)
apply (n.Operation p o) (of_expr b ∷ of_expr a ∷ vs) = Some (of_expr (operation p o a b) ∷ vs)
apply (n.Condition p) (of_expr d ∷ of_expr b ∷ of_expr a ∷ vs) = Some (of_expr (condition p a b d) ∷ vs)
apply (n.Assign p o) (of_expr e ∷ of_expr a ∷ vs) = Some (of_expr (assign p o a e) ∷ vs)
apply (n.Index p) (of_expr i ∷ of_expr a ∷ vs) = Some (of_expr (index p a i) ∷ vs)
apply (n.Call p i) vs = option_and_then (call_on p) (take_exprs i vs)
apply (n.Tilde p i) vs = option_and_then (λ r. Some (of_expr (tilde p r.0) ∷ r.1)) (take_stmts i vs)
apply (n.Dollar p) (of_expr e ∷ vs) = Some (of_expr (dollar p e) ∷ vs)
apply (n.Element p a c) vs = option_and_then (λ r. option_and_then (λ q. element_on q.0 r.0 q.1) (take_attributes a r.1)) (take_children c vs)
apply (n.Word m) vs = Some (of_word m ∷ vs)
apply (n.QuotedKey m) vs = Some (of_quoted m ∷ vs)
apply (n.AttributeName m) vs = Some (of_attribute (attribute_plain m) ∷ vs)
apply (n.AttributeQuoted v) (of_attribute (attribute_plain m) ∷ vs) = Some (of_attribute (attribute_quoted m v) ∷ vs)
apply n.AttributeTilde (of_expr e ∷ of_attribute (attribute_plain m) ∷ vs) = Some (of_attribute (attribute_tilde m e) ∷ vs)
apply n.AttributeDollar (of_expr e ∷ of_attribute (attribute_plain m) ∷ vs) = Some (of_attribute (attribute_dollar m e) ∷ vs)
apply (n.ChildText m) vs = Some (of_child (child_text m) ∷ vs)
apply n.ChildDirect (of_expr e ∷ vs) = Some (of_child (child_direct e) ∷ vs)
apply n.ChildDollar (of_expr e ∷ vs) = Some (of_child (child_dollar e) ∷ vs)
apply (n.DeclName m) vs = Some (of_decl (decl_only m) ∷ vs)
apply n.DeclValue (of_expr e ∷ of_decl (decl_only m) ∷ vs) = Some (of_decl (decl_as m e) ∷ vs)
apply n.Absent vs = Some (of_optional absent ∷ vs)
apply n.Present (of_expr e ∷ vs) = Some (of_optional (present e) ∷ vs)
apply n.StartOptional (of_optional o ∷ vs) = Some (of_start (start_optional o) ∷ vs)
apply (n.StartVars i) vs = option_and_then (λ r. Some (of_start (start_vars r.0) ∷ r.1)) (take_decls i vs)
apply (n.Expression p) (of_expr e ∷ vs) = Some (of_stmt (expression p e) ∷ vs)
apply (n.Var p d i) vs = option_and_then (λ r. Some (of_stmt (var p d r.0) ∷ r.1)) (take_decls i vs)
apply (n.Declare p h m i) vs = option_and_then (λ r. Some (of_stmt (declare p r.0 r.1 r.2) ∷ r.3)) (take_function h m i vs)
apply (n.If p) (of_stmt s ∷ of_expr e ∷ vs) = Some (of_stmt (if_only p e s) ∷ vs)
apply (n.IfElse p) (of_stmt d ∷ of_stmt s ∷ of_expr e ∷ vs) = Some (of_stmt (if_else p e s d) ∷ vs)
apply (n.While p) (of_stmt s ∷ of_expr e ∷ vs) = Some (of_stmt (while p e s) ∷ vs)
apply (n.For p) (of_stmt s ∷ of_optional c ∷ of_optional b ∷ of_start a ∷ vs) = Some (of_stmt (for p a b c s) ∷ vs)
apply (n.Return p) (of_optional o ∷ vs) = Some (of_stmt (return p o) ∷ vs)
apply (n.Jump p j) vs = Some (of_stmt (jump p j) ∷ vs)
apply (n.Throw p) (of_expr e ∷ vs) = Some (of_stmt (throw p e) ∷ vs)
apply (n.Try p) (of_stmt d ∷ of_word m ∷ of_stmt s ∷ vs) = Some (of_stmt (try p s m d) ∷ vs)
apply (n.Block p i) vs = option_and_then (λ r. Some (of_stmt (block p r.0) ∷ r.1)) (take_stmts i vs)
apply (n.Empty p) vs = Some (of_stmt (empty p) ∷ vs)
apply _ vs = None

abbrev pub built_on : Nodes → Option Values → Option Values
built_on [] r = r
built_on (x ∷ nodes) r = built_on nodes (option_and_then (apply x) r)

-- the values that these nodes leave, the last one on top
unfoldable pub built : Nodes → Option Values
built nodes = built_on nodes (Some [])

-- the statements of a program as values
abbrev pub of_stmts : Stmts → Values
of_stmts no_stmts = []
of_stmts (stmts_and ss s) = of_stmt s ∷ of_stmts ss
