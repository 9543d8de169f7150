-- What the stack stands for: the parts of a derivation that end where the machine stands.
use Rattle.std.proofs.Common.{◌≡◌, nat_eq, ◌+◌, ◌≤◌, Bool, true, false, List, [], ◌∷◌, ◌++◌, Some, None, Option}
use Rattle.mt_tree.specs.declared.place.Place.{Place}
use Rattle.mt_tree.specs.Tables.{is_void_tag}
use Rattle.mt_tree.specs.declared.operators.Binary.{Binary}
use Rattle.mt_tree.specs.declared.operators.Unary.{Unary}
use Rattle.mt_tree.specs.declared.operators.VarKind.{VarKind}
use Rattle.mt_tree.specs.declared.operators.VarKind.TheVariants as var_kind
use Rattle.mt_grammar.specs.declared.terminal.Declaration.{Declaration}
use Rattle.mt_grammar.specs.declared.terminal.Declaration.TheVariants as declaration
use Rattle.mt_grammar.specs.declared.terminal.Heading.{Heading}
use Rattle.mt_grammar.specs.declared.terminal.Heading.TheVariants as heading
use Rattle.mt_grammar.specs.declared.terminal.Infix.{Infix}
use Rattle.mt_grammar.specs.declared.terminal.Jump.{Jump}
use Rattle.mt_grammar.specs.declared.terminal.StepSign.{StepSign}
use Rattle.mt_grammar.specs.declared.terminal.Terminal.{Terminal}
use Rattle.mt_grammar.specs.declared.terminal.Terminal.TheVariants as k
use Rattle.mt_grammar.specs.Token.{Token, Tokens, place_of, terminal, open_name}
use Rattle.mt_grammar.specs.Tree.{Title, a_service, a_declaration, a_named_expression, heading_of, Key, Names, names_count, Expr, Exprs, no_exprs, exprs_count, Props, no_props, props_count, Attributes, attributes_count, Children, children_count, Decls, no_decls, decls_count, Optional, Start, Stmt, Stmts, stmts_count, is_target}
use Rattle.mt_grammar.specs.Nodes.{Nodes, names_nodes, title_nodes, key_node, expr_nodes, exprs_nodes, props_nodes, attributes_nodes, children_nodes, decls_nodes, optional_nodes, start_nodes, stmt_nodes, stmts_nodes}
use Rattle.mt_grammar.specs.Nodes as n
use Rattle.mt_grammar.specs.Stack.{Level, Focus}
use Rattle.mt_grammar.specs.Stack as f
use Rattle.mt_grammar.specs.Grammar.{mark, tag_mark, precedence_of, sign_of, step_before, step_after, begins_expression, begins_single, First, is_expression, ReadsNames, Parameters, Head, IsKey, Reads, ReadsList, ReadsProps, ReadsAttributes, ReadsChildren, ReadsDecls, ReadsOptional, ReadsStart, ReadsBlock, ReadsBody, ReadsStmt, ReadsStmts, ReadsItem, ReadsItems}
use Rattle.mt_grammar.specs.Machine.{Next, awaits_at, kind_of}

pub data Want : Type 0 where
  an_item : Want
  a_statement : Want
  a_body : Want
  a_block : Want
  a_value : Want
  a_word : Want
  -- the token that shows that the operator is finished
  an_end : Want

abbrev pub wants : Level → Want
wants (f.Program c) = an_item
wants (f.FunctionBody h p m c) = an_item
wants (f.Tilde p c) = an_item
wants (f.Block p c) = a_statement
wants (f.Single p) = a_statement
wants (f.IfThen p) = a_body
wants (f.IfElse p) = a_body
wants (f.WhileBody p) = a_body
wants (f.ForBody p) = a_body
wants (f.TryBlock p) = a_block
wants (f.CatchBlock p) = a_block
wants (f.IfTest p) = a_value
wants (f.WhileTest p) = a_value
wants (f.ForStart p) = a_value
wants (f.ForTest p) = a_value
wants (f.ForStep p) = a_value
wants (f.DeclValue d p c) = a_value
wants (f.Return p) = a_value
wants (f.Throw p) = a_value
wants (f.Expression p) = a_value
wants (f.Paren p) = a_value
wants (f.Operation o s) = a_value
wants (f.Unary u p) = a_value
wants (f.StepBefore d p) = a_value
wants (f.StepAfter d s) = an_end
wants (f.Assign o s) = a_value
wants (f.CondTest s) = a_value
wants (f.CondElse s) = a_value
wants (f.Index s) = a_value
wants (f.Arguments s c) = a_value
wants (f.Array p c) = a_value
wants (f.ObjectValue p c) = a_value
wants (f.Dollar p) = a_value
wants _ = a_word

-- a statement can stand here
abbrev pub takes_stmt : Want → Bool
takes_stmt an_item = true
takes_stmt a_statement = true
takes_stmt _ = false

-- a block can stand here
abbrev pub takes_block : Want → Bool
takes_block an_item = true
takes_block a_statement = true
takes_block a_body = true
takes_block a_block = true
takes_block _ = false

abbrev pub is_value : Want → Bool
is_value a_value = true
is_value _ = false

-- a tilde or a dollar can stand here
abbrev pub holds_code : Level → Bool
holds_code (f.AttributeValue m a) = true
holds_code (f.Children m a c) = true
holds_code x = is_value (wants x)

-- an element can stand here
abbrev pub holds_element : Level → Bool
holds_element (f.Children m a c) = true
holds_element x = is_value (wants x)

-- what stands where an expression can be left out
abbrev pub leaves_out : Level → Bool
leaves_out (f.Arguments s c) = nat_eq c 0
leaves_out (f.Array p c) = true
leaves_out (f.ForStart p) = true
leaves_out (f.ForTest p) = true
leaves_out (f.ForStep p) = true
leaves_out (f.Return p) = true
leaves_out _ = false

-- where a function of that heading can stand
abbrev pub head_wants : Heading → Want
head_wants heading.Service = an_item
head_wants heading.Declaration = an_item
head_wants heading.NamedExpression = a_value
head_wants heading.Expression = a_value

abbrev pub head_word : Heading → Terminal
head_word heading.Service = k.Service
head_word _ = k.Function

-- the word and the name of a function
pub data Named : Title → Token → Token → Type 0 where
  n_service : {w m : Token} → terminal w ≡ k.Service → terminal m ≡ k.Name → Named (a_service (mark m)) w m
  n_declaration : {w m : Token} → terminal w ≡ k.Function → terminal m ≡ k.Name → Named (a_declaration (mark m)) w m
  n_expression : {w m : Token} → terminal w ≡ k.Function → terminal m ≡ k.Name → Named (a_named_expression (mark m)) w m

-- rows with a comma behind each item, or none
pub data SomeExprs : Tokens → Tokens → Exprs → Type 0 where
  no_expr : {ts : Tokens} → SomeExprs ts ts no_exprs
  some_exprs : {list ts : Tokens} {c : Token} {es : Exprs} → ReadsList list (c ∷ ts) es → terminal c ≡ k.Comma → SomeExprs list ts es

pub data SomeProps : Tokens → Tokens → Props → Type 0 where
  no_prop : {ts : Tokens} → SomeProps ts ts no_props
  some_props : {list ts : Tokens} {c : Token} {ps : Props} → ReadsProps list (c ∷ ts) ps → terminal c ≡ k.Comma → SomeProps list ts ps

pub data SomeDecls : VarKind → Tokens → Tokens → Decls → Type 0 where
  no_decl : {d : VarKind} {ts : Tokens} → SomeDecls d ts ts no_decls
  some_decls : {d : VarKind} {list ts : Tokens} {c : Token} {ds : Decls} → ReadsDecls d list (c ∷ ts) ds → terminal c ≡ k.Comma → SomeDecls d list ts ds

-- where declarations begin, with the place of the statement
pub data DeclsBegin : Declaration → Place → Tokens → Tokens → Type 0 where
  in_statement : {d : VarKind} {v : Token} {list : Tokens} → terminal v ≡ k.Declare d → DeclsBegin (declaration.Statement d) v.place (v ∷ list) list
  in_for : {i o v : Token} {list : Tokens} → terminal i ≡ k.For → terminal o ≡ k.Open → terminal v ≡ k.Declare var_kind.Var → DeclsBegin declaration.ForStart i.place (i ∷ o ∷ v ∷ list) list

module _ (all : Tokens) where
  -- From the start of the tokens up to ts, these levels are open, and these nodes are finished.
  pub data Open : List Level → Nodes → Tokens → Type 0 where
    o_program : {ts : Tokens} {ss : Stmts} → ReadsItems all ts ss → Open (f.Program (stmts_count ss) ∷ []) (stmts_nodes ss []) ts
    o_block : {x : Level} {fs : List Level} {out : Nodes} {o : Token} {mid ts : Tokens} {ss : Stmts} → Open (x ∷ fs) out (o ∷ mid) → takes_block (wants x) ≡ true → terminal o ≡ k.OpenBrace
        → ReadsStmts mid ts ss → Open (f.Block o.place (stmts_count ss) ∷ x ∷ fs) (stmts_nodes ss out) ts
    o_body : {x : Level} {fs : List Level} {out : Nodes} {h : Title} {o : Token} {begin list mid ts : Tokens} {ns : Names} {ss : Stmts} → Open (x ∷ fs) out begin → wants x ≡ head_wants (heading_of h)
        → Head h begin list → Parameters list (o ∷ mid) ns → terminal o ≡ k.OpenBrace → ReadsItems mid ts ss
        → Open (f.FunctionBody (heading_of h) (place_of begin) (names_count ns) (stmts_count ss) ∷ x ∷ fs) (stmts_nodes ss (names_nodes ns (title_nodes h out))) ts
    o_tilde : {x : Level} {fs : List Level} {out : Nodes} {o : Token} {mid ts : Tokens} {ss : Stmts} → Open (x ∷ fs) out (o ∷ mid) → holds_code x ≡ true → terminal o ≡ k.TildeOpen → ReadsItems mid ts ss
        → Open (f.Tilde o.place (stmts_count ss) ∷ x ∷ fs) (stmts_nodes ss out) ts
    o_single : {x : Level} {fs : List Level} {out : Nodes} {ts : Tokens} → Open (x ∷ fs) out ts → wants x ≡ a_body → First begins_single ts → Open (f.Single (place_of ts) ∷ x ∷ fs) out ts
    o_if_open : {x : Level} {fs : List Level} {out : Nodes} {i : Token} {ts : Tokens} → Open (x ∷ fs) out (i ∷ ts) → takes_stmt (wants x) ≡ true → terminal i ≡ k.If → Open (f.IfOpen i.place ∷ x ∷ fs) out ts
    o_if_test : {x : Level} {fs : List Level} {out : Nodes} {i o : Token} {ts : Tokens} → Open (x ∷ fs) out (i ∷ o ∷ ts) → takes_stmt (wants x) ≡ true → terminal i ≡ k.If → terminal o ≡ k.Open
        → Open (f.IfTest i.place ∷ x ∷ fs) out ts
    o_if_then : {x : Level} {fs : List Level} {out : Nodes} {i o c : Token} {mid ts : Tokens} {e : Expr} → Open (x ∷ fs) out (i ∷ o ∷ mid) → takes_stmt (wants x) ≡ true → terminal i ≡ k.If → terminal o ≡ k.Open
        → Reads 0 mid (c ∷ ts) e → terminal c ≡ k.Close → Open (f.IfThen i.place ∷ x ∷ fs) (expr_nodes e out) ts
    o_if_else : {x : Level} {fs : List Level} {out : Nodes} {i o c w : Token} {mid body ts : Tokens} {e : Expr} {s : Stmt} → Open (x ∷ fs) out (i ∷ o ∷ mid) → takes_stmt (wants x) ≡ true → terminal i ≡ k.If
        → terminal o ≡ k.Open → Reads 0 mid (c ∷ body) e → terminal c ≡ k.Close → ReadsBody body (w ∷ ts) s → terminal w ≡ k.Else → Open (f.IfElse i.place ∷ x ∷ fs) (stmt_nodes s (expr_nodes e out)) ts
    o_while_open : {x : Level} {fs : List Level} {out : Nodes} {i : Token} {ts : Tokens} → Open (x ∷ fs) out (i ∷ ts) → takes_stmt (wants x) ≡ true → terminal i ≡ k.While → Open (f.WhileOpen i.place ∷ x ∷ fs) out ts
    o_while_test : {x : Level} {fs : List Level} {out : Nodes} {i o : Token} {ts : Tokens} → Open (x ∷ fs) out (i ∷ o ∷ ts) → takes_stmt (wants x) ≡ true → terminal i ≡ k.While → terminal o ≡ k.Open
        → Open (f.WhileTest i.place ∷ x ∷ fs) out ts
    o_while_body : {x : Level} {fs : List Level} {out : Nodes} {i o c : Token} {mid ts : Tokens} {e : Expr} → Open (x ∷ fs) out (i ∷ o ∷ mid) → takes_stmt (wants x) ≡ true → terminal i ≡ k.While → terminal o ≡ k.Open
        → Reads 0 mid (c ∷ ts) e → terminal c ≡ k.Close → Open (f.WhileBody i.place ∷ x ∷ fs) (expr_nodes e out) ts
    o_for_open : {x : Level} {fs : List Level} {out : Nodes} {i : Token} {ts : Tokens} → Open (x ∷ fs) out (i ∷ ts) → takes_stmt (wants x) ≡ true → terminal i ≡ k.For → Open (f.ForOpen i.place ∷ x ∷ fs) out ts
    o_for_start : {x : Level} {fs : List Level} {out : Nodes} {i o : Token} {ts : Tokens} → Open (x ∷ fs) out (i ∷ o ∷ ts) → takes_stmt (wants x) ≡ true → terminal i ≡ k.For → terminal o ≡ k.Open
        → Open (f.ForStart i.place ∷ x ∷ fs) out ts
    o_for_test : {x : Level} {fs : List Level} {out : Nodes} {i o : Token} {one ts : Tokens} {a : Start} → Open (x ∷ fs) out (i ∷ o ∷ one) → takes_stmt (wants x) ≡ true → terminal i ≡ k.For → terminal o ≡ k.Open
        → ReadsStart one ts a → Open (f.ForTest i.place ∷ x ∷ fs) (start_nodes a out) ts
    o_for_step : {x : Level} {fs : List Level} {out : Nodes} {i o : Token} {one two ts : Tokens} {a : Start} {b : Optional} → Open (x ∷ fs) out (i ∷ o ∷ one) → takes_stmt (wants x) ≡ true → terminal i ≡ k.For
        → terminal o ≡ k.Open → ReadsStart one two a → ReadsOptional k.Semicolon two ts b → Open (f.ForStep i.place ∷ x ∷ fs) (optional_nodes b (start_nodes a out)) ts
    o_for_body : {x : Level} {fs : List Level} {out : Nodes} {i o : Token} {one two three ts : Tokens} {a : Start} {b c : Optional} → Open (x ∷ fs) out (i ∷ o ∷ one) → takes_stmt (wants x) ≡ true
        → terminal i ≡ k.For → terminal o ≡ k.Open → ReadsStart one two a → ReadsOptional k.Semicolon two three b → ReadsOptional k.Close three ts c
        → Open (f.ForBody i.place ∷ x ∷ fs) (optional_nodes c (optional_nodes b (start_nodes a out))) ts
    o_decl_name : {x : Level} {fs : List Level} {out : Nodes} {d : Declaration} {p : Place} {begin list ts : Tokens} {ds : Decls} → Open (x ∷ fs) out begin → takes_stmt (wants x) ≡ true → DeclsBegin d p begin list
        → SomeDecls (kind_of d) list ts ds → Open (f.DeclName d p (decls_count ds) ∷ x ∷ fs) (decls_nodes ds out) ts
    o_decl_next : {x : Level} {fs : List Level} {out : Nodes} {d : Declaration} {p : Place} {begin list ts : Tokens} {t : Token} {ds : Decls} → Open (x ∷ fs) out begin → takes_stmt (wants x) ≡ true
        → DeclsBegin d p begin list → SomeDecls (kind_of d) list (t ∷ ts) ds → terminal t ≡ k.Name → Open (f.DeclNext d p (decls_count ds + 1) ∷ x ∷ fs) (decls_nodes ds out ++ n.DeclName (mark t) ∷ []) ts
    o_decl_value : {x : Level} {fs : List Level} {out : Nodes} {d : Declaration} {p : Place} {begin list ts : Tokens} {t z : Token} {ds : Decls} → Open (x ∷ fs) out begin → takes_stmt (wants x) ≡ true
        → DeclsBegin d p begin list → SomeDecls (kind_of d) list (t ∷ z ∷ ts) ds → terminal t ≡ k.Name → terminal z ≡ k.Assign None
        → Open (f.DeclValue d p (decls_count ds + 1) ∷ x ∷ fs) (decls_nodes ds out ++ n.DeclName (mark t) ∷ []) ts
    o_return : {x : Level} {fs : List Level} {out : Nodes} {t : Token} {ts : Tokens} → Open (x ∷ fs) out (t ∷ ts) → takes_stmt (wants x) ≡ true → terminal t ≡ k.Return → Open (f.Return t.place ∷ x ∷ fs) out ts
    o_jump : {x : Level} {fs : List Level} {out : Nodes} {t : Token} {ts : Tokens} (j : Jump) → Open (x ∷ fs) out (t ∷ ts) → takes_stmt (wants x) ≡ true → terminal t ≡ k.Jump j → Open (f.Jump t.place j ∷ x ∷ fs) out ts
    o_throw : {x : Level} {fs : List Level} {out : Nodes} {t : Token} {ts : Tokens} → Open (x ∷ fs) out (t ∷ ts) → takes_stmt (wants x) ≡ true → terminal t ≡ k.Throw → Open (f.Throw t.place ∷ x ∷ fs) out ts
    o_statement : {x : Level} {fs : List Level} {out : Nodes} {ts : Tokens} → Open (x ∷ fs) out ts → takes_stmt (wants x) ≡ true → First begins_expression ts → Open (f.Expression (place_of ts) ∷ x ∷ fs) out ts
    o_try_open : {x : Level} {fs : List Level} {out : Nodes} {t : Token} {ts : Tokens} → Open (x ∷ fs) out (t ∷ ts) → takes_stmt (wants x) ≡ true → terminal t ≡ k.Try → Open (f.TryOpen t.place ∷ x ∷ fs) out ts
    o_try_block : {x : Level} {fs : List Level} {out : Nodes} {t : Token} {ts : Tokens} → Open (x ∷ fs) out (t ∷ ts) → takes_stmt (wants x) ≡ true → terminal t ≡ k.Try → Open (f.TryBlock t.place ∷ x ∷ fs) out ts
    o_catch_open : {x : Level} {fs : List Level} {out : Nodes} {t w : Token} {mid ts : Tokens} {s : Stmt} → Open (x ∷ fs) out (t ∷ mid) → takes_stmt (wants x) ≡ true → terminal t ≡ k.Try → ReadsBlock mid (w ∷ ts) s
        → terminal w ≡ k.Catch → Open (f.CatchOpen t.place ∷ x ∷ fs) (stmt_nodes s out) ts
    o_catch_name : {x : Level} {fs : List Level} {out : Nodes} {t w o : Token} {mid ts : Tokens} {s : Stmt} → Open (x ∷ fs) out (t ∷ mid) → takes_stmt (wants x) ≡ true → terminal t ≡ k.Try
        → ReadsBlock mid (w ∷ o ∷ ts) s → terminal w ≡ k.Catch → terminal o ≡ k.Open → Open (f.CatchName t.place ∷ x ∷ fs) (stmt_nodes s out) ts
    o_catch_close : {x : Level} {fs : List Level} {out : Nodes} {t w o m : Token} {mid ts : Tokens} {s : Stmt} → Open (x ∷ fs) out (t ∷ mid) → takes_stmt (wants x) ≡ true → terminal t ≡ k.Try
        → ReadsBlock mid (w ∷ o ∷ m ∷ ts) s → terminal w ≡ k.Catch → terminal o ≡ k.Open → terminal m ≡ k.Name → Open (f.CatchClose t.place ∷ x ∷ fs) (stmt_nodes s out ++ n.Word (mark m) ∷ []) ts
    o_catch_brace : {x : Level} {fs : List Level} {out : Nodes} {t w o m c : Token} {mid ts : Tokens} {s : Stmt} → Open (x ∷ fs) out (t ∷ mid) → takes_stmt (wants x) ≡ true → terminal t ≡ k.Try
        → ReadsBlock mid (w ∷ o ∷ m ∷ c ∷ ts) s → terminal w ≡ k.Catch → terminal o ≡ k.Open → terminal m ≡ k.Name → terminal c ≡ k.Close
        → Open (f.CatchBrace t.place ∷ x ∷ fs) (stmt_nodes s out ++ n.Word (mark m) ∷ []) ts
    o_catch_block : {x : Level} {fs : List Level} {out : Nodes} {t w o m c : Token} {mid ts : Tokens} {s : Stmt} → Open (x ∷ fs) out (t ∷ mid) → takes_stmt (wants x) ≡ true → terminal t ≡ k.Try
        → ReadsBlock mid (w ∷ o ∷ m ∷ c ∷ ts) s → terminal w ≡ k.Catch → terminal o ≡ k.Open → terminal m ≡ k.Name → terminal c ≡ k.Close
        → Open (f.CatchBlock t.place ∷ x ∷ fs) (stmt_nodes s out ++ n.Word (mark m) ∷ []) ts
    o_function_start : {x : Level} {fs : List Level} {out : Nodes} {w : Token} {ts : Tokens} → Open (x ∷ fs) out (w ∷ ts) → wants x ≡ a_value → terminal w ≡ k.Function → Open (f.FunctionStart w.place ∷ x ∷ fs) out ts
    o_function_name : {x : Level} {fs : List Level} {out : Nodes} {w : Token} {ts : Tokens} (h : Heading) → Open (x ∷ fs) out (w ∷ ts) → wants x ≡ an_item → is_expression h ≡ false → terminal w ≡ head_word h
        → Open (f.FunctionName h w.place ∷ x ∷ fs) out ts
    o_function_open : {x : Level} {fs : List Level} {out : Nodes} {h : Title} {w m : Token} {ts : Tokens} → Open (x ∷ fs) out (w ∷ m ∷ ts) → wants x ≡ head_wants (heading_of h) → Named h w m
        → Open (f.FunctionOpen (heading_of h) w.place ∷ x ∷ fs) (title_nodes h out) ts
    o_function_first : {x : Level} {fs : List Level} {out : Nodes} {h : Title} {begin ts : Tokens} → Open (x ∷ fs) out begin → wants x ≡ head_wants (heading_of h) → Head h begin ts
        → Open (f.FunctionFirst (heading_of h) (place_of begin) ∷ x ∷ fs) (title_nodes h out) ts
    o_function_next : {x : Level} {fs : List Level} {out : Nodes} {h : Title} {begin list ts : Tokens} {ns : Names} → Open (x ∷ fs) out begin → wants x ≡ head_wants (heading_of h) → Head h begin list → ReadsNames list ts ns
        → Open (f.FunctionNext (heading_of h) (place_of begin) (names_count ns) ∷ x ∷ fs) (names_nodes ns (title_nodes h out)) ts
    o_parameter_name : {x : Level} {fs : List Level} {out : Nodes} {h : Title} {c : Token} {begin list ts : Tokens} {ns : Names} → Open (x ∷ fs) out begin → wants x ≡ head_wants (heading_of h) → Head h begin list
        → ReadsNames list (c ∷ ts) ns → terminal c ≡ k.Comma → Open (f.ParameterName (heading_of h) (place_of begin) (names_count ns) ∷ x ∷ fs) (names_nodes ns (title_nodes h out)) ts
    o_function_brace : {x : Level} {fs : List Level} {out : Nodes} {h : Title} {begin list ts : Tokens} {ns : Names} → Open (x ∷ fs) out begin → wants x ≡ head_wants (heading_of h) → Head h begin list → Parameters list ts ns
        → Open (f.FunctionBrace (heading_of h) (place_of begin) (names_count ns) ∷ x ∷ fs) (names_nodes ns (title_nodes h out)) ts
    o_paren : {x : Level} {fs : List Level} {out : Nodes} {o : Token} {ts : Tokens} → Open (x ∷ fs) out (o ∷ ts) → wants x ≡ a_value → terminal o ≡ k.Open → Open (f.Paren o.place ∷ x ∷ fs) out ts
    o_operation : {x : Level} {fs : List Level} {out : Nodes} {mid ts : Tokens} {t : Token} {a : Expr} (o : Infix) → Open (x ∷ fs) out mid → wants x ≡ a_value → awaits_at x ≤ precedence_of o
        → Reads (precedence_of o) mid (t ∷ ts) a → terminal t ≡ k.Infix o → Open (f.Operation o (place_of mid) ∷ x ∷ fs) (expr_nodes a out) ts
    o_unary : {x : Level} {fs : List Level} {out : Nodes} {t : Token} {ts : Tokens} (u : Unary) → Open (x ∷ fs) out (t ∷ ts) → wants x ≡ a_value → awaits_at x ≤ 8 → terminal t ≡ sign_of u
        → Open (f.Unary u t.place ∷ x ∷ fs) out ts
    o_step_before : {x : Level} {fs : List Level} {out : Nodes} {t : Token} {ts : Tokens} (d : StepSign) → Open (x ∷ fs) out (t ∷ ts) → wants x ≡ a_value → awaits_at x ≤ 8 → terminal t ≡ k.Step d
        → Open (f.StepBefore (step_before d) t.place ∷ x ∷ fs) out ts
    o_step_after : {x : Level} {fs : List Level} {out : Nodes} {mid ts : Tokens} {t : Token} {a : Expr} (d : StepSign) → Open (x ∷ fs) out mid → wants x ≡ a_value → awaits_at x ≤ 9 → Reads 10 mid (t ∷ ts) a
        → is_target a ≡ true → terminal t ≡ k.Step d → Open (f.StepAfter (step_after d) (place_of mid) ∷ x ∷ fs) (expr_nodes a out) ts
    o_assign : {x : Level} {fs : List Level} {out : Nodes} {mid ts : Tokens} {t : Token} {a : Expr} (o : Option Binary) → Open (x ∷ fs) out mid → wants x ≡ a_value → awaits_at x ≤ 0
        → Reads 10 mid (t ∷ ts) a → is_target a ≡ true → terminal t ≡ k.Assign o → Open (f.Assign o (place_of mid) ∷ x ∷ fs) (expr_nodes a out) ts
    o_cond_test : {x : Level} {fs : List Level} {out : Nodes} {mid ts : Tokens} {q : Token} {a : Expr} → Open (x ∷ fs) out mid → wants x ≡ a_value → awaits_at x ≤ 1
        → Reads 2 mid (q ∷ ts) a → terminal q ≡ k.Question → Open (f.CondTest (place_of mid) ∷ x ∷ fs) (expr_nodes a out) ts
    o_cond_else : {x : Level} {fs : List Level} {out : Nodes} {begin mid ts : Tokens} {q c : Token} {a b : Expr} → Open (x ∷ fs) out begin → wants x ≡ a_value → awaits_at x ≤ 1
        → Reads 2 begin (q ∷ mid) a → terminal q ≡ k.Question → Reads 0 mid (c ∷ ts) b → terminal c ≡ k.Colon → Open (f.CondElse (place_of begin) ∷ x ∷ fs) (expr_nodes b (expr_nodes a out)) ts
    o_dot : {x : Level} {fs : List Level} {out : Nodes} {mid ts : Tokens} {t : Token} {a : Expr} → Open (x ∷ fs) out mid → wants x ≡ a_value → Reads 10 mid (t ∷ ts) a → terminal t ≡ k.Dot
        → Open (f.Dot (place_of mid) ∷ x ∷ fs) (expr_nodes a out) ts
    o_index : {x : Level} {fs : List Level} {out : Nodes} {mid ts : Tokens} {t : Token} {a : Expr} → Open (x ∷ fs) out mid → wants x ≡ a_value → Reads 10 mid (t ∷ ts) a → terminal t ≡ k.OpenSquare
        → Open (f.Index (place_of mid) ∷ x ∷ fs) (expr_nodes a out) ts
    o_arguments : {x : Level} {fs : List Level} {out : Nodes} {mid list ts : Tokens} {t : Token} {a : Expr} {es : Exprs} → Open (x ∷ fs) out mid → wants x ≡ a_value → Reads 10 mid (t ∷ list) a → terminal t ≡ k.Open
        → SomeExprs list ts es → Open (f.Arguments (place_of mid) (exprs_count es) ∷ x ∷ fs) (exprs_nodes es (expr_nodes a out)) ts
    o_array : {x : Level} {fs : List Level} {out : Nodes} {o : Token} {list ts : Tokens} {es : Exprs} → Open (x ∷ fs) out (o ∷ list) → wants x ≡ a_value → terminal o ≡ k.OpenSquare
        → SomeExprs list ts es → Open (f.Array o.place (exprs_count es) ∷ x ∷ fs) (exprs_nodes es out) ts
    o_object_key : {x : Level} {fs : List Level} {out : Nodes} {o : Token} {list ts : Tokens} {ps : Props} → Open (x ∷ fs) out (o ∷ list) → wants x ≡ a_value → terminal o ≡ k.OpenBrace
        → SomeProps list ts ps → Open (f.ObjectKey o.place (props_count ps) ∷ x ∷ fs) (props_nodes ps out) ts
    o_object_colon : {x : Level} {fs : List Level} {out : Nodes} {o t : Token} {list ts : Tokens} {ps : Props} {y : Key} → Open (x ∷ fs) out (o ∷ list) → wants x ≡ a_value → terminal o ≡ k.OpenBrace
        → SomeProps list (t ∷ ts) ps → IsKey t y → Open (f.ObjectColon o.place (props_count ps) ∷ x ∷ fs) (props_nodes ps out ++ key_node y ∷ []) ts
    o_object_value : {x : Level} {fs : List Level} {out : Nodes} {o t c : Token} {list ts : Tokens} {ps : Props} {y : Key} → Open (x ∷ fs) out (o ∷ list) → wants x ≡ a_value → terminal o ≡ k.OpenBrace
        → SomeProps list (t ∷ c ∷ ts) ps → IsKey t y → terminal c ≡ k.Colon → Open (f.ObjectValue o.place (props_count ps) ∷ x ∷ fs) (props_nodes ps out ++ key_node y ∷ []) ts
    o_dollar : {x : Level} {fs : List Level} {out : Nodes} {o : Token} {ts : Tokens} → Open (x ∷ fs) out (o ∷ ts) → holds_code x ≡ true → terminal o ≡ k.DollarOpen → Open (f.Dollar o.place ∷ x ∷ fs) out ts
    o_attributes : {x : Level} {fs : List Level} {out : Nodes} {o : Token} {list ts : Tokens} {ats : Attributes} → Open (x ∷ fs) out (o ∷ list) → holds_element x ≡ true → terminal o ≡ k.TagOpen
        → ReadsAttributes list ts ats → Open (f.Attributes (tag_mark o) (attributes_count ats) false ∷ x ∷ fs) (attributes_nodes ats (out ++ n.Word (tag_mark o) ∷ [])) ts
    o_attribute_name : {x : Level} {fs : List Level} {out : Nodes} {o t : Token} {list ts : Tokens} {ats : Attributes} → Open (x ∷ fs) out (o ∷ list) → holds_element x ≡ true → terminal o ≡ k.TagOpen
        → ReadsAttributes list (t ∷ ts) ats → terminal t ≡ k.AttributeName
        → Open (f.Attributes (tag_mark o) (attributes_count ats + 1) true ∷ x ∷ fs) (attributes_nodes ats (out ++ n.Word (tag_mark o) ∷ []) ++ n.AttributeName (mark t) ∷ []) ts
    o_attribute_value : {x : Level} {fs : List Level} {out : Nodes} {o t z : Token} {list ts : Tokens} {ats : Attributes} → Open (x ∷ fs) out (o ∷ list) → holds_element x ≡ true → terminal o ≡ k.TagOpen
        → ReadsAttributes list (t ∷ z ∷ ts) ats → terminal t ≡ k.AttributeName → terminal z ≡ k.Assign None
        → Open (f.AttributeValue (tag_mark o) (attributes_count ats + 1) ∷ x ∷ fs) (attributes_nodes ats (out ++ n.Word (tag_mark o) ∷ []) ++ n.AttributeName (mark t) ∷ []) ts
    o_children : {x : Level} {fs : List Level} {out : Nodes} {o c : Token} {list mid ts : Tokens} {ats : Attributes} {cs : Children} → Open (x ∷ fs) out (o ∷ list) → holds_element x ≡ true → terminal o ≡ k.TagOpen
        → ReadsAttributes list (c ∷ mid) ats → terminal c ≡ k.TagEnd → is_void_tag (open_name o) ≡ false → ReadsChildren mid ts cs
        → Open (f.Children (tag_mark o) (attributes_count ats) (children_count cs) ∷ x ∷ fs) (children_nodes cs (attributes_nodes ats (out ++ n.Word (tag_mark o) ∷ []))) ts

  -- what a level takes that wants an item, a statement, a body or a block
  abbrev pub Fits : Want → Tokens → Tokens → Stmt → Type 0
  Fits an_item ts rest s = ReadsItem ts rest s
  Fits a_body ts rest s = ReadsBody ts rest s
  Fits a_block ts rest s = ReadsBlock ts rest s
  Fits _ ts rest s = ReadsStmt ts rest s

  -- What the machine knows where it stands.
  pub data Good : Focus → List Level → Nodes → Tokens → Type 0 where
    g_statement : {x : Level} {fs : List Level} {out : Nodes} {ts : Tokens} → Open (x ∷ fs) out ts → takes_stmt (wants x) ≡ true → Good f.Statement (x ∷ fs) out ts
    g_body : {x : Level} {fs : List Level} {out : Nodes} {ts : Tokens} → Open (x ∷ fs) out ts → wants x ≡ a_body → Good f.Body (x ∷ fs) out ts
    g_operand : {x : Level} {fs : List Level} {out : Nodes} {ts : Tokens} → Open (x ∷ fs) out ts → wants x ≡ a_value → Good f.Operand (x ∷ fs) out ts
    g_first : {x : Level} {fs : List Level} {out : Nodes} {ts : Tokens} → Open (x ∷ fs) out ts → leaves_out x ≡ true → Good f.First (x ∷ fs) out ts
    g_word : {x : Level} {fs : List Level} {out : Nodes} {ts : Tokens} → Open (x ∷ fs) out ts → wants x ≡ a_word → Good f.Word (x ∷ fs) out ts
    g_value : {x : Level} {fs : List Level} {out : Nodes} {mid ts : Tokens} {e : Expr} {v : Bool} → Open (x ∷ fs) out mid → wants x ≡ a_value → Reads 10 mid ts e → is_target e ≡ v
        → Good (f.Value (place_of mid) v) (x ∷ fs) (expr_nodes e out) ts
    g_stepped : {x : Level} {fs : List Level} {out : Nodes} {s : Place} {ts : Tokens} → Open (x ∷ fs) out ts → wants x ≡ an_end → Good (f.Value s false) (x ∷ fs) out ts
    g_finished : {x : Level} {fs : List Level} {out : Nodes} {mid ts : Tokens} (s : Stmt) → Open (x ∷ fs) out mid → takes_block (wants x) ≡ true → Fits (wants x) mid ts s → Good f.Finished (x ∷ fs) (stmt_nodes s out) ts

  abbrev pub Safe : Next → Tokens → Type 0
  Safe None ts = Unit {0}
  Safe (Some c) ts = Good c.focus c.levels c.nodes ts
