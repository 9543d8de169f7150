-- The grammar, one case for each rule. `Reads l ts rest e`: the tokens ts, up to their suffix rest, are an expression of precedence l with the tree e.
use Rattle.std.specs.Prelude.{◌≡◌, ◌≢◌, ℕ, suc, Bool, true, false, Option, None, [], ◌∷◌}
use Rattle.mt_tree.specs.Tables.{is_void_tag}
use Rattle.mt_tree.specs.declared.operators.Binary.{Binary}
use Rattle.mt_tree.specs.declared.operators.Binary.TheVariants as binary_op
use Rattle.mt_tree.specs.declared.operators.StepKind.{StepKind}
use Rattle.mt_tree.specs.declared.operators.StepKind.TheVariants as step_kind
use Rattle.mt_tree.specs.declared.operators.Unary.{Unary}
use Rattle.mt_tree.specs.declared.operators.Unary.TheVariants as unary_op
use Rattle.mt_tree.specs.declared.operators.VarKind.{VarKind}
use Rattle.mt_tree.specs.declared.operators.VarKind.TheVariants as var_kind
use Rattle.mt_grammar.specs.declared.terminal.Constant.{Constant}
use Rattle.mt_grammar.specs.declared.terminal.Heading.{Heading}
use Rattle.mt_grammar.specs.declared.terminal.Heading.TheVariants as heading
use Rattle.mt_grammar.specs.declared.terminal.Infix.{Infix}
use Rattle.mt_grammar.specs.declared.terminal.Infix.TheVariants as infix_op
use Rattle.mt_grammar.specs.declared.terminal.Jump.{Jump}
use Rattle.mt_grammar.specs.declared.terminal.StepSign.{StepSign}
use Rattle.mt_grammar.specs.declared.terminal.StepSign.TheVariants as step_sign
use Rattle.mt_grammar.specs.declared.terminal.Terminal.{Terminal}
use Rattle.mt_grammar.specs.declared.terminal.Terminal.TheVariants as k
use Rattle.mt_grammar.specs.Token.{Token, Tokens, place_of, terminal, is_word, open_name, close_name}
use Rattle.mt_grammar.specs.Tree.{Mark, Title, a_service, a_declaration, a_named_expression, an_expression, heading_of, Key, plain, quoted, Names, no_names, names_and, Expr, name, number, text, property, constant, array, object, function, unary, step, operation, condition, assign, index, call, tilde, dollar, element, Exprs, no_exprs, exprs_and, Props, no_props, props_and, Attribute, attribute_plain, attribute_quoted, attribute_tilde, attribute_dollar, Attributes, no_attributes, attributes_and, Child, child_text, child_direct, child_dollar, Children, no_children, children_and, Decl, decl_only, decl_as, Decls, no_decls, decls_and, Optional, absent, present, Start, start_optional, start_vars, Stmt, expression, var, declare, if_only, if_else, while, for, return, jump, throw, try, block, empty, Stmts, no_stmts, stmts_and, is_target}

abbrev pub mark : Token → Mark
mark t = record { place = t.place; text = t.text }

-- the name of the tag that the token opens
abbrev pub tag_mark : Token → Mark
tag_mark t = record { place = t.place; text = open_name t }

-- The precedences of expressions: E 0, Cond 1, Or 2, And 3, Eq 4, Rel 5, Add 6, Mul 7, Un 8, Post 9, Call 10.
abbrev pub binary_precedence : Binary → ℕ
binary_precedence binary_op.Same = 4
binary_precedence binary_op.Different = 4
binary_precedence binary_op.Less = 5
binary_precedence binary_op.LessEqual = 5
binary_precedence binary_op.Greater = 5
binary_precedence binary_op.GreaterEqual = 5
binary_precedence binary_op.Add = 6
binary_precedence binary_op.Sub = 6
binary_precedence binary_op.Mul = 7
binary_precedence binary_op.Div = 7
binary_precedence binary_op.Rem = 7

abbrev pub precedence_of : Infix → ℕ
precedence_of infix_op.Or = 2
precedence_of infix_op.And = 3
precedence_of (infix_op.Binary b) = binary_precedence b

abbrev pub sign_of : Unary → Terminal
sign_of unary_op.Not = k.Exclamation
sign_of unary_op.Minus = k.Infix (infix_op.Binary binary_op.Sub)
sign_of unary_op.Plus = k.Infix (infix_op.Binary binary_op.Add)
sign_of unary_op.Typeof = k.Typeof

abbrev pub step_before : StepSign → StepKind
step_before step_sign.Increment = step_kind.IncBefore
step_before step_sign.Decrement = step_kind.DecBefore

abbrev pub step_after : StepSign → StepKind
step_after step_sign.Increment = step_kind.IncAfter
step_after step_sign.Decrement = step_kind.DecAfter

-- the token after is not that one
abbrev pub NotNext : Terminal → Tokens → Type 0
NotNext y [] = Unit {0}
NotNext y (t ∷ ts) = terminal t ≢ y

-- an expression statement begins with neither of these
abbrev pub begins_expression : Terminal → Bool
begins_expression k.OpenBrace = false
begins_expression k.Function = false
begins_expression _ = true

-- a body that is no block and no `let` or `const`
abbrev pub begins_single : Terminal → Bool
begins_single k.OpenBrace = false
begins_single (k.Declare var_kind.Let) = false
begins_single (k.Declare var_kind.Const) = false
begins_single _ = true

abbrev pub First : (Terminal → Bool) → Tokens → Type 0
First test [] = Unit {0}
First test (t ∷ ts) = test (terminal t) ≡ true

-- a `const` has its value
abbrev pub needs_value : VarKind → Bool
needs_value var_kind.Const = true
needs_value _ = false

abbrev pub is_expression : Heading → Bool
is_expression heading.Service = false
is_expression heading.Declaration = false
is_expression heading.NamedExpression = true
is_expression heading.Expression = true

-- The semicolon of a statement may be left out before a closing brace.
pub data Ends : Tokens → Tokens → Type 0 where
  semicolon : {t : Token} {rest : Tokens} → terminal t ≡ k.Semicolon → Ends (t ∷ rest) rest
  before_brace : {t : Token} {rest : Tokens} → terminal t ≡ k.CloseBrace → Ends (t ∷ rest) (t ∷ rest)

-- Names = Name ("," Name)*
pub data ReadsNames : Tokens → Tokens → Names → Type 0 where
  first_name : {t : Token} {rest : Tokens} → terminal t ≡ k.Name → ReadsNames (t ∷ rest) rest (names_and no_names (mark t))
  next_name : {ts : Tokens} {c t : Token} {rest : Tokens} {ns : Names} → ReadsNames ts (c ∷ t ∷ rest) ns → terminal c ≡ k.Comma → terminal t ≡ k.Name
      → ReadsNames ts rest (names_and ns (mark t))

-- Names? ")"
pub data Parameters : Tokens → Tokens → Names → Type 0 where
  no_parameters : {c : Token} {rest : Tokens} → terminal c ≡ k.Close → Parameters (c ∷ rest) rest no_names
  parameters : {ts : Tokens} {c : Token} {rest : Tokens} {ns : Names} → ReadsNames ts (c ∷ rest) ns → terminal c ≡ k.Close → Parameters ts rest ns

-- the words of a function up to its opening parenthesis
pub data Head : Title → Tokens → Tokens → Type 0 where
  h_service : {w n o : Token} {rest : Tokens} → terminal w ≡ k.Service → terminal n ≡ k.Name → terminal o ≡ k.Open → Head (a_service (mark n)) (w ∷ n ∷ o ∷ rest) rest
  h_declaration : {w n o : Token} {rest : Tokens} → terminal w ≡ k.Function → terminal n ≡ k.Name → terminal o ≡ k.Open → Head (a_declaration (mark n)) (w ∷ n ∷ o ∷ rest) rest
  h_named : {w n o : Token} {rest : Tokens} → terminal w ≡ k.Function → terminal n ≡ k.Name → terminal o ≡ k.Open → Head (a_named_expression (mark n)) (w ∷ n ∷ o ∷ rest) rest
  h_expression : {w o : Token} {rest : Tokens} → terminal w ≡ k.Function → terminal o ≡ k.Open → Head an_expression (w ∷ o ∷ rest) rest

-- a key of an object
pub data IsKey : Token → Key → Type 0 where
  key_word : (t : Token) → is_word (terminal t) ≡ true → IsKey t (plain (mark t))
  key_text : (t : Token) → terminal t ≡ k.Text → IsKey t (quoted (mark t))

mutual
  pub data Reads : ℕ → Tokens → Tokens → Expr → Type 0 where
    -- E = Target ("=" | "+=" | ..) E
    r_assign : {ts mid rest : Tokens} {t : Token} {a e : Expr} (o : Option Binary) → Reads 10 ts (t ∷ mid) a → is_target a ≡ true → terminal t ≡ k.Assign o → Reads 0 mid rest e
        → Reads 0 ts rest (assign (place_of ts) o a e)
    -- a precedence has what the next one has
    r_up : {l : ℕ} {ts rest : Tokens} {e : Expr} → Reads (suc l) ts rest e → Reads l ts rest e
    -- Cond = Or "?" E ":" E
    r_condition : {ts mid last rest : Tokens} {q c : Token} {a b d : Expr} → Reads 2 ts (q ∷ mid) a → terminal q ≡ k.Question → Reads 0 mid (c ∷ last) b → terminal c ≡ k.Colon → Reads 0 last rest d
        → Reads 1 ts rest (condition (place_of ts) a b d)
    -- Or = And ("||" And)*, And = Eq ("&&" Eq)*, and so on to Mul = Un (("*" | "/" | "%") Un)*
    r_operation : {l : ℕ} {ts mid rest : Tokens} {t : Token} {a b : Expr} (o : Infix) → l ≡ precedence_of o → Reads l ts (t ∷ mid) a → terminal t ≡ k.Infix o → Reads (suc l) mid rest b
        → Reads l ts rest (operation (place_of ts) o a b)
    -- Un = ("!" | "-" | "+" | "typeof") Un
    r_unary : {ts rest : Tokens} {t : Token} {a : Expr} (u : Unary) → terminal t ≡ sign_of u → Reads 8 ts rest a → Reads 8 (t ∷ ts) rest (unary t.place u a)
    -- Un = ("++" | "--") Target
    r_step_before : {ts rest : Tokens} {t : Token} {a : Expr} (d : StepSign) → terminal t ≡ k.Step d → Reads 10 ts rest a → is_target a ≡ true → Reads 8 (t ∷ ts) rest (step t.place (step_before d) a)
    -- Post = Target ("++" | "--")
    r_step_after : {ts rest : Tokens} {t : Token} {a : Expr} (d : StepSign) → Reads 10 ts (t ∷ rest) a → is_target a ≡ true → terminal t ≡ k.Step d → Reads 9 ts rest (step (place_of ts) (step_after d) a)
    -- Call = Primary ("." Name | "[" E "]" | "(" (E ("," E)*)? ")")*
    r_dot : {ts rest : Tokens} {d t : Token} {a : Expr} → Reads 10 ts (d ∷ t ∷ rest) a → terminal d ≡ k.Dot → is_word (terminal t) ≡ true → Reads 10 ts rest (index (place_of ts) a (property (mark t)))
    r_index : {ts mid rest : Tokens} {o c : Token} {a i : Expr} → Reads 10 ts (o ∷ mid) a → terminal o ≡ k.OpenSquare → Reads 0 mid (c ∷ rest) i → terminal c ≡ k.CloseSquare
        → Reads 10 ts rest (index (place_of ts) a i)
    r_call_none : {ts rest : Tokens} {o c : Token} {a : Expr} → Reads 10 ts (o ∷ c ∷ rest) a → terminal o ≡ k.Open → terminal c ≡ k.Close → Reads 10 ts rest (call (place_of ts) a no_exprs)
    r_call : {ts mid rest : Tokens} {o c : Token} {a : Expr} {es : Exprs} → Reads 10 ts (o ∷ mid) a → terminal o ≡ k.Open → ReadsList mid (c ∷ rest) es → terminal c ≡ k.Close
        → Reads 10 ts rest (call (place_of ts) a es)
    -- Primary
    r_name : {rest : Tokens} {t : Token} → terminal t ≡ k.Name → Reads 10 (t ∷ rest) rest (name (mark t))
    r_number : {rest : Tokens} {t : Token} → terminal t ≡ k.Number → Reads 10 (t ∷ rest) rest (number (mark t))
    r_text : {rest : Tokens} {t : Token} → terminal t ≡ k.Text → Reads 10 (t ∷ rest) rest (text (mark t))
    r_constant : {rest : Tokens} {t : Token} (v : Constant) → terminal t ≡ k.Constant v → Reads 10 (t ∷ rest) rest (constant t.place v)
    r_paren : {ts rest : Tokens} {o c : Token} {e : Expr} → terminal o ≡ k.Open → Reads 0 ts (c ∷ rest) e → terminal c ≡ k.Close → Reads 10 (o ∷ ts) rest e
    r_array_none : {rest : Tokens} {o c : Token} → terminal o ≡ k.OpenSquare → terminal c ≡ k.CloseSquare → Reads 10 (o ∷ c ∷ rest) rest (array o.place no_exprs)
    r_array : {ts rest : Tokens} {o c : Token} {es : Exprs} → terminal o ≡ k.OpenSquare → ReadsList ts (c ∷ rest) es → terminal c ≡ k.CloseSquare → Reads 10 (o ∷ ts) rest (array o.place es)
    r_array_comma : {ts rest : Tokens} {o m c : Token} {es : Exprs} → terminal o ≡ k.OpenSquare → ReadsList ts (m ∷ c ∷ rest) es → terminal m ≡ k.Comma → terminal c ≡ k.CloseSquare
        → Reads 10 (o ∷ ts) rest (array o.place es)
    r_object_none : {rest : Tokens} {o c : Token} → terminal o ≡ k.OpenBrace → terminal c ≡ k.CloseBrace → Reads 10 (o ∷ c ∷ rest) rest (object o.place no_props)
    r_object : {ts rest : Tokens} {o c : Token} {ps : Props} → terminal o ≡ k.OpenBrace → ReadsProps ts (c ∷ rest) ps → terminal c ≡ k.CloseBrace → Reads 10 (o ∷ ts) rest (object o.place ps)
    r_object_comma : {ts rest : Tokens} {o m c : Token} {ps : Props} → terminal o ≡ k.OpenBrace → ReadsProps ts (m ∷ c ∷ rest) ps → terminal m ≡ k.Comma → terminal c ≡ k.CloseBrace
        → Reads 10 (o ∷ ts) rest (object o.place ps)
    r_function : {ts rest : Tokens} {h : Title} {ns : Names} {ss : Stmts} → ReadsFunction h ts rest ns ss → is_expression (heading_of h) ≡ true → Reads 10 ts rest (function (place_of ts) h ns ss)
    r_tilde : {ts rest : Tokens} {e : Expr} → ReadsTilde ts rest e → Reads 10 ts rest e
    r_dollar : {ts rest : Tokens} {e : Expr} → ReadsDollar ts rest e → Reads 10 ts rest (dollar (place_of ts) e)
    r_element : {ts rest : Tokens} {e : Expr} → ReadsElement ts rest e → Reads 10 ts rest e

  -- E ("," E)*
  pub data ReadsList : Tokens → Tokens → Exprs → Type 0 where
    first_expr : {ts rest : Tokens} {e : Expr} → Reads 0 ts rest e → ReadsList ts rest (exprs_and no_exprs e)
    next_expr : {ts mid rest : Tokens} {c : Token} {es : Exprs} {e : Expr} → ReadsList ts (c ∷ mid) es → terminal c ≡ k.Comma → Reads 0 mid rest e → ReadsList ts rest (exprs_and es e)

  -- Prop ("," Prop)*, Prop = (Name | Text) ":" E
  pub data ReadsProps : Tokens → Tokens → Props → Type 0 where
    first_prop : {ts rest : Tokens} {t c : Token} {x : Key} {e : Expr} → IsKey t x → terminal c ≡ k.Colon → Reads 0 ts rest e → ReadsProps (t ∷ c ∷ ts) rest (props_and no_props x e)
    next_prop : {ts mid rest : Tokens} {m t c : Token} {ps : Props} {x : Key} {e : Expr} → ReadsProps ts (m ∷ t ∷ c ∷ mid) ps → terminal m ≡ k.Comma → IsKey t x → terminal c ≡ k.Colon → Reads 0 mid rest e
        → ReadsProps ts rest (props_and ps x e)

  -- its head, Names? ")" "{" Item* "}"
  pub data ReadsFunction : Title → Tokens → Tokens → Names → Stmts → Type 0 where
    function_of : {h : Title} {ts list mid rest : Tokens} {o c : Token} {ns : Names} {ss : Stmts} → Head h ts list → Parameters list (o ∷ mid) ns → terminal o ≡ k.OpenBrace → ReadsItems mid (c ∷ rest) ss
        → terminal c ≡ k.CloseBrace → ReadsFunction h ts rest ns ss

  -- "~{" Item* "}"
  pub data ReadsTilde : Tokens → Tokens → Expr → Type 0 where
    tilde_of : {ts rest : Tokens} {o c : Token} {ss : Stmts} → terminal o ≡ k.TildeOpen → ReadsItems ts (c ∷ rest) ss → terminal c ≡ k.CloseBrace → ReadsTilde (o ∷ ts) rest (tilde o.place ss)

  -- "${" E "}", with the tree of E
  pub data ReadsDollar : Tokens → Tokens → Expr → Type 0 where
    dollar_of : {ts rest : Tokens} {o c : Token} {e : Expr} → terminal o ≡ k.DollarOpen → Reads 0 ts (c ∷ rest) e → terminal c ≡ k.CloseBrace → ReadsDollar (o ∷ ts) rest e

  -- Element = TagOpen Attr* ("/>" | ">" of a void tag | (">" of another tag) Child* CloseTag)
  pub data ReadsElement : Tokens → Tokens → Expr → Type 0 where
    e_self : {ts rest : Tokens} {o c : Token} {ats : Attributes} → terminal o ≡ k.TagOpen → ReadsAttributes ts (c ∷ rest) ats → terminal c ≡ k.TagSelfEnd
        → ReadsElement (o ∷ ts) rest (element (tag_mark o) ats no_children)
    e_void : {ts rest : Tokens} {o c : Token} {ats : Attributes} → terminal o ≡ k.TagOpen → ReadsAttributes ts (c ∷ rest) ats → terminal c ≡ k.TagEnd → is_void_tag (open_name o) ≡ true
        → ReadsElement (o ∷ ts) rest (element (tag_mark o) ats no_children)
    e_children : {ts mid rest : Tokens} {o c z : Token} {ats : Attributes} {cs : Children} → terminal o ≡ k.TagOpen → ReadsAttributes ts (c ∷ mid) ats → terminal c ≡ k.TagEnd
        → is_void_tag (open_name o) ≡ false → ReadsChildren mid (z ∷ rest) cs → terminal z ≡ k.CloseTag → close_name z ≡ open_name o → ReadsElement (o ∷ ts) rest (element (tag_mark o) ats cs)

  -- Attr = AttrName ("=" (Quoted | "~{" Item* "}" | "${" E "}"))?
  pub data ReadsAttribute : Tokens → Tokens → Attribute → Type 0 where
    a_plain : {rest : Tokens} {t : Token} → terminal t ≡ k.AttributeName → ReadsAttribute (t ∷ rest) rest (attribute_plain (mark t))
    a_quoted : {rest : Tokens} {t z v : Token} → terminal t ≡ k.AttributeName → terminal z ≡ k.Assign None → terminal v ≡ k.Quoted → ReadsAttribute (t ∷ z ∷ v ∷ rest) rest (attribute_quoted (mark t) (mark v))
    a_tilde : {ts rest : Tokens} {t z : Token} {e : Expr} → terminal t ≡ k.AttributeName → terminal z ≡ k.Assign None → ReadsTilde ts rest e → ReadsAttribute (t ∷ z ∷ ts) rest (attribute_tilde (mark t) e)
    a_dollar : {ts rest : Tokens} {t z : Token} {e : Expr} → terminal t ≡ k.AttributeName → terminal z ≡ k.Assign None → ReadsDollar ts rest e → ReadsAttribute (t ∷ z ∷ ts) rest (attribute_dollar (mark t) e)

  pub data ReadsAttributes : Tokens → Tokens → Attributes → Type 0 where
    no_attribute : {ts : Tokens} → ReadsAttributes ts ts no_attributes
    next_attribute : {ts mid rest : Tokens} {ats : Attributes} {a : Attribute} → ReadsAttributes ts mid ats → ReadsAttribute mid rest a → ReadsAttributes ts rest (attributes_and ats a)

  -- Child = Text token | Element | "~{" Item* "}" | "${" E "}"
  pub data ReadsChild : Tokens → Tokens → Child → Type 0 where
    c_text : {rest : Tokens} {t : Token} → terminal t ≡ k.ChildText → ReadsChild (t ∷ rest) rest (child_text (mark t))
    c_element : {ts rest : Tokens} {e : Expr} → ReadsElement ts rest e → ReadsChild ts rest (child_direct e)
    c_tilde : {ts rest : Tokens} {e : Expr} → ReadsTilde ts rest e → ReadsChild ts rest (child_direct e)
    c_dollar : {ts rest : Tokens} {e : Expr} → ReadsDollar ts rest e → ReadsChild ts rest (child_dollar e)

  pub data ReadsChildren : Tokens → Tokens → Children → Type 0 where
    no_child : {ts : Tokens} → ReadsChildren ts ts no_children
    next_child : {ts mid rest : Tokens} {cs : Children} {c : Child} → ReadsChildren ts mid cs → ReadsChild mid rest c → ReadsChildren ts rest (children_and cs c)

  -- Decl = Name ("=" E)?
  pub data ReadsDecl : VarKind → Tokens → Tokens → Decl → Type 0 where
    d_only : {d : VarKind} {rest : Tokens} {t : Token} → terminal t ≡ k.Name → needs_value d ≡ false → ReadsDecl d (t ∷ rest) rest (decl_only (mark t))
    d_as : {d : VarKind} {ts rest : Tokens} {t z : Token} {e : Expr} → terminal t ≡ k.Name → terminal z ≡ k.Assign None → Reads 0 ts rest e → ReadsDecl d (t ∷ z ∷ ts) rest (decl_as (mark t) e)

  -- Decl ("," Decl)*
  pub data ReadsDecls : VarKind → Tokens → Tokens → Decls → Type 0 where
    first_decl : {d : VarKind} {ts rest : Tokens} {x : Decl} → ReadsDecl d ts rest x → ReadsDecls d ts rest (decls_and no_decls x)
    next_decl : {d : VarKind} {ts mid rest : Tokens} {c : Token} {ds : Decls} {x : Decl} → ReadsDecls d ts (c ∷ mid) ds → terminal c ≡ k.Comma → ReadsDecl d mid rest x → ReadsDecls d ts rest (decls_and ds x)

  -- E? and the token that ends it
  pub data ReadsOptional : Terminal → Tokens → Tokens → Optional → Type 0 where
    o_absent : {y : Terminal} {c : Token} {rest : Tokens} → terminal c ≡ y → ReadsOptional y (c ∷ rest) rest absent
    o_present : {y : Terminal} {ts rest : Tokens} {c : Token} {e : Expr} → Reads 0 ts (c ∷ rest) e → terminal c ≡ y → ReadsOptional y ts rest (present e)

  -- (Var | E)? ";"
  pub data ReadsStart : Tokens → Tokens → Start → Type 0 where
    f_optional : {ts rest : Tokens} {o : Optional} → ReadsOptional k.Semicolon ts rest o → ReadsStart ts rest (start_optional o)
    f_vars : {ts rest : Tokens} {v c : Token} {ds : Decls} → terminal v ≡ k.Declare var_kind.Var → ReadsDecls var_kind.Var ts (c ∷ rest) ds → terminal c ≡ k.Semicolon → ReadsStart (v ∷ ts) rest (start_vars ds)

  -- Block = "{" Statement* "}"
  pub data ReadsBlock : Tokens → Tokens → Stmt → Type 0 where
    block_of : {ts rest : Tokens} {o c : Token} {ss : Stmts} → terminal o ≡ k.OpenBrace → ReadsStmts ts (c ∷ rest) ss → terminal c ≡ k.CloseBrace → ReadsBlock (o ∷ ts) rest (block o.place ss)

  -- Body = Block | Statement that is no let or const
  pub data ReadsBody : Tokens → Tokens → Stmt → Type 0 where
    b_block : {ts rest : Tokens} {s : Stmt} → ReadsBlock ts rest s → ReadsBody ts rest s
    b_single : {ts rest : Tokens} {s : Stmt} → First begins_single ts → ReadsStmt ts rest s → ReadsBody ts rest (block (place_of ts) (stmts_and no_stmts s))

  pub data ReadsStmt : Tokens → Tokens → Stmt → Type 0 where
    s_var : {ts mid rest : Tokens} {v : Token} {ds : Decls} (d : VarKind) → terminal v ≡ k.Declare d → ReadsDecls d ts mid ds → Ends mid rest → ReadsStmt (v ∷ ts) rest (var v.place d ds)
    s_if : {ts mid rest : Tokens} {i o c : Token} {e : Expr} {s : Stmt} → terminal i ≡ k.If → terminal o ≡ k.Open → Reads 0 ts (c ∷ mid) e → terminal c ≡ k.Close → ReadsBody mid rest s
        → NotNext k.Else rest → ReadsStmt (i ∷ o ∷ ts) rest (if_only i.place e s)
    s_if_else : {ts mid after rest : Tokens} {i o c w : Token} {e : Expr} {s d : Stmt} → terminal i ≡ k.If → terminal o ≡ k.Open → Reads 0 ts (c ∷ mid) e → terminal c ≡ k.Close
        → ReadsBody mid (w ∷ after) s → terminal w ≡ k.Else → ReadsBody after rest d → ReadsStmt (i ∷ o ∷ ts) rest (if_else i.place e s d)
    s_while : {ts mid rest : Tokens} {i o c : Token} {e : Expr} {s : Stmt} → terminal i ≡ k.While → terminal o ≡ k.Open → Reads 0 ts (c ∷ mid) e → terminal c ≡ k.Close → ReadsBody mid rest s
        → ReadsStmt (i ∷ o ∷ ts) rest (while i.place e s)
    s_for : {ts two three body rest : Tokens} {i o : Token} {a : Start} {b c : Optional} {s : Stmt} → terminal i ≡ k.For → terminal o ≡ k.Open → ReadsStart ts two a → ReadsOptional k.Semicolon two three b
        → ReadsOptional k.Close three body c → ReadsBody body rest s → ReadsStmt (i ∷ o ∷ ts) rest (for i.place a b c s)
    s_return : {ts rest : Tokens} {t : Token} → terminal t ≡ k.Return → Ends ts rest → ReadsStmt (t ∷ ts) rest (return t.place absent)
    s_return_value : {ts mid rest : Tokens} {t : Token} {e : Expr} → terminal t ≡ k.Return → Reads 0 ts mid e → Ends mid rest → ReadsStmt (t ∷ ts) rest (return t.place (present e))
    s_jump : {ts rest : Tokens} {t : Token} (j : Jump) → terminal t ≡ k.Jump j → Ends ts rest → ReadsStmt (t ∷ ts) rest (jump t.place j)
    s_throw : {ts mid rest : Tokens} {t : Token} {e : Expr} → terminal t ≡ k.Throw → Reads 0 ts mid e → Ends mid rest → ReadsStmt (t ∷ ts) rest (throw t.place e)
    s_try : {ts mid rest : Tokens} {t w o n c : Token} {s d : Stmt} → terminal t ≡ k.Try → ReadsBlock ts (w ∷ o ∷ n ∷ c ∷ mid) s → terminal w ≡ k.Catch → terminal o ≡ k.Open → terminal n ≡ k.Name → terminal c ≡ k.Close
        → ReadsBlock mid rest d → ReadsStmt (t ∷ ts) rest (try t.place s (mark n) d)
    s_block : {ts rest : Tokens} {s : Stmt} → ReadsBlock ts rest s → ReadsStmt ts rest s
    s_empty : {rest : Tokens} {t : Token} → terminal t ≡ k.Semicolon → ReadsStmt (t ∷ rest) rest (empty t.place)
    s_expression : {ts mid rest : Tokens} {e : Expr} → First begins_expression ts → Reads 0 ts mid e → Ends mid rest → ReadsStmt ts rest (expression (place_of ts) e)

  pub data ReadsStmts : Tokens → Tokens → Stmts → Type 0 where
    no_stmt : {ts : Tokens} → ReadsStmts ts ts no_stmts
    next_stmt : {ts mid rest : Tokens} {ss : Stmts} {s : Stmt} → ReadsStmts ts mid ss → ReadsStmt mid rest s → ReadsStmts ts rest (stmts_and ss s)

  -- Item = Service | Function | Statement
  pub data ReadsItem : Tokens → Tokens → Stmt → Type 0 where
    i_function : {ts rest : Tokens} {h : Title} {ns : Names} {ss : Stmts} → ReadsFunction h ts rest ns ss → is_expression (heading_of h) ≡ false → ReadsItem ts rest (declare (place_of ts) h ns ss)
    i_statement : {ts rest : Tokens} {s : Stmt} → ReadsStmt ts rest s → ReadsItem ts rest s

  pub data ReadsItems : Tokens → Tokens → Stmts → Type 0 where
    no_item : {ts : Tokens} → ReadsItems ts ts no_stmts
    next_item : {ts mid rest : Tokens} {ss : Stmts} {s : Stmt} → ReadsItems ts mid ss → ReadsItem mid rest s → ReadsItems ts rest (stmts_and ss s)

-- Program = Item*
abbrev pub IsProgram : Tokens → Stmts → Type 0
IsProgram ts ss = ReadsItems ts [] ss
