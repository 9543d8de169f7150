-- The sorts of parts that a syntax tree is made of.
pub data Sort : Type 0 where
  ExprKind : Sort
  ForStart : Sort
  MarkupChild : Sort
  MarkupValue : Sort
  StmtKind : Sort
  Decl : Sort
  Expr : Sort
  Function : Sort
  Markup : Sort
  MarkupAttribute : Sort
  Prop : Sort
  Stmt : Sort
