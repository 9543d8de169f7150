-- The trees that nodes stand for, each node behind those in it.
use Rattle.std.specs.Prelude.{◌-◌, List, [], ◌∷◌, ◌++◌, length, take, drop, nat_lt, Option, None, Some, option_and_then, if◌then◌else◌}
use Rattle.mt_grammar.specs.Nodes.{Node, Nodes}
use Rattle.mt_grammar.specs.Nodes as n
use Rattle.mt_grammar.specs.Depth.{inside}
use Rattle.mt_parser_marks.specs.Values.{name_of, number_of, text_of, quoted_of, child_text_of}
use Rattle.mt_parser_builder.specs.declared.part.Part.{Part}
use Rattle.mt_parser_builder.specs.declared.part.Part.TheVariants as part
use Rattle.mt_parser_builder.specs.declared.part.ExprPart.TheVariants as expr
use Rattle.mt_parser_builder.specs.declared.part.StmtPart.TheVariants as stmt
use Rattle.mt_parser_builder.specs.declared.part.Piece.TheVariants as piece
use Rattle.mt_parser_builder.specs.declared.parse_tree.ParseTree.{ParseTree, roll-ParseTree}
use Rattle.mt_parser_builder.specs.Syntax.{mark_of}

abbrev pub part_of : Node → Part
part_of (n.Name m) = part.Expr m.place (expr.Name (name_of m.text))
part_of (n.Number m) = part.Expr m.place (expr.Number (number_of m.text))
part_of (n.Text m) = part.Expr m.place (expr.Text (text_of m.text))
part_of (n.Property m) = part.Expr m.place (expr.Text (name_of m.text))
part_of (n.Constant p c) = part.Expr p (expr.Constant c)
part_of (n.Array p i) = part.Expr p (expr.Array i)
part_of (n.Object p i) = part.Expr p (expr.Object i)
part_of (n.Function p h m i) = part.Expr p (expr.Function h m i)
part_of (n.Unary p u) = part.Expr p (expr.Unary u)
part_of (n.Step p d) = part.Expr p (expr.Step d)
part_of (n.Operation p o) = part.Expr p (expr.Operation o)
part_of (n.Condition p) = part.Expr p expr.Condition
part_of (n.Assign p o) = part.Expr p (expr.Assign o)
part_of (n.Index p) = part.Expr p expr.Index
part_of (n.Call p i) = part.Expr p (expr.Call i)
part_of (n.Tilde p i) = part.Tilde p i
part_of (n.Dollar p) = part.Dollar p
part_of (n.Element p a c) = part.Expr p (expr.Element a c)
part_of (n.Word m) = part.Piece (piece.Word (mark_of m))
part_of (n.QuotedKey m) = part.Piece (piece.QuotedKey (text_of m.text))
part_of (n.AttributeName m) = part.Piece (piece.AttributeName (mark_of m))
part_of (n.AttributeQuoted m) = part.Piece (piece.AttributeQuoted (quoted_of m.text))
part_of n.AttributeTilde = part.Piece piece.AttributeTilde
part_of n.AttributeDollar = part.Piece piece.AttributeDollar
part_of (n.ChildText m) = part.Piece (piece.ChildText (child_text_of m.text))
part_of n.ChildDirect = part.Piece piece.ChildDirect
part_of n.ChildDollar = part.Piece piece.ChildDollar
part_of (n.DeclName m) = part.Piece (piece.DeclName (mark_of m))
part_of n.DeclValue = part.Piece piece.DeclValue
part_of n.Absent = part.Piece piece.Absent
part_of n.Present = part.Piece piece.Present
part_of n.StartOptional = part.Piece piece.StartOptional
part_of (n.StartVars i) = part.Piece (piece.StartVars i)
part_of (n.Expression p) = part.Stmt p stmt.Expression
part_of (n.Var p d i) = part.Stmt p (stmt.Var d i)
part_of (n.Declare p h m i) = part.Stmt p (stmt.Declare h m i)
part_of (n.If p) = part.Stmt p stmt.If
part_of (n.IfElse p) = part.Stmt p stmt.IfElse
part_of (n.While p) = part.Stmt p stmt.While
part_of (n.For p) = part.Stmt p stmt.For
part_of (n.Return p) = part.Stmt p stmt.Return
part_of (n.Jump p j) = part.Stmt p (stmt.Jump j)
part_of (n.Throw p) = part.Stmt p stmt.Throw
part_of (n.Try p) = part.Stmt p stmt.Try
part_of (n.Block p i) = part.Stmt p (stmt.Block i)
part_of (n.Empty p) = part.Stmt p stmt.Empty

abbrev pub tree : Part → List ParseTree → ParseTree
tree x children = roll-ParseTree (record { part = x; children = children })

-- A node takes as many trees as stand in it, the last ones, and is a tree with them.
abbrev pub grown_by : Node → List ParseTree → Option (List ParseTree)
grown_by x trees =
    if nat_lt (length trees) (inside x) then None else Some (take (length trees - inside x) trees ++ tree (part_of x) (drop (length trees - inside x) trees) ∷ [])

abbrev pub grown_on : Nodes → Option (List ParseTree) → Option (List ParseTree)
grown_on [] trees = trees
grown_on (x ∷ nodes) trees = grown_on nodes (option_and_then (grown_by x) trees)

abbrev pub grown : Nodes → Option (List ParseTree)
grown nodes = grown_on nodes (Some [])
