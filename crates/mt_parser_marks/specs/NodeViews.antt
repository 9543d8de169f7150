-- What the nodes of the code stand for.
use Rattle.std.specs.Prelude.{List, map}
use Rattle.mt_parser_marks.specs.declared.node.Node.{Node as CodeNode}
use Rattle.mt_parser_marks.specs.declared.node.Node.TheVariants as code_node
use Rattle.mt_parser_marks.specs.Views.{mark_of}
use Rattle.mt_grammar.specs.Nodes.{Node, Nodes}
use Rattle.mt_grammar.specs.Nodes as n

abbrev pub node_of : CodeNode → Node
node_of (code_node.Name x0) = n.Name (mark_of x0)
node_of (code_node.Number x0) = n.Number (mark_of x0)
node_of (code_node.Text x0) = n.Text (mark_of x0)
node_of (code_node.Property x0) = n.Property (mark_of x0)
node_of (code_node.Constant x0 x1) = n.Constant x0 x1
node_of (code_node.Array x0 x1) = n.Array x0 x1
node_of (code_node.Object x0 x1) = n.Object x0 x1
node_of (code_node.Function x0 x1 x2 x3) = n.Function x0 x1 x2 x3
node_of (code_node.Unary x0 x1) = n.Unary x0 x1
node_of (code_node.Step x0 x1) = n.Step x0 x1
node_of (code_node.Operation x0 x1) = n.Operation x0 x1
node_of (code_node.Condition x0) = n.Condition x0
node_of (code_node.Assign x0 x1) = n.Assign x0 x1
node_of (code_node.Index x0) = n.Index x0
node_of (code_node.Call x0 x1) = n.Call x0 x1
node_of (code_node.Tilde x0 x1) = n.Tilde x0 x1
node_of (code_node.Dollar x0) = n.Dollar x0
node_of (code_node.Element x0 x1 x2) = n.Element x0 x1 x2
node_of (code_node.Word x0) = n.Word (mark_of x0)
node_of (code_node.QuotedKey x0) = n.QuotedKey (mark_of x0)
node_of (code_node.AttributeName x0) = n.AttributeName (mark_of x0)
node_of (code_node.AttributeQuoted x0) = n.AttributeQuoted (mark_of x0)
node_of code_node.AttributeTilde = n.AttributeTilde
node_of code_node.AttributeDollar = n.AttributeDollar
node_of (code_node.ChildText x0) = n.ChildText (mark_of x0)
node_of code_node.ChildDirect = n.ChildDirect
node_of code_node.ChildDollar = n.ChildDollar
node_of (code_node.DeclName x0) = n.DeclName (mark_of x0)
node_of code_node.DeclValue = n.DeclValue
node_of code_node.Absent = n.Absent
node_of code_node.Present = n.Present
node_of code_node.StartOptional = n.StartOptional
node_of (code_node.StartVars x0) = n.StartVars x0
node_of (code_node.Expression x0) = n.Expression x0
node_of (code_node.Var x0 x1 x2) = n.Var x0 x1 x2
node_of (code_node.Declare x0 x1 x2 x3) = n.Declare x0 x1 x2 x3
node_of (code_node.If x0) = n.If x0
node_of (code_node.IfElse x0) = n.IfElse x0
node_of (code_node.While x0) = n.While x0
node_of (code_node.For x0) = n.For x0
node_of (code_node.Return x0) = n.Return x0
node_of (code_node.Jump x0 x1) = n.Jump x0 x1
node_of (code_node.Throw x0) = n.Throw x0
node_of (code_node.Try x0) = n.Try x0
node_of (code_node.Block x0 x1) = n.Block x0 x1
node_of (code_node.Empty x0) = n.Empty x0

-- the nodes in order
unfoldable pub nodes_of : List CodeNode → Nodes
nodes_of ns = map node_of ns
