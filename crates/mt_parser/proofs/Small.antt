-- The nodes of a source are few enough to be counted in 32 bits.
use Rattle.std.proofs.Common.{◌≡◌, ◌<◌, ◌≤◌, ◌*◌, List, [], Ok, length, arith, ap}
use Rattle.std.proofs.lemmas.List.{length-map}
use Rattle.mt_grammar.specs.Nodes.{stmts_nodes}
use Rattle.mt_grammar.specs.Tree.{Stmts}
use Rattle.mt_lexer.specs.Tokens.{Spelled}
use Rattle.mt_lexer.specs.Verdict.{Reads}
use Rattle.mt_parser_machine.proofs.Turns.{length-tokens_of}
use Rattle.mt_parser_marks.specs.declared.token.Token.{Token}
use Rattle.mt_parser_marks.specs.Tokens.{tokens_in}
use Rattle.mt_parser_marks.specs.Views.{tokens_of}
use Rattle.mt_parser_marks.specs.declared.node.Node.{Node}
use Rattle.mt_parser_marks.specs.NodeViews.{node_of, nodes_of}
use Rattle.mt_parser.proofs.Few.{few_list}

length-nodes_of : (ns : List Node) → length (nodes_of ns) ≡ length ns
unfolding nodes_of
length-nodes_of ns = length-map ns node_of

pub few_nodes : (ts : List Token) (ns : List Node) (s : Spelled) (ss : Stmts) → tokens_of ts ≡ tokens_in s → Reads s.source (Ok s) → nodes_of ns ≡ stmts_nodes ss [] → length (stmts_nodes ss []) ≤ 4 * length (tokens_in s)
    → length ns < 4294967295
few_nodes ts ns s ss same d e bound = omega (arith, bound, ap length e, length-nodes_of ns, ap length same, length-tokens_of ts, few_list ts s same d)
