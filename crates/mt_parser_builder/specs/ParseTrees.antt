-- What a node makes with all that stands in it.
use Rattle.mt_parser_builder.specs.declared.parse_tree.ParseTree.{ParseTree}
use Rattle.mt_parser_builder.specs.declared.parse_tree.ParseTree.TheOpen.{ParseTree-F}
use Rattle.mt_parser_builder.specs.declared.parse_tree.ParseTree.TheFolds.{fold-ParseTree}
use Rattle.mt_parser_builder.specs.Making.{Making, node_made}

abbrev pub layer_made : ParseTree-F Making → Making
layer_made layer = node_made layer.part layer.children

abbrev pub made_by : ParseTree → Making
made_by = fold-ParseTree Making layer_made
