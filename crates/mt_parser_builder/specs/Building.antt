-- From nodes to a program, where they are those of one.
use Rattle.std.specs.Prelude.{Option, Some, option_and_then, length, map}
use Rattle.mt_syntax.specs.declared.program.Program.{Program}
use Rattle.mt_grammar.specs.Nodes.{Nodes}
use Rattle.mt_parser_builder.specs.declared.tier.Tier.TheVariants as tier
use Rattle.mt_parser_builder.specs.Answer.{on_both}
use Rattle.mt_parser_builder.specs.Parts.{stmt_first, firsts}
use Rattle.mt_parser_builder.specs.Making.{all_made}
use Rattle.mt_parser_builder.specs.ParseTrees.{made_by}
use Rattle.mt_parser_builder.specs.Growing.{grown}
use Rattle.mt_parser_builder.specs.Program.{nothing_found}

abbrev pub program_made : Nodes → Option Program
program_made nodes =
    option_and_then (λ trees. on_both (all_made (map made_by trees) tier.Server nothing_found)
    (λ vs s. on_both (firsts stmt_first (length trees) vs) (λ items us. Some (record { items = items; tildes = s.tildes })))) (grown nodes)
