use Rattle.mt_parser_builder.proofs.Whole.{never_malformed}
use Rattle.mt_parser_builder.proofs.building.build.Goals as goal

pub unreachable-requires : goal.unreachable-requires
unreachable-requires c =
    never_malformed c.args.nodes.now c.requires.few c.requires.tree c.made.result c.in-Err-Malformed.field-0 c.in-Err-Malformed.is c.in-Err-Malformed.field-0-is c.made.ensures
