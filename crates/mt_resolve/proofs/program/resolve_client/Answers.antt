use Rattle.std.proofs.Common.{rules}
use Rattle.mt_resolve.proofs.Depths.{code_within}
use Rattle.mt_resolve.proofs.program.resolve_client.Goals as goal

pub unreachable-requires : goal.unreachable-requires
unreachable-requires c =
    let refused = c.add_client.ensures.memory (code_within c.args.code.now c.requires) in
    search rules
