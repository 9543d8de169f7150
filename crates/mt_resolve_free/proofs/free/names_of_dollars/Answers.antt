use Rattle.std.proofs.Common.{ap, ◌∙◌}
use Rattle.mt_eval_meaning.specs.Free.{finding}
use Rattle.mt_resolve_free.specs.Tildes.{names_at}
use Rattle.mt_resolve_free.proofs.Joins.{free_of_all}
use Rattle.mt_syntax.specs.Fold.{on_expr}
use Rattle.mt_resolve_free.proofs.free.names_of_dollars.Goals as goal

pub returns : goal.returns
returns c = c.into_free.ensures ∙ ap (λ used. used.free) c.in_ok-exprs.ensures ∙ free_of_all (on_expr (finding (names_at c.args.names.now))) c.args.dollars.now
