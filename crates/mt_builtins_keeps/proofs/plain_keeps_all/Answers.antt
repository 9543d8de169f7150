use Rattle.mt_builtins_keeps.proofs.Keeping.{keeps_all}
use Rattle.mt_builtins_keeps.proofs.plain_keeps_all.Goals as goal

pub returns : goal.returns
returns c numbers most small = keeps_all numbers most small
