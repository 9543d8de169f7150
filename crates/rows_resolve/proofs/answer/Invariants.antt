use Rattle.rows_resolve.specs.Pages.{IsPage}
use Rattle.rows_resolve.proofs.answer.Given as goal

abbrev pub invariant-loop-at : goal.invariant-loop-at
invariant-loop-at l = IsPage l.page.units
