-- The units of a page, each of whose functions has a number.
use Rattle.std.specs.Prelude.{List}
use Rattle.mt_eval_meaning.specs.States.{Numbered}
use Rattle.mt_resolve.specs.Resolved.{AreNumbered, around_client}
use Rattle.mt_resolve.specs.Services.{Contents}

abbrev pub IsPage : Contents → Type 0
IsPage units = (table : List Numbered) × AreNumbered around_client units.functions table
