use Rattle.std.proofs.Common.{◌≡◌, ◌++◌, take}
use Rattle.std.specs.Str.{chars}
use Rattle.std.specs.String.{string_bytes}
use Rattle.mt_ops_methods.proofs.Joins.{rest_shown}
use Rattle.mt_ops_methods.proofs.joining.joined.Given as goal

abbrev pub invariant-loop-item : goal.invariant-loop-item
invariant-loop-item l = chars (string_bytes l.made) ≡ chars (string_bytes l.initial.made) ++ rest_shown l.separator (take l.item-index l.rest)
