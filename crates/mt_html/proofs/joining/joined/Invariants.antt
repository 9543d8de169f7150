use Rattle.std.proofs.Common.{◌≡◌, ◌++◌, drop}
use Rattle.std.specs.Str.{chars}
use Rattle.std.specs.String.{string_bytes}
use Rattle.mt_html.specs.Normal.{normal, with_text}
use Rattle.mt_html.proofs.joining.joined.Given as goal

abbrev pub invariant-loop-child : goal.invariant-loop-child
invariant-loop-child l = l.made.items ++ with_text (chars (string_bytes l.run)) (normal (drop l.child-index l.children)) ≡ normal l.children
