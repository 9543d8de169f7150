use Rattle.std.proofs.Common.{◌≡◌, ◌++◌, take}
use Rattle.std.specs.List.{flat_map}
use Rattle.mt_page_write.specs.Written.{html_written}
use Rattle.mt_page_write.proofs.nodes.+html.Given as goal

abbrev pub invariant-append_children-loop-child : goal.invariant-append_children-loop-child
invariant-append_children-loop-child l = l.into.items ≡ l.fn.into.items ++ flat_map (html_written l.tildes) (take l.child-index l.children)
